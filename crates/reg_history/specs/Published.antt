-- What is published, as facts.
use Rattle.std.specs.Prelude.{ℕ, Bool, true, false, List, [], ◌++◌, map, option_map, unwrap_or, codes}
use Rattle.std.specs.Fmt.{decimal}
use Rattle.std.specs.List.{flat_map}
use Rattle.reg_blocks.specs.Block.{SizedPrefix}
use Rattle.reg_blocks.specs.Digits.{block_text, prefix_text}
use Rattle.reg_early.specs.DayText.{text_of_day}
use Rattle.reg_early.specs.declared.term.Term.{Term}
use Rattle.reg_ranges.specs.Words.{treatment_word}
use Rattle.reg_ranges.specs.declared.range.Range.{Range}
use Rattle.reg_core.specs.declared.entry.PageEntry.{PageEntry}
use Rattle.reg_core.specs.declared.holding.Listed.{Listed}
use Rattle.reg_core.specs.declared.page.Page.{Page}
use Rattle.reg_print.specs.Listing.{run_text, whole}
use Rattle.reg_changes.specs.declared.change.Class.TheVariants as class
use Rattle.reg_changes.specs.declared.change.Details.{Details}
use Rattle.reg_changes.specs.declared.change.Fact.{Fact}
use Rattle.reg_changes.specs.declared.change.PublishedStanding.{PublishedStanding}

-- the word of an entry that is held
abbrev pub held_text : Bool → List ℕ
held_text true = codes "held"
held_text false = []

-- the standing of an entry, without the mark that it was renewed
abbrev pub standing_of : Term → PublishedStanding
standing_of term = record {
  expires = unwrap_or (option_map text_of_day term.expires) [];
  held = held_text term.held;
}

-- what has no standing
abbrev pub no_standing : PublishedStanding
no_standing = record { expires = []; held = [] }

-- no details
abbrev pub no_details : Details
no_details = record {
  description = [];
  policy = [];
  first = [];
  standing = no_standing;
  assignee = [];
}

-- a range of a registry: its note, and the word of its treatment
abbrev pub range_fact : List ℕ → Range → Fact
range_fact name range = record {
  subject = record { registry = name; class = class.Range; value = run_text (whole range) };
  details = record no_details {
    description = unwrap_or range.note [];
    policy = treatment_word range.treatment;
  };
}

-- an entry of a registry: its label, its days, whether it is held, and whose it is
abbrev pub entry_fact : List ℕ → PageEntry → Fact
entry_fact name entry = record {
  subject = record { registry = name; class = class.Entry; value = decimal entry.value };
  details = record {
    description = entry.label;
    policy = [];
    first = text_of_day entry.term.first;
    standing = standing_of entry.term;
    assignee = entry.assignee;
  };
}

-- a prefix of the pool
abbrev pub prefix_fact : ℕ → Fact
prefix_fact prefix = record {
  subject = record { registry = []; class = class.Prefix; value = prefix_text prefix };
  details = no_details;
}

-- a block, without its holder
abbrev pub block_fact : SizedPrefix → Fact
block_fact block = record {
  subject = record { registry = []; class = class.Block; value = block_text block };
  details = no_details;
}

-- a registry: its ranges, and then its entries by value
abbrev pub page_facts : Page → List Fact
page_facts page =
    map (range_fact page.name) page.table.ranges ++ map (entry_fact page.name) page.entries

-- all that is published: the registries by name, the prefixes of the pool by number, and the blocks by
-- first address
abbrev pub published_facts : List Page → List ℕ → List Listed → List Fact
published_facts pages prefixes rows =
    flat_map page_facts pages
    ++ (map prefix_fact prefixes ++ map (λ row. block_fact row.block) rows)
