-- The first page of the site.
use Rattle.std.specs.Prelude.{ℕ, List, [], ◌∷◌, ◌++◌, map, length, codes, Option}
use Rattle.std.specs.Fmt.{decimal}
use Rattle.reg_blocks.specs.Digits.{prefix_text}
use Rattle.reg_blocks.specs.Size.{word_of}
use Rattle.reg_blocks.specs.declared.size.Size.{Size}
use Rattle.reg_blocks.specs.declared.size.Size.TheVariants.{MaL, MaM, MaS}
use Rattle.reg_core.specs.declared.holding.Listed.{Listed}
use Rattle.reg_print.specs.Listing.{run_text}
use Rattle.reg_pages.specs.Blocks.{rows_of}
use Rattle.reg_pages.specs.Document.{attribute, document, link, page, plain}
use Rattle.reg_pages.specs.Markup.{Markup, nothing, text, element, beside, all_of, markup_then, opening_then}
use Rattle.reg_history.specs.Moment.{moment_text}
use Rattle.reg_site.specs.Policy.{treatment_name}
use Rattle.reg_pages.specs.Table.{head_of, row_of, table}
use Rattle.reg_pages.specs.declared.note.Note.{Note}
use Rattle.reg_pages.specs.declared.notes.Notes.{Notes}
use Rattle.reg_pages.specs.Noted.{apply_lines, noted_in, title_in, words_in}
use Rattle.reg_pages.specs.Notes.{authority}
use Rattle.reg_site.specs.Records.{title_of}
use Rattle.reg_site.specs.IndexTree.{IndexRow}
use Rattle.reg_site.specs.declared.summary.RangeShare.{RangeShare}
use Rattle.reg_site.specs.declared.summary.Summary.{Summary}

-- ---- The registries

-- values and their policy, as an item of a list
abbrev pub share_texts : List ℕ → List ℕ → Markup
share_texts values policy =
    plain (codes "li") (all_of (text values ∷ text (codes " ") ∷ text policy ∷ []))

-- a range with its policy
abbrev pub share_item : RangeShare → Markup
share_item s = share_texts (run_text s.values) (treatment_name s.treatment)

-- where the page of a registry is
abbrev pub page_place : List ℕ → List ℕ
page_place name = codes "registries/" ++ (name ++ codes ".html")

-- when a registry was last changed; nothing where it is not known
abbrev pub changed_part : List ℕ → Markup
changed_part [] = nothing
changed_part (b ∷ more) =
    element (codes "div") (attribute (codes "class") (codes "note") ∷ [])
    (beside (text (codes "Last changed ")) (plain (codes "time") (text (b ∷ more))))

-- the title of a registry; nothing where it is empty
abbrev pub title_part : List ℕ → Markup
title_part [] = nothing
title_part (b ∷ more) = plain (codes "div") (text (b ∷ more))

-- what heads the row of a registry: its title, its name, by which its page is found, and its last change
abbrev pub name_cell : List ℕ → List ℕ → List ℕ → Markup
name_cell title name changed =
    head_of (beside (title_part title) (beside (link (page_place name) name) (changed_part changed)))

abbrev pub number_cell : ℕ → Markup
number_cell n = plain (codes "td") (text (decimal n))

-- a registry as a row, which is found by its name, with what is noted about it, by the moment of its last
-- change
abbrev pub registry_row : Option Note → List ℕ → Summary → Markup
registry_row note changed s =
    row_of s.name
    (all_of
    (name_cell (title_in note) s.name changed
    ∷ plain (codes "td") (plain (codes "ul") (all_of (map share_item s.shares)))
    ∷ number_cell s.assigned ∷ number_cell s.temporary ∷ number_cell s.expired
    ∷ number_cell s.free ∷ []))

-- such a row up to its policies, by the title and the name, and then the rest
abbrev pub name_start : List ℕ → List ℕ → List ℕ → List ℕ → List ℕ
name_start title name changed rest =
    opening_then (codes "tr") (attribute (codes "id") name ∷ [])
    (markup_then (name_cell title name changed) rest)

-- the same of a registry beside others, with these notes
abbrev pub register_row : Option Notes → IndexRow → Markup
register_row notes r = registry_row (noted_in notes r.0.name) r.1 r.0

abbrev pub registry_columns : List (List ℕ)
registry_columns =
    codes "Registry" ∷ codes "Policies" ∷ codes "Assigned" ∷ codes "Temporary" ∷ codes "Expired"
    ∷ codes "Free" ∷ []

abbrev pub registries_table : List Markup → Markup
registries_table rows =
    table (codes "registries") (codes "Registries") registry_columns (all_of rows)

-- the registries, or that there are none
abbrev pub registries_shown : List Markup → Markup
registries_shown [] = plain (codes "p") (text (codes "There are no registries yet."))
registries_shown (first ∷ more) = registries_table (first ∷ more)

-- ---- The pool and the blocks

-- a prefix of the pool, as an item
abbrev pub prefix_item : ℕ → Markup
prefix_item prefix = plain (codes "li") (text (prefix_text prefix))

-- the prefixes of the pool by this markup
abbrev pub under_prefixes : Markup → Markup
under_prefixes below = beside (plain (codes "h2") (text (codes "Prefixes"))) below

-- the same as a list
abbrev pub prefixes_shown : List ℕ → Markup
prefixes_shown prefixes = under_prefixes (plain (codes "ul") (all_of (map prefix_item prefixes)))

-- the same, or that there are none
abbrev pub pool_list : List ℕ → Markup
pool_list [] = under_prefixes (plain (codes "p") (text (codes "There are no prefixes yet.")))
pool_list (first ∷ more) = prefixes_shown (first ∷ more)

-- a file of IEEE's form, and how many blocks it has
abbrev pub size_item : List ℕ → Size → List Listed → Markup
size_item file size rows =
    plain (codes "li")
    (all_of
    (link file (word_of size) ∷ text (codes ": ") ∷ text (decimal (length (rows_of size rows))) ∷ []))

abbrev pub block_counts : List Listed → Markup
block_counts rows =
    beside (plain (codes "h2") (link (codes "blocks.html") (codes "Blocks")))
    (plain (codes "ul")
    (all_of
    (size_item (codes "oui.csv") MaL rows
    ∷ size_item (codes "mam.csv") MaM rows
    ∷ size_item (codes "oui36.csv") MaS rows ∷ [])))

-- ---- The page

-- links to the blocks, to the last changes, and to the index for programs, and when the site was published
abbrev pub top : ℕ → Markup
top moment =
    beside
    (plain (codes "p")
    (all_of
    (link (codes "blocks.html") (codes "Blocks") ∷ text (codes " ")
    ∷ link (codes "changes.html") (codes "Changes") ∷ text (codes " ")
    ∷ link (codes "index.json") (codes "JSON") ∷ [])))
    (plain (codes "p") (beside (text (codes "As of ")) (plain (codes "time") (text (moment_text moment)))))

-- what else the authority says about itself
abbrev pub said : List ℕ → Markup
said [] = nothing
said (b ∷ more) = plain (codes "p") (text (b ∷ more))

-- the first page by its title: links, the moment, what the authority says, these lines about where to apply,
-- the registries as rows, the pool and the blocks
abbrev pub index_markup : Option Note → Markup → List Markup → List ℕ → List Listed → ℕ → Markup
index_markup authority lines rows prefixes blocks moment =
    page (codes "style.css") (codes "changes.atom") (title_of authority (codes "Registries"))
    (all_of
    (top moment ∷ said (words_in authority) ∷ lines ∷ registries_shown rows
    ∷ pool_list prefixes ∷ block_counts blocks ∷ []))

unfoldable pub index_by_rows : Option Note → Markup → List Markup → List ℕ → List Listed → ℕ → List ℕ
index_by_rows authority lines rows prefixes blocks moment =
    document (index_markup authority lines rows prefixes blocks moment)

-- the bytes of the first page, with what is noted about the authority and the registries
abbrev pub index_page : Option Notes → List IndexRow → List ℕ → List Listed → ℕ → List ℕ
index_page notes rows prefixes blocks moment =
    index_by_rows (noted_in notes authority) (apply_lines notes) (map (register_row notes) rows)
    prefixes blocks moment
