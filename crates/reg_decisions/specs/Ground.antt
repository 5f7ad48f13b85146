-- The published rows that an ask needs, as the code has them.
use Rattle.std.specs.Prelude.{◌≡◌, ℕ, List, Option, Some, None, option_and_then, option_map}
use Rattle.std.specs.FinMap.{get, keys}
use Rattle.std.specs.List.Sorted.{IsNonDecreasingBy, IsStrictlyIncreasing}
use Rattle.std.specs.Option.{option_copied}
use Rattle.reg_blocks.specs.Block.{SizedPrefix, first_address}
use Rattle.reg_blocks.specs.Due.{block_due}
use Rattle.reg_blocks.specs.declared.size.Size.{Size}
use Rattle.reg_ranges.specs.FreeValues.{least_value}
use Rattle.reg_ranges.specs.Tables.{Table}
use Rattle.reg_core.specs.Allowance.{Ground, entry_wanted}
use Rattle.reg_core.specs.Entry.{registration_in}
use Rattle.reg_core.specs.FirstRefusals.{want_of}
use Rattle.reg_core.specs.LeastFree.{values_in}
use Rattle.reg_core.specs.View.{Published}
use Rattle.reg_core.specs.declared.ask.Ask.{Ask}
use Rattle.reg_core.specs.declared.ask.Ask.TheVariants as asks
use Rattle.reg_core.specs.declared.ask.Want.{Want}
use Rattle.reg_core.specs.declared.ask.Want.TheVariants.{Value, Least}
use Rattle.reg_decisions.specs.declared.allowance.FoundGround.{FoundGround}
use Rattle.reg_decisions.specs.declared.checking.Ground.{Ground as Rows}
use Rattle.reg_decisions.specs.declared.checking.Ground.TheVariants.{Code, Block}

-- the same of what the code has found for an ask
abbrev pub seen : FoundGround → Ground
seen rows = record {
  table = option_copied rows.table;
  entry = option_map registration_in (option_copied rows.entry);
  least = rows.least;
  due = option_copied rows.due;
}

-- ---- By the published rows

-- the size of the block that an ask wants; one for a value wants no block
abbrev pub size_wanted : Ask → Option Size
size_wanted (asks.Code ask) = None
size_wanted (asks.Early ask) = None
size_wanted (asks.Renew ask) = None
size_wanted (asks.Permanent ask) = None
size_wanted (asks.Block ask) = Some ask.size

-- the least value of a registry that is not taken, where the least one is wanted
abbrev pub least_among : Option Table → List ℕ → Option Want → Option ℕ
least_among table taken (Some (Least policy)) =
    option_and_then (λ table. least_value table policy taken) table
least_among table taken (Some (Value v)) = None
least_among table taken None = None

-- the block due, where a block is wanted
abbrev pub due_among : List ℕ → List SizedPrefix → Option Size → Option SizedPrefix
due_among pool blocks wanted = option_and_then (block_due pool blocks) wanted

-- what an ask needs, found in the rows. Those of the other kind have nothing of it
abbrev pub ground_in : Rows → Ask → Ground
ground_in (Code table entry taken) ask = record {
  table = option_copied table;
  entry = option_map registration_in (option_copied entry);
  least = least_among (option_copied table) taken.now (want_of ask);
  due = None;
}
ground_in (Block pool blocks) ask = record {
  table = None;
  entry = None;
  least = None;
  due = due_among pool.now blocks.now (size_wanted ask);
}

-- the values that are taken ascend, or the blocks do, by first address
abbrev pub Ascend : Rows → Type 0
Ascend (Code table entry taken) = IsStrictlyIncreasing taken.now
Ascend (Block pool blocks) = IsNonDecreasingBy first_address blocks.now

-- ---- Of published registers

-- the values that are taken are those of the registry that have entries, where the least one is
-- wanted
abbrev pub AreTakenFor : Published → List ℕ → Want → List ℕ → Type 0
AreTakenFor p registry (Value v) taken = Unit {0}
AreTakenFor p registry (Least policy) taken = taken ≡ values_in registry p.entries

-- the rows are those that an ask needs that wants this of a registry
abbrev pub AreValueRows : Published → List ℕ → Want → Rows → Type 0
AreValueRows p registry want (Code table entry taken) =
    (option_copied table ≡ get p.registries registry)
    × (option_map registration_in (option_copied entry) ≡ entry_wanted p registry want)
    × AreTakenFor p registry want taken.now
AreValueRows p registry want (Block pool blocks) = ⊥

-- the rows are those that an ask for a block needs
abbrev pub AreBlockRows : Published → Rows → Type 0
AreBlockRows p (Code table entry taken) = ⊥
AreBlockRows p (Block pool blocks) = (pool.now ≡ keys p.pool) × (blocks.now ≡ keys p.blocks)

-- the rows are those of the published registers that an ask needs
abbrev pub AreRowsFor : Published → Ask → Rows → Type 0
AreRowsFor p (asks.Code ask) rows = AreValueRows p ask.registry ask.want rows
AreRowsFor p (asks.Early ask) rows = AreValueRows p ask.registry ask.want rows
AreRowsFor p (asks.Renew ask) rows = AreValueRows p ask.registry (Value ask.value) rows
AreRowsFor p (asks.Permanent ask) rows = AreValueRows p ask.registry (Value ask.value) rows
AreRowsFor p (asks.Block ask) rows = AreBlockRows p rows
