-- What the tables of an office hold, each by its keys, and how the rows of a table are read and written.
use Rattle.std.specs.Prelude.{ℕ, ◌+◌, Bool, true, false, ◌&&◌, List, [], ◌∷◌, Option, map}
use Rattle.std.specs.FinMap.{FinMap}
use Rattle.std.specs.List.{range_with_len}
use Rattle.std.specs.Ordering.{nat_cmp}
use Rattle.std.specs.declared.cmp.Ordering.{Ordering}
use Rattle.sqlite.specs.Order.{Row, column}
use Rattle.sqlite.specs.Table.{Table}
use Rattle.sqlite.specs.declared.types.Value.{Value}
use Rattle.sqlite.specs.declared.types.Value.TheVariants.{Text}
use Rattle.reg_maps.specs.Maps.{text_cmp}
use Rattle.reg_blocks.specs.Block.{SizedPrefix, block_cmp, first_address}
use Rattle.reg_blocks.specs.Size.{word_of}
use Rattle.reg_ranges.specs.declared.range.Range.{Range}
use Rattle.reg_core.specs.World.{Link, Place, RequestName, Seat, link_cmp, name_cmp, place_cmp, seat_cmp}
use Rattle.reg_core.specs.declared.advice.Advice.{Advice}
use Rattle.reg_core.specs.declared.capability.Cap.{Cap}
use Rattle.reg_core.specs.declared.entry.Registration.{Registration}
use Rattle.reg_core.specs.declared.holding.Holder.{Holder}
use Rattle.reg_core.specs.declared.journal.Act.{Act}
use Rattle.reg_core.specs.declared.request.Case.{Case}
use Rattle.reg_records.specs.Columns.{whole_value}
use Rattle.reg_tables.specs.Values.{same_value}
use Rattle.reg_statements.specs.Tables.{Tables}

-- what each table holds; of a registry its largest value, and its ranges by their first values; of
-- entries and requests what their own rows have, and in parts of their own the marks of those that
-- are held and the minutes of those that name one; acts by their numbers
pub record Parts : Type 0 where
  pub caps : FinMap text_cmp Cap
  pub maxes : FinMap text_cmp ℕ
  pub ranges : FinMap place_cmp Range
  pub entries : FinMap place_cmp Registration
  pub requests : FinMap name_cmp Case
  pub queue : FinMap seat_cmp (Unit {0})
  pub advice : FinMap seat_cmp Advice
  pub pool : FinMap nat_cmp (Unit {0})
  pub blocks : FinMap block_cmp Holder
  pub holds : FinMap place_cmp (Unit {0})
  pub minutes : FinMap name_cmp (List ℕ)
  pub agents : FinMap link_cmp (Unit {0})
  pub journal : FinMap nat_cmp Act

-- ---- Keys

-- how keys compare, and what the columns of one hold, which are the first of its table
pub record KeyDef (K : Type 0) : Type 0 where
  pub order : K → K → Ordering
  pub width : ℕ
  pub cells : K → Row

abbrev pub text_key : KeyDef (List ℕ)
text_key = record { order = text_cmp; width = 1; cells = λ text. Text text ∷ [] }

abbrev pub number_key : KeyDef ℕ
number_key = record { order = nat_cmp; width = 1; cells = λ n. whole_value n ∷ [] }

abbrev pub name_key : KeyDef RequestName
name_key = record {
  order = name_cmp;
  width = 2;
  cells = λ name. Text name.0 ∷ Text name.1 ∷ [];
}

abbrev pub place_key : KeyDef Place
place_key = record {
  order = place_cmp;
  width = 2;
  cells = λ place. Text place.0 ∷ whole_value place.1 ∷ [];
}

abbrev pub seat_key : KeyDef Seat
seat_key = record {
  order = seat_cmp;
  width = 3;
  cells = λ seat. Text seat.0.0 ∷ Text seat.0.1 ∷ Text seat.1 ∷ [];
}

abbrev pub block_key : KeyDef SizedPrefix
block_key = record {
  order = block_cmp;
  width = 2;
  cells = λ block. whole_value (first_address block) ∷ Text (word_of block.size) ∷ [];
}

abbrev pub link_key : KeyDef Link
link_key = record {
  order = link_cmp;
  width = 2;
  cells = λ link. Text link.0 ∷ Text link.1 ∷ [];
}

-- the first n columns of a table, each with the parameter of its place
abbrev pub pairs : ℕ → List (ℕ × ℕ)
pairs n = map (λ i. (i + 1, i)) (range_with_len 0 n)

-- the first n columns of a table, with the values that they are to have
abbrev pub cells_of : ℕ → Row → List (ℕ × Value)
cells_of n params = map (λ p. (p.0, column params p.1)) (pairs n)

-- the values are the same, one by one
abbrev pub same_cells : Row → Row → Bool
same_cells [] [] = true
same_cells [] (b ∷ others) = false
same_cells (a ∷ more) [] = false
same_cells (a ∷ more) (b ∷ others) = same_value a b && same_cells more others

-- ---- Tables

-- A table whose rows are the values of keys: its definition, its place among the tables, how many
-- columns it has, how they are read and written, and what has its form; the key and the value of what was read, and back; what
-- a row has, by its key; its rows; and the part of the office that they are.
pub record TableDef (T K X : Type 0) : Type 0 where
  pub key : KeyDef K
  pub table : Table
  pub slot : ℕ
  pub width : ℕ
  pub read : Row → Option T
  pub values : T → Row
  pub form : T → Bool
  pub pair : T → K × X
  pub item : K → X → T
  pub at : Row → Option (K × X)
  pub rows : Tables → List Row
  pub part : Parts → FinMap key.order X
  pub put : FinMap key.order X → Parts → Parts
