-- A table whose rowids a query shows, each below the next, has its rows by rowids.
use Rattle.std.proofs.Common.{◌≡◌, ℕ, ℤ, List, [], ◌∷◌, ◌++◌, map, true, refl, sym, ap, subst, ◌∙◌}
use Rattle.std.proofs.Common.{Option, Some, None, option_map, IsPermutation}
use Rattle.std.proofs.lemmas.List.{map-append}
use Rattle.std.proofs.lemmas.List.Sorted.{IsPermutation-map, IsPermutation-refl}
use Rattle.std.proofs.lemmas.Simd.{map-map}
use Rattle.std.specs.Cmp.{int_cmp_total}
use Rattle.std.specs.FinMap.{int_cmp-IsAntisymmetric}
use Rattle.std.specs.List.{AllByRecursion}
use Rattle.std.specs.List.Sorted.{IsStrictlySortedBy}
use Rattle.std.specs.Ordering.{int_cmp}
use Rattle.std.specs.declared.cmp.Ordering.TheVariants.{Less}
use Rattle.sqlite.specs.Order.{Row, column, value_cmp}
use Rattle.sqlite.specs.State.{State, Shown}
use Rattle.sqlite.specs.Term.{Term, col}
use Rattle.sqlite.specs.Tree.{rowid}
use Rattle.sqlite.specs.declared.types.Value.{Value}
use Rattle.sqlite.specs.declared.types.Value.TheVariants.{Null, Int, Real, Text, Blob}
use Rattle.sqlite_trees.specs.Tree.{IsTable}
use Rattle.sqlite_trees.specs.View.{is_int}
use Rattle.sqlite_value.specs.declared.keys.Key.{Key}
use Rattle.sqlite_value.proofs.OrderLemmas.{value_cmp-Int}
use Rattle.reg_maps.proofs.MapLaws.{IsKeyOrder}
use Rattle.reg_maps.proofs.RowMaps.Lists.{filter_true}
use Rattle.reg_records.specs.Columns.{int_in}
use Rattle.reg_tables.specs.Editing.{AreKeyed}
use Rattle.reg_tables.specs.Selecting.{BeginsWith, shows}
use Rattle.reg_tables.proofs.Library.Rowids.{keyed_if_shown}
use Rattle.reg_tables.proofs.SelectLemmas.{selected}
use Rattle.reg_statements.specs.Loading.{IsAscending, ReadAs}
use Rattle.reg_opening.specs.Feeding.{rowids_of}
use Rattle.reg_opening.specs.Numbered.{IsRising, last_of, numbered_in}
use Rattle.reg_opening.specs.Rowids.{SelectsRowids, rowid_in}
use Rattle.reg_opening.specs.declared.numbered.Numbered.{Numbered}
use Rattle.reg_statements.proofs.Neighbours.{strict}

int_keys : IsKeyOrder int_cmp
int_keys = record { total = int_cmp_total; exact = int_cmp-IsAntisymmetric }

is_whole : (v : Value) (n : ℤ) → int_in v ≡ Some n → v ≡ Int n
is_whole Null n is = absurd (cc)
is_whole (Int m) n is = cc
is_whole (Real x) n is = absurd (cc)
is_whole (Text x) n is = absurd (cc)
is_whole (Blob x) n is = absurd (cc)

whole : (rows : List Row) (ids : List ℤ) → ReadAs rowid_in rows ids
    → AllByRecursion (λ r. is_int (rowid r) ≡ true) rows
whole [] ids read = tt
whole (r ∷ rows) [] read = absurd (cc)
whole (r ∷ rows) (n ∷ ids) read =
    let first : rowid_in r ≡ Some n = cc in
    let rest : map rowid_in rows ≡ map Some ids = cc in
    (ap is_int (is_whole (rowid r) n first), whole rows ids rest)

above : (r : Row) (n : ℤ) (rows : List Row) (ids : List ℤ) → rowid r ≡ Int n
    → ReadAs rowid_in rows ids → AllByRecursion (λ m. int_cmp n m ≡ Less) (map (λ m. m) ids)
    → AllByRecursion (λ q. value_cmp (rowid r) (rowid q) ≡ Less) rows
above r n [] ids is read all = tt
above r n (q ∷ rows) [] is read all = absurd (cc)
above r n (q ∷ rows) (m ∷ ids) is read all =
    let first : rowid_in q ≡ Some m = cc in
    let rest : map rowid_in rows ≡ map Some ids = cc in (
      (λ i. value_cmp (is i) (is_whole (rowid q) m first i)) ∙ value_cmp-Int n m ∙ all.0,
      above r n rows ids is rest all.1,
    )

rise : (rows : List Row) (ids : List ℤ) → ReadAs rowid_in rows ids
    → IsStrictlySortedBy int_cmp (map (λ m. m) ids) → IsTable rows
unfolding IsStrictlySortedBy
rise [] ids read up = tt
rise (r ∷ rows) [] read up = absurd (cc)
rise (r ∷ rows) (n ∷ ids) read up =
    let first : rowid_in r ≡ Some n = cc in
    let rest : map rowid_in rows ≡ map Some ids = cc in
    (above r n rows ids (is_whole (rowid r) n first) rest up.0, rise rows ids rest up.1)

-- where the rowid of each row stands at one place of what a query shows of it
pub keyed_at : (f : Row → Row) (at : ℕ) → ((r : Row) → column (f r) at ≡ rowid r)
    → (table shown : List Row) (ids : List ℤ) → IsPermutation (map f table) shown
    → map (λ r. int_in (column r at)) shown ≡ map Some ids → IsAscending int_cmp ids
    → AreKeyed table
keyed_at f at same table shown ids moved read up =
    let first : Row → Row = λ r. column r at ∷ [] in
    let shows = map first shown in
    let all = subst (λ rs. IsPermutation rs shows) (map-map first f table)
    (IsPermutation-map first (map f table) shown moved) in
    let reads : ReadAs rowid_in shows ids = map-map rowid_in first shown ∙ read in
    keyed_if_shown (λ r. first (f r)) same table shows all
    (rise shows ids reads (strict int_keys (λ n. n) ids up), whole shows ids reads)

pub keyed_none : AreKeyed []
keyed_none = keyed_at (λ (r : Row). rowid r ∷ []) 0 (λ r. refl) [] [] [] (IsPermutation-refl []) refl tt

pub keyed_shown : (sql : List ℕ) (t : ℕ) (order : List (Term × Key)) (old new : State)
    (rows : List Row) (ids : List ℤ) → SelectsRowids sql t order
    → BeginsWith 4 old.now.schema → Shown sql [] old new rows → ReadAs rowid_in rows ids
    → IsAscending int_cmp ids → AreKeyed (old.now.trees t)
keyed_shown sql t order old new rows ids selects begins answer read up =
    let found = selected sql t [] (col 1 0 ∷ []) order [] old new rows selects
    begins answer in
    let all = subst (λ rs. IsPermutation (map (shows (col 1 0 ∷ []) []) rs) rows)
    (filter_true (old.now.trees t)) found in
    keyed_at (shows (col 1 0 ∷ []) []) 0 (λ r. refl) (old.now.trees t) rows ids all read up

-- ---- Rows that are read with their rowids

-- a number that is above the last comes behind
rises_by : (ids : List ℤ) (last next : ℤ) → last_of ids ≡ Some last → int_cmp last next ≡ Less
    → IsAscending int_cmp ids → IsAscending int_cmp (ids ++ next ∷ [])
rises_by [] last next is less up = absurd (cc)
rises_by (n ∷ []) last next is less up =
    let same : n ≡ last = cc in (ap (λ m. int_cmp m next) same ∙ less, tt)
rises_by (n ∷ m ∷ more) last next is less up = (up.0, rises_by (m ∷ more) last next is less up.1)

last_behind : (ids : List ℤ) (next : ℤ) → last_of (ids ++ next ∷ []) ≡ Some next
last_behind [] next = refl
last_behind (n ∷ []) next = refl
last_behind (n ∷ m ∷ more) next = last_behind (m ∷ more) next

without_last : (ids : List ℤ) → last_of ids ≡ None → ids ≡ []
without_last [] is = refl
without_last (n ∷ []) is = absurd (cc)
without_last (n ∷ m ∷ more) is = let gone = without_last (m ∷ more) is in absurd (cc)

-- so the rowids rise with one more, where there was none, or this is above the last
pub first_rises : (rowids : List (Option ℤ)) (ids : List ℤ) (next : ℤ) → rowids ≡ map Some ids
    → None ≡ last_of ids → (more : List ℤ) × (rowids ++ Some next ∷ [] ≡ map Some more)
    × IsAscending int_cmp more × (Some next ≡ last_of more)
first_rises rowids ids next are none =
    let all : rowids ≡ [] = are ∙ ap (map Some) (without_last ids (sym none)) in
    (next ∷ [], ap (λ rows. rows ++ Some next ∷ []) all, tt, refl)

pub next_rises : (rowids : List (Option ℤ)) (ids : List ℤ) (last next : ℤ) → rowids ≡ map Some ids
    → IsAscending int_cmp ids → Some last ≡ last_of ids → int_cmp last next ≡ Less
    → (more : List ℤ) × (rowids ++ Some next ∷ [] ≡ map Some more)
    × IsAscending int_cmp more × (Some next ≡ last_of more)
next_rises rowids ids last next are up is less = (
  ids ++ next ∷ [],
  ap (λ rows. rows ++ Some next ∷ []) are ∙ sym (map-append Some ids (next ∷ [])),
  rises_by ids last next (sym is) less up,
  sym (last_behind ids next),
)

-- the last of numbers that rise is above the others
last_rises : (ids : List ℤ) (next : ℤ) → IsAscending int_cmp (ids ++ next ∷ [])
    → (last : ℤ) → last_of ids ≡ Some last → int_cmp last next ≡ Less
last_rises [] next up last is = absurd (cc)
last_rises (n ∷ []) next up last is =
    let same : n ≡ last = cc in ap (λ m. int_cmp m next) (sym same) ∙ up.0
last_rises (n ∷ m ∷ more) next up last is = last_rises (m ∷ more) next up.1 last is

-- rowids that rise with one more: those before, and the one
split : (rowids : List (Option ℤ)) (next : Option ℤ) (ids : List ℤ)
    → rowids ++ next ∷ [] ≡ map Some ids
    → (before : List ℤ) × (last : ℤ) × (rowids ≡ map Some before) × (next ≡ Some last)
    × (ids ≡ before ++ last ∷ [])
split [] next [] are = absurd (cc)
split [] next (n ∷ []) are = ([], n, refl, cc, refl)
split [] next (n ∷ m ∷ ids) are = absurd (cc)
split (r ∷ rowids) next [] are = absurd (cc)
split (r ∷ rowids) next (n ∷ ids) are =
    let first : r ≡ Some n = cc in
    let rest : rowids ++ next ∷ [] ≡ map Some ids = cc in
    let parts = split rowids next ids rest in (
      n ∷ parts.0,
      parts.1,
      (λ i. first i ∷ parts.2 i),
      parts.3,
      ap (λ more. n ∷ more) parts.4,
    )

pub parted : (rowids : List (Option ℤ)) (next : Option ℤ) → IsRising (rowids ++ next ∷ [])
    → (before : List ℤ) × (last : ℤ) × (rowids ≡ map Some before) × (next ≡ Some last)
    × ((n : ℤ) → last_of before ≡ Some n → int_cmp n last ≡ Less)
parted rowids next rising =
    let parts = split rowids next rising.0 rising.1 in
    let up = subst (IsAscending int_cmp) parts.4 rising.2 in
    (parts.0, parts.1, parts.2, parts.3, last_rises parts.0 parts.1 up)

-- and those before rise
before_last : (ids : List ℤ) (next : ℤ) → IsAscending int_cmp (ids ++ next ∷ [])
    → IsAscending int_cmp ids
before_last [] next up = tt
before_last (n ∷ []) next up = tt
before_last (n ∷ m ∷ more) next up = (up.0, before_last (m ∷ more) next up.1)

pub rises_to : (rowids : List (Option ℤ)) (next : Option ℤ) → IsRising (rowids ++ next ∷ [])
    → IsRising rowids
rises_to rowids next rising =
    let parts = split rowids next rising.0 rising.1 in
    let up = subst (IsAscending int_cmp) parts.4 rising.2 in
    (parts.0, parts.2, before_last parts.0 parts.1 up)

module _ {T : Type 0} where
  -- and stand where they were read
  pub rowids_read : (read : Row → Option T) (at : ℕ) (shown : List Row) (rows : List (Numbered T))
      → ReadAs (numbered_in read at) shown rows
      → map (λ r. int_in (column r at)) shown ≡ rowids_of rows
  rowids_read read at [] [] is = refl
  rowids_read read at [] (row ∷ rows) is = absurd (cc)
  rowids_read read at (r ∷ shown) [] is = absurd (cc)
  rowids_read read at (r ∷ shown) (row ∷ rows) is =
      let first : numbered_in read at r ≡ Some row = cc in
      let rest : map (numbered_in read at) shown ≡ map Some rows = cc in
      λ i. one (read r) first i ∷ rowids_read read at shown rows rest i
    where
      one : (value : Option T)
          → option_map (λ value. record { value = value; rowid = int_in (column r at) }) value ≡ Some row
          → int_in (column r at) ≡ row.rowid
      one None is = absurd (cc)
      one (Some value) is = cc
