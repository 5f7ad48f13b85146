-- An INSERT of one row, all of whose columns are parameters.
use Rattle.std.proofs.Common.{◌≡◌, ℕ, ◌+◌, ◌*◌, ◌/◌, List, [], ◌∷◌, ◌++◌, length, map, slice_get}
use Rattle.std.proofs.Common.{Some, drop, ◌-◌, false, refl, sym, ap, subst, ◌∙◌, arith, append_assoc, length-append}
use Rattle.std.specs.List.{range_with_len}
use Rattle.std.proofs.lemmas.List.{take_all, append-nil}
use Rattle.std.proofs.lemmas.List.FromFn.{length-map-range_with_len}
use Rattle.std.proofs.lemmas.Nat.{div-mul-add}
use Rattle.sqlite.specs.declared.types.Value.TheVariants.{Null}
use Rattle.sqlite.specs.Cast.{cast_all}
use Rattle.sqlite.specs.Command.TheVariants.{Insert}
use Rattle.sqlite.specs.Effect.{value_rows}
use Rattle.sqlite.specs.Listing.{understood}
use Rattle.sqlite.specs.Order.{Row, column}
use Rattle.sqlite.specs.Rows.{stamped}
use Rattle.sqlite.specs.Source.TheVariants.{Values}
use Rattle.sqlite.specs.Table.{Table}
use Rattle.sqlite.specs.Term.{Term, col, eval_all, lit}
use Rattle.sqlite.proofs.Callers.{IsPlain, command_of}
use Rattle.reg_tables.specs.Bare.{no_stamps}
use Rattle.reg_tables.specs.Kinds.{WritesRows}
use Rattle.reg_tables.specs.Schema.{office_schema}
use Rattle.reg_tables.proofs.InsertLemmas.{Adds}
use Rattle.reg_tables.proofs.Library.Casts.{cast_null}
use Rattle.reg_tables.proofs.Library.RowLists.{column_after}
use Rattle.sqlite_schema.specs.declared.schema.Stamps.{Stamps}

-- no rowid, and then so many parameters
abbrev pub given_terms : ℕ → List Term
given_terms n = lit Null ∷ map (col 0) (range_with_len 0 n)

-- the text adds one row of parameters, one for each column
pub record AddsGiven (sql : List ℕ) (at : ℕ) (table : Table) : Type 0 where
  pub slot : slice_get office_schema.tables at ≡ Some table
  pub is : command_of (understood office_schema sql)
      ≡ Insert at (Values (given_terms (length table.columns)) (length table.columns + 1))
  pub plain : IsPlain (understood office_schema sql)
  pub counts : table.is_counted ≡ false
  pub stamps : table.stamps ≡ no_stamps
  pub writes : WritesRows sql

-- the columns after some are those of the rest
columns_after : (front row : Row)
    → map (column (front ++ row)) (range_with_len (length front) (length row)) ≡ row
columns_after front [] = refl
columns_after front (v ∷ row) =
    let next : front ++ v ∷ row ≡ (front ++ v ∷ []) ++ row = sym (append_assoc front (v ∷ []) row) in
    let here : column (front ++ v ∷ row) (length front) ≡ v = column_after front v row in
    let more = subst (λ xs. map (column xs) (range_with_len (length front + 1) (length row)) ≡ row)
    (sym next) (subst (λ n. map (column ((front ++ v ∷ []) ++ row)) (range_with_len n (length row))
    ≡ row) (length-append front (v ∷ [])) (columns_after (front ++ v ∷ []) row)) in
    λ i. here i ∷ more i

params_shown : (params : Row) (places : List ℕ)
    → eval_all (map (col 0) places) (params ∷ []) ≡ map (column params) places
params_shown params [] = refl
params_shown params (at ∷ places) = ap (λ more. column params at ∷ more) (params_shown params places)

-- what the terms show is the parameters
given_shown : (params : Row)
    → eval_all (given_terms (length params)) (params ∷ []) ≡ Null ∷ params
given_shown params =
    ap (λ row. Null ∷ row)
    (params_shown params (range_with_len 0 (length params)) ∙ columns_after [] params)

-- a row of so many terms is the one that VALUES gives
one_given : (n : ℕ) (params : Row)
    → value_rows params (n + 1) (length (given_terms n) / (n + 1)) (given_terms n)
    ≡ eval_all (given_terms n) (params ∷ []) ∷ []
one_given n params =
    let listed = length-map-range_with_len (col 0) 0 n in
    let long : length (given_terms n) ≡ 1 * (n + 1) + 0 = omega (arith, listed) in
    let once : length (given_terms n) / (n + 1) ≡ 1 =
    ap (λ m. m / (n + 1)) long ∙ div-mul-add 1 (n + 1) 0 (omega arith) in
    ap (λ count. value_rows params (n + 1) count (given_terms n)) once
    ∙ ap (λ terms. eval_all terms (params ∷ []) ∷ [])
    (take_all (n + 1) (given_terms n) (omega (arith, listed)))

unstamped : (table : Table) (params : Row) → table.stamps ≡ no_stamps
    → stamped table params ≡ params
unstamped table params none =
    ap (λ (s : Stamps). params ++ eval_all s.terms (drop (length params - length s.formats) params ∷ []))
    none ∙ append-nil params

-- so it adds the row, if each value is stored as it is
pub given_adds : (sql : List ℕ) (at : ℕ) (table : Table) → AddsGiven sql at table → (params : Row)
    → length params ≡ length table.columns → cast_all table.columns params ≡ params
    → Adds sql at table (given_terms (length table.columns)) params
given_adds sql at table a params long same = record {
  slot = a.slot;
  is = subst (λ n. command_of (understood office_schema sql)
      ≡ Insert at (Values (given_terms (length table.columns)) (n + 1))) (sym long) a.is;
  plain = a.plain;
  counts = a.counts;
  source =
      ap (λ row. value_rows row (length params + 1)
      (length (given_terms (length table.columns)) / (length params + 1))
      (given_terms (length table.columns))) (unstamped table params a.stamps)
      ∙ subst (λ n. value_rows params (length params + 1)
      (length (given_terms n) / (length params + 1)) (given_terms n) ≡ (Null ∷ params) ∷ []) long
      (one_given (length params) params ∙ ap (λ row. row ∷ []) (given_shown params));
  casts = λ rows. rw (cast_null, same) refl;
}
