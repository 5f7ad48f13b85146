-- The rows of one key: none, or one alone.
use Rattle.std.proofs.Common.{◌≡◌, Bool, List, [], ◌∷◌, map, filter, refl, ap, ◌∙◌, ◌⊎◌, inl, inr}
use Rattle.std.proofs.Common.{Option, Some, None, IsSome, option_to_list, filter_map}
use Rattle.std.specs.List.{AllByRecursion, cons_option}
use Rattle.std.specs.declared.cmp.Ordering.{Ordering}
use Rattle.std.specs.FinMap.{get}
use Rattle.std.proofs.lemmas.List.Sorted.{IsPermutation-refl}
use Rattle.reg_maps.specs.Maps.{keyed}
use Rattle.reg_maps.specs.RowMaps.{held_in, IsTable, PassesAt}
use Rattle.reg_maps.proofs.MapLaws.{IsKeyOrder}
use Rattle.reg_maps.proofs.RowMaps.Lists.{all_filtered}
use Rattle.reg_maps.proofs.RowMaps.Loads.{found_pairs}

-- a row that reads as the value of a key
pub record HasRow {A K X : Type 0} (of : A → Option (K × X)) (k : K) (value : Option X)
    (rows : List A) : Type 0 where
  pub row : A
  pub x : X
  pub alone : rows ≡ row ∷ []
  pub reads : of row ≡ Some (k, x)
  pub is : value ≡ Some x

-- no row, where the key has no value, and else one row that reads as it
abbrev pub AreAlone : {A K X : Type 0} → (A → Option (K × X)) → K → Option X → List A → Type 0
AreAlone of k value rows = ((rows ≡ []) × (value ≡ None)) ⊎ HasRow of k value rows

module _ {A K X : Type 0} (of : A → Option (K × X)) where
  -- rows that all read, as what they read as
  reads_all : (rows : List A) → AllByRecursion (λ row. IsSome (of row)) rows
      → map of rows ≡ map Some (filter_map of rows)
  reads_all [] all = refl
  reads_all (row ∷ rows) all =
      elim (of row) as (λ r. IsSome r
      → r ∷ map of rows ≡ map Some (cons_option r (filter_map of rows))) [
        | None ↦ λ some. absurd (cc)
        | Some e ↦ λ some. ap (λ more. Some e ∷ more) (reads_all rows all.1)
      ] all.0

  none_left : (rows : List A) → AllByRecursion (λ row. IsSome (of row)) rows
      → filter_map of rows ≡ [] → rows ≡ []
  none_left [] all is = refl
  none_left (row ∷ rows) all is =
      elim (of row) as (λ r. IsSome r → cons_option r (filter_map of rows) ≡ []
      → row ∷ rows ≡ []) [
        | None ↦ λ some is. absurd (cc)
        | Some e ↦ λ some is. absurd (cc)
      ] all.0 is

  alone : (k : K) (value : Option X) (rows : List A)
      → AllByRecursion (λ row. IsSome (of row)) rows
      → filter_map of rows ≡ option_to_list (keyed k value) → AreAlone of k value rows
  alone k None rows all is = inl (none_left rows all is, refl)
  alone k (Some x) [] all is = absurd (cc)
  alone k (Some x) (row ∷ rows) all is =
      elim (of row) as (λ r. of row ≡ r → IsSome r
      → cons_option r (filter_map of rows) ≡ (k, x) ∷ []
      → AreAlone of k (Some x) (row ∷ rows)) [
        | None ↦ λ was some is. absurd (cc)
        | Some e ↦ λ was some is.
            let same : e ≡ (k, x) = cc in
            let rest : filter_map of rows ≡ [] = cc in
            inr (record {
              row = row;
              x = x;
              alone = ap (λ more. row ∷ more) (none_left rows all.1 rest);
              reads = was ∙ ap Some same;
              is = refl;
            })
      ] refl all.0 is

-- of a table, the rows that pass a test for one key
pub alone_at : {A K X : Type 0} {R : K → K → Ordering} (o : IsKeyOrder R)
    {of : A → Option (K × X)} (rows : List A) (test : A → Bool) (k : K) → IsTable R of rows
    → PassesAt R of test k
    → AreAlone of k (get (held_in {R = R} of rows) k) (filter test rows)
alone_at {R = R} o {of} rows test k table at =
    let kept = filter test rows in
    let all = all_filtered (λ row. IsSome (of row)) test rows table.reads in
    alone of k (get (held_in {R = R} of rows) k) kept all
    (found_pairs o test k (filter_map of kept) table at (IsPermutation-refl kept)
    (reads_all of kept all))
