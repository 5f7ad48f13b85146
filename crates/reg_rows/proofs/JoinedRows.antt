-- What a query shows that joins the rows of the queue with those of other tables.
use Rattle.std.proofs.Common.{◌≡◌, Bool, true, false, cond, List, [], ◌∷◌, ◌++◌, map, filter}
use Rattle.std.proofs.Common.{filter_map, IsPermutation, refl, sym, subst, ◌∙◌}
use Rattle.std.proofs.Common.{Option, Some, None, IsSome, option_map, option_to_list}
use Rattle.std.specs.List.{AllByRecursion, cons_option, flat_map}
use Rattle.std.specs.List.Sorted.{IsStrictlySortedBy}
use Rattle.std.specs.declared.cmp.Ordering.{Ordering}
use Rattle.std.proofs.lemmas.List.Elements.{filter_map-append}
use Rattle.std.proofs.lemmas.List.Sorted.{IsPermutation-sym}
use Rattle.std.proofs.lemmas.Simd.{map-map}
use Rattle.std.specs.FinMap.{find}
use Rattle.sqlite.specs.Order.{Row, column}
use Rattle.reg_maps.specs.RowMaps.{AreAscending, PassesAt}
use Rattle.reg_maps.proofs.MapLaws.{IsKeyOrder}
use Rattle.reg_maps.proofs.Ascending.{apart_from_ascending}
use Rattle.reg_maps.proofs.RowMaps.Entries.{find_permuted}
use Rattle.reg_maps.proofs.RowMaps.Items.{read_pairs}
use Rattle.reg_maps.proofs.RowMaps.Lists.{IsPermutation-filter_map, filter_map-loaded}
use Rattle.reg_core.specs.World.{Seat, seat_cmp}
use Rattle.reg_records.specs.Queue.{seat_in}
use Rattle.reg_records.specs.declared.queue.Seat as held
use Rattle.reg_tables.specs.Editing.{has_all}
use Rattle.reg_tables.specs.Joining.{advice_agrees}
use Rattle.reg_tables.specs.Selecting.{stored}
use Rattle.reg_statements.specs.Content.{advice_at, seat_at}
use Rattle.reg_statements.specs.Loading.{IsAscending, ReadAs}
use Rattle.reg_statements.specs.Office as office
use Rattle.reg_statements.proofs.Defined.{key_passes}
use Rattle.reg_statements.proofs.Neighbours.{strict}
use Rattle.reg_statements.proofs.Office as laws

-- what a pair was made of
pub record WasMade {T E : Type 0} (pair : T → E) (o : Option T) (e : E) : Type 0 where
  pub item : T
  pub is : o ≡ Some item
  pub makes : pair item ≡ e

pub was_made : {T E : Type 0} (pair : T → E) (o : Option T) (e : E) → option_map pair o ≡ Some e
    → WasMade pair o e
was_made pair None e is = absurd (cc)
was_made pair (Some item) e is = record { item = item; is = refl; makes = cc }

-- the advice that a row of the queue is joined with is that of its seat
pub own_advice_at : (row : Row) (s : held.Seat) → seat_in (stored 3 row) ≡ Some s
    → PassesAt seat_cmp advice_at (advice_agrees row) (office.queue.pair s).0
own_advice_at row s is =
    subst (λ (cs : Row). PassesAt seat_cmp advice_at (λ other.
    has_all ((1, column cs 0) ∷ (2, column cs 1) ∷ (3, column cs 2) ∷ []) other)
    (office.queue.pair s).0) (sym (laws.queue.exact row s is))
    (key_passes office.advice laws.advice (office.queue.pair s).0)

-- ---- By the rows of the queue

onto : {X : Type 0} (o : Option X) (xs : List X) → option_to_list o ++ xs ≡ cons_option o xs
onto None xs = refl
onto (Some x) xs = refl

module _ {E : Type 0} (reader : Row → Option E) (joined : Row → List Row) (test : Row → Bool)
    (seen : Seat × Unit {0} → Option E)
    (each : (row : Row) (s : held.Seat) → seat_in (stored 3 row) ≡ Some s
    → filter_map reader (cond (test row) (joined row) [])
    ≡ option_to_list (seen (office.queue.pair s))) where
  -- what is shown of the rows that pass reads as what their seats show
  pub joined_reads : (rows : List Row) → AllByRecursion (λ row. IsSome (seat_at row)) rows
      → filter_map reader (flat_map joined (filter test rows))
      ≡ filter_map seen (filter_map seat_at rows)
  unfolding seat_at
  joined_reads [] all = refl
  joined_reads (row ∷ rows) all =
      let rest = flat_map joined (filter test rows) in
      split (test row) ∙ filter_map-append reader (cond (test row) (joined row) []) rest
      ∙ elim (seat_in (stored 3 row)) as (λ r. seat_in (stored 3 row) ≡ r
      → IsSome (option_map office.queue.pair r)
      → filter_map reader (cond (test row) (joined row) []) ++ filter_map reader rest
      ≡ filter_map seen (cons_option (option_map office.queue.pair r) (filter_map seat_at rows))) [
        | None ↦ λ is some. absurd (cc)
        | Some s ↦ λ is some.
            (λ i. each row s is i ++ joined_reads rows all.1 i) ∙ onto (seen (office.queue.pair s)) _
      ] refl all.0
    where
      split : (b : Bool)
          → filter_map reader (flat_map joined (cond b (row ∷ filter test rows) (filter test rows)))
          ≡ filter_map reader (cond b (joined row) [] ++ flat_map joined (filter test rows))
      split true = refl
      split false = refl

-- ---- As the rows that are shown in order

module _ {T K X : Type 0} {R : K → K → Ordering} (o : IsKeyOrder R) (pair : T → K × X)
    (read : Row → Option T) (values : List T)
    (up : IsAscending (λ a b. R (pair a).0 (pair b).0) values) where
  pub pairs_ascend : AreAscending R (map pair values)
  pairs_ascend =
      subst (IsStrictlySortedBy R) (sym (map-map (λ (e : K × X). e.0) pair values))
      (strict o (λ value. (pair value).0) values up)

  -- what rows show that are those of the tables in some order is found among these
  pub shown_at : (tables shown : List Row) → IsPermutation tables shown → ReadAs read shown values
      → (q : K) → find R q (filter_map (λ row. option_map pair (read row)) tables)
      ≡ find R q (map pair values)
  shown_at tables shown moved reads q =
      let reader = λ (row : Row). option_map pair (read row) in
      let all = filter_map reader tables in
      let there : IsPermutation all (map pair values) =
      subst (IsPermutation all) (filter_map-loaded reader shown (map pair values)
      (read_pairs o pair read shown values reads))
      (IsPermutation-filter_map reader tables shown moved) in
      sym (find_permuted o q (map pair values) all (IsPermutation-sym all (map pair values) there)
      (apart_from_ascending R (map pair values) pairs_ascend))
