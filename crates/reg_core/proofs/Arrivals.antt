-- Requests in the order in which they came are the same requests in another order.
use Rattle.std.proofs.Common.{◌≡◌, ℕ, Bool, true, false, cond, ◌&&◌, List, [], ◌∷◌, refl, sym, ap, ◌∙◌}
use Rattle.std.specs.Prelude.{Some}
use Rattle.std.specs.FinMap.{FinMap, find, get, entries, get-entries, get-from_entries}
use Rattle.std.specs.Cmp.{eq_by_cmp_equiv, nat_cmp_total, on_total, then_total}
use Rattle.std.specs.declared.cmp.Ordering.{Ordering}
use Rattle.std.specs.declared.cmp.Ordering.TheVariants.{Less, Equal, Greater}
use Rattle.std.specs.Ordering.{eq_by_cmp, is_eq, nat_cmp, ordering_then}
use Rattle.reg_maps.proofs.MapLaws.{IsKeyOrder, tied}
use Rattle.reg_maps.proofs.Orderings.{tie}
use Rattle.reg_core.proofs.KeyOrders.{name_keys}
use Rattle.reg_core.specs.Arrivals.{arrival_cmp, arrival_number, by_arrival}
use Rattle.reg_core.specs.World.{RequestName, name_cmp}
use Rattle.reg_core.specs.declared.journal.Act.{Act}

second_ties : (r s : Ordering) → ordering_then r s ≡ Equal → s ≡ Equal
second_ties Less s h = absurd (cc)
second_ties Equal s h = h
second_ties Greater s h = absurd (cc)

-- a test that passes only where another one does
both : (a b : Bool) → (b ≡ true → a ≡ true) → a && b ≡ b
both true b h = refl
both false true h = h refl
both false false h = refl

module _ (journal : List Act) where
  -- only one request comes at each place of that order
  pub arrival_keys : IsKeyOrder (arrival_cmp journal)
  arrival_keys = record {
    total = then_total (on_total (arrival_number journal) nat_cmp_total) name_keys.total;
    exact = λ a b h.
        name_keys.exact a b (second_ties (nat_cmp (arrival_number journal a)
        (arrival_number journal b)) (name_cmp a b) h);
  }

  -- it tells apart what names tell apart
  pub arrival_test : (a b : RequestName) → eq_by_cmp (arrival_cmp journal) a b ≡ eq_by_cmp name_cmp a b
  arrival_test a b =
      tie (nat_cmp (number a) (number b)) (name_cmp a b)
      ∙ both (is_eq (nat_cmp (number a) (number b))) (eq_by_cmp name_cmp a b) (λ t.
      ap (λ name. is_eq (nat_cmp (number a) (number name))) (sym (tied name_keys a b t))
      ∙ (eq_by_cmp_equiv nat_cmp_total).refl (number a))
    where
      number : RequestName → ℕ
      number = arrival_number journal

  -- so the same is found of them
  pub find-arrived : {X : Type 0} (name : RequestName) (es : List (RequestName × X))
      → find (arrival_cmp journal) name es ≡ find name_cmp name es
  find-arrived name [] = refl
  find-arrived name (e ∷ es) =
      λ i. cond (arrival_test name e.0 i) (Some e.1) (find-arrived name es i)

  pub get-by_arrival : {X : Type 0} (requests : FinMap name_cmp X) (name : RequestName)
      → get (by_arrival journal requests) name ≡ get requests name
  unfolding by_arrival
  get-by_arrival requests name =
      get-from_entries arrival_keys.total (entries requests) name
      ∙ find-arrived name (entries requests) ∙ sym (get-entries requests name)
