-- What a list of the rowids of a table, in their order, says of its rows.
use Rattle.std.proofs.Common.{◌≡◌, inl, inr, List, [], ◌∷◌, map, sym, ap, ◌∙◌, Equal}
use Rattle.std.specs.List.Sorted.{IsPermutation}
use Rattle.std.proofs.lemmas.Cmp.{tied_back}
use Rattle.std.proofs.lemmas.List.Sorted.{IsPermutation-refl, IsPermutation-sym}
use Rattle.std.proofs.lemmas.List.Sorted.{IsPermutation-trans, IsPermutation-cons}
use Rattle.std.proofs.lemmas.List.Sorted.{IsPermutation-middle}
use Rattle.sqlite.specs.Order.{Row, value_cmp}
use Rattle.sqlite.specs.Tree.{rowid}
use Rattle.sqlite_value.proofs.OrderLemmas.{value_cmp_total}
use Rattle.sqlite_trees.specs.Tree.{IsAscending}
use Rattle.sqlite_trees.specs.declared.store.Shape.TheVariants.{Table}
use Rattle.sqlite_trees.specs.View.{IsShaped, is_int}
use Rattle.sqlite_trees.proofs.ListLemmas.{along_permutation, all-permutation, ascending_weaker}
use Rattle.sqlite_trees.proofs.ListLemmas.{ascending_from_map}
use Rattle.sqlite_rules.specs.Lists.{Has}
use Rattle.sqlite_rules.proofs.ListLemmas.{all_has}
use Rattle.sqlite_rules.proofs.ProbeLemmas.{mapped_has}
use Rattle.reg_tables.specs.Editing.{AreKeyed}
use Rattle.reg_tables.proofs.Library.RowLists.{has_permuted}

abbrev Differ : Row → Row → Type 0
Differ a b = value_cmp (rowid a) (rowid b) ≡ Equal → ⊥

-- no two rows of the list have one rowid
abbrev AreApart : List Row → Type 0
AreApart = IsAscending Differ

differ_back : (a b : Row) → Differ a b → Differ b a
differ_back a b differ tie = differ (tied_back value_cmp_total (rowid b) (rowid a) tie)

apart_permuted : (xs ys : List Row) → IsPermutation xs ys → AreApart xs → AreApart ys
apart_permuted xs ys same = (along_permutation
    (λ us vs. IsPermutation us vs × (AreApart us → AreApart vs))
    (λ us. (IsPermutation-refl us, λ up. up))
    (λ x us vs h. (
      IsPermutation-cons x us vs h.0,
      λ up.
          (all-permutation (Differ x) us vs h.0 up.0, h.1 up.1),
    ))
    (λ x y us. (
      IsPermutation-middle (x ∷ []) y us,
      λ up.
          ((differ_back x y up.0.0, up.1.0), (up.0.1, up.1.1)),
    ))
    (λ us vs ws h k. (IsPermutation-trans us vs ws h.0 k.0, λ up. k.1 (h.1 up))) xs ys same).1

one_if_apart : (rows : List Row) (r q : Row) → AreApart rows → Has rows r → Has rows q
    → value_cmp (rowid r) (rowid q) ≡ Equal → r ≡ q
one_if_apart [] r q up h k tie = absurd h
one_if_apart (x ∷ rows) r q up (inl h) (inl k) tie = h ∙ sym k
one_if_apart (x ∷ rows) r q up (inl h) (inr k) tie =
    absurd (all_has (Differ x) rows q up.0 k
    (ap (λ y. value_cmp (rowid y) (rowid q)) (sym h) ∙ tie))
one_if_apart (x ∷ rows) r q up (inr h) (inl k) tie =
    absurd (differ_back x r (all_has (Differ x) rows r up.0 h)
    (ap (λ y. value_cmp (rowid r) (rowid y)) (sym k) ∙ tie))
one_if_apart (x ∷ rows) r q up (inr h) (inr k) tie = one_if_apart rows r q up.1 h k tie

-- where what a query shows of each row begins with its rowid, and those that it shows rise
pub keyed_if_shown : (f : Row → Row) → ((r : Row) → rowid (f r) ≡ rowid r) → (rows shown : List Row)
    → IsPermutation (map f rows) shown → IsShaped Table shown → AreKeyed rows
keyed_if_shown f same rows shown are shaped =
    let back = IsPermutation-sym (map f rows) shown are in
    let apart = apart_permuted shown (map f rows) back (ascending_weaker _ Differ (λ a b less tie.
    let e = sym less ∙ tie in cc) shown shaped.0) in
    let differ = ascending_weaker _ Differ (λ a b d tie. d (rw (same a, same b) tie)) rows
    (ascending_from_map Differ f rows apart) in
    record {
      whole = λ r h.
          let there = has_permuted (map f rows) shown (f r) are (mapped_has f rows r h) in
          ap is_int (sym (same r)) ∙ all_has _ shown (f r) shaped.1 there;
      one = λ r q h k tie. one_if_apart rows r q differ h k tie;
    }
