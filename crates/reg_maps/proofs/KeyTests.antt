-- When two keys tie, by tests of their parts.
use Rattle.std.proofs.Common.{◌≡◌, ℕ, Bool, ◌&&◌, List, sym, ◌∙◌, bytes_eq}
use Rattle.std.specs.declared.cmp.Ordering.{Ordering}
use Rattle.std.specs.Ordering.{eq_by_cmp, is_eq}
use Rattle.std.proofs.lemmas.Map.Text.{is_eq-slice_cmp}
use Rattle.reg_maps.specs.Maps.{text_cmp, pair_cmp}
use Rattle.reg_maps.proofs.Tests.{and-turned}
use Rattle.reg_maps.proofs.Orderings.{tie}

pub text_test : (a b : List ℕ) → bytes_eq a b ≡ eq_by_cmp text_cmp a b
text_test a b = sym (is_eq-slice_cmp a b)

-- two pairs, where each part is tested
pub pair_test : {A B : Type 0} (P : A → A → Ordering) (Q : B → B → Ordering) (s t : Bool)
    (x y : A × B) → s ≡ eq_by_cmp P x.0 y.0 → t ≡ eq_by_cmp Q x.1 y.1
    → (s && t) ≡ eq_by_cmp (pair_cmp P Q) x y
pair_test P Q s t x y first second =
    (λ i. first i && second i) ∙ sym (tie (P x.0 y.0) (Q x.1 y.1))

-- two pairs tie as they do with their parts in the other order
pub pair_turned : {A B : Type 0} (P : A → A → Ordering) (Q : B → B → Ordering) (x y : A × B)
    → eq_by_cmp (pair_cmp P Q) x y ≡ eq_by_cmp (pair_cmp Q P) (x.1, x.0) (y.1, y.0)
pair_turned P Q x y =
    tie (P x.0 y.0) (Q x.1 y.1) ∙ and-turned (is_eq (P x.0 y.0)) (is_eq (Q x.1 y.1))
    ∙ sym (tie (Q x.1 y.1) (P x.0 y.0))
