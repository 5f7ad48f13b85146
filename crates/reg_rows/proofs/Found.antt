-- Rows that were found, as what is told of them.
use Rattle.std.proofs.Common.{◌≡◌, ℕ, Bool, true, false, List, [], ◌∷◌, map, refl, sym, ap, ◌∙◌}
use Rattle.std.proofs.Common.{Option, Some, None, is_some, option_map, option_and_then}
use Rattle.std.specs.Cmp.{eq_by_cmp_equiv}
use Rattle.std.specs.FinMap.{FinMap, get}
use Rattle.std.specs.declared.cmp.Ordering.{Ordering}
use Rattle.reg_maps.specs.Maps.{only_if, same_text, select}
use Rattle.reg_maps.proofs.KeyTests.{text_test}
use Rattle.reg_maps.proofs.MapLaws.{IsKeyOrder, get-select, text_keys, tied}

-- the values of items that were made of values
pub made_back : {A B : Type 0} (f : A → B) (g : B → A) → ((b : B) → f (g b) ≡ b)
    → (o : Option B) → option_map f (option_map g o) ≡ o
made_back f g back None = refl
made_back f g back (Some b) = ap Some (back b)

-- there is an item where there is a value
pub made_some : {A B : Type 0} (g : B → A) (o : Option B) → is_some (option_map g o) ≡ is_some o
made_some g None = refl
made_some g (Some b) = refl

-- there is none where nothing is made of it
pub nothing : {X Y : Type 0} (f : X → Y) (o : Option X) → option_map f o ≡ None → o ≡ None
nothing f None none = refl
nothing f (Some x) none = absurd (cc)

-- what passes where a test of its own fails, and where it holds
pub none_passes : {X : Type 0} (r : Option X) → option_and_then (λ x. only_if false x) r ≡ None
none_passes None = refl
none_passes (Some x) = refl

pub each_passes : {X : Type 0} (r : Option X) → option_and_then (λ x. only_if true x) r ≡ r
each_passes None = refl
each_passes (Some x) = refl

pub absent : {A : Type 0} (o : Option A) → is_some o ≡ false → o ≡ None
absent None is = refl
absent (Some x) is = absurd (cc)

-- the keys and values of items that were made of them
pub pairs_again : {T K X : Type 0} (pair : T → K × X) (item : K → X → T)
    → ((e : K × X) → pair (item e.0 e.1) ≡ e) → (es : List (K × X))
    → map pair (map (λ e. item e.0 e.1) es) ≡ es
pairs_again pair item back [] = refl
pairs_again pair item back (e ∷ es) = λ i. back e i ∷ pairs_again pair item back es i

-- two tests that tell each other are one
pub same_truth : (a b : Bool) → (a ≡ true → b ≡ true) → (b ≡ true → a ≡ true) → a ≡ b
same_truth true b to from = sym (to refl)
same_truth false true to from = from refl
same_truth false false to from = refl

-- ---- What is chosen by a name

pub itself : (name : List ℕ) → same_text name name ≡ true
itself name = text_test name name ∙ (eq_by_cmp_equiv text_keys.total).refl name

-- what is found among what is chosen by a name has it, and was there before
pub chosen_by : {K X : Type 0} {R : K → K → Ordering} (o : IsKeyOrder R) (text : K → List ℕ)
    (name : List ℕ) (m : FinMap R X) (k : K) (x : X)
    → get (select (λ k x. only_if (same_text (text k) name) x) m) k ≡ Some x
    → (text k ≡ name) × (get m k ≡ Some x)
chosen_by {X = X} o text name m k x is =
    go (get m k) (same_text (text k) name) refl
    (sym (get-select o (λ k x. only_if (same_text (text k) name) x) m k) ∙ is)
  where
    go : (r : Option X) (b : Bool) → same_text (text k) name ≡ b
        → option_and_then (λ x. only_if b x) r ≡ Some x → (text k ≡ name) × (r ≡ Some x)
    go None b t is = absurd (cc)
    go (Some y) true t is = (tied text_keys (text k) name (sym (text_test (text k) name) ∙ t), is)
    go (Some y) false t is = absurd (cc)
