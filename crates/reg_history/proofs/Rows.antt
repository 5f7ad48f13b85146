-- The fields of a row, as texts.
use Rattle.std.proofs.Common.{◌≡◌, ℕ, zero, suc, ◌<◌, Bor, List, [], ◌∷◌, ◌++◌, length, refl, sym, ap, subst, ◌∙◌, arith}
use Rattle.std.specs.Prelude.{Option, Some, None, option_map}
use Rattle.std.specs.Str.{IsUtf8}
use Rattle.csv.specs.Records.{AllText, field_at}
use Rattle.reg_changes.specs.declared.change.PublishedChange.{PublishedChange}
use Rattle.reg_changes.specs.declared.change.PublishedChange.TheVariants.{Made, Term}
use Rattle.reg_changes.specs.declared.change.HistoryRecord.{HistoryRecord}
use Rattle.reg_history.specs.Chain.{change_fields, record_fields}
use Rattle.reg_history.specs.Written.{IsText}

-- there is a text at a place
abbrev HasText : List (List ℕ) → ℕ → Type 0
HasText fields k = (text : List ℕ) × (field_at fields k ≡ Some text) × IsUtf8 text

text_in : (fields rest : List (List ℕ)) (k : ℕ) → AllText fields → k < length fields
    → HasText (fields ++ rest) k
unfolding AllText field_at
text_in [] rest k texts h = absurd (omega (arith, h))
text_in (f ∷ fs) rest zero texts h = (f, refl, texts.0)
text_in (f ∷ fs) rest (suc k) texts h = text_in fs rest k texts.1 (omega (arith, h))

nine : (c : PublishedChange) → length (change_fields c) ≡ 9
nine (Made f) = refl
nine (Term registry value standing) = refl

-- a look for the text at a place of a row
abbrev pub Finds : List (List ℕ) → ℕ → Option (Bor (List ℕ)) → Type 0
Finds fields k found =
    (text : List ℕ) → field_at fields k ≡ Some text → IsUtf8 text
    → option_map (λ (s : Bor (List ℕ)). s.now) found ≡ Some text

module _ (fields : List (List ℕ)) (number digest : List ℕ) (r : HistoryRecord)
    (e : fields ≡ record_fields number r ++ digest ∷ []) (utf8 : IsUtf8 number) (is : IsText r) where
  there : (k : ℕ) → k < 11 → HasText fields k
  unfolding AllText
  there k h =
      subst (λ fs. HasText fs k) (sym e)
      (text_in (record_fields number r) (digest ∷ []) k (utf8, is) (omega (arith, h, nine r.change)))

  -- it is found
  pub missing : (k : ℕ) (found : Option (Bor (List ℕ))) → k < 11 → Finds fields k found → found ≡ None → ⊥
  missing k found h finds none =
      let t = there k h in
      cc (sym (finds t.0 t.1 t.2) ∙ ap (option_map (λ (s : Bor (List ℕ)). s.now)) none)

  pub has : (k : ℕ) (found : Option (Bor (List ℕ))) (s : Bor (List ℕ)) → k < 11 → Finds fields k found
      → found ≡ Some s → Some s.now ≡ field_at (record_fields number r ++ digest ∷ []) k
  has k found s h finds some =
      let t = there k h in
      sym (ap (option_map (λ (s : Bor (List ℕ)). s.now)) some) ∙ finds t.0 t.1 t.2 ∙ sym t.1
      ∙ ap (λ fs. field_at fs k) e

-- the texts at the places are those of the record
pub texts_are : (n m d : List ℕ) (c : PublishedChange) (a b x y z v w s t p q : List ℕ)
    → Some a ≡ field_at (n ∷ m ∷ (change_fields c ++ d ∷ [])) 0
    → Some b ≡ field_at (n ∷ m ∷ (change_fields c ++ d ∷ [])) 1
    → Some x ≡ field_at (n ∷ m ∷ (change_fields c ++ d ∷ [])) 2
    → Some y ≡ field_at (n ∷ m ∷ (change_fields c ++ d ∷ [])) 3
    → Some z ≡ field_at (n ∷ m ∷ (change_fields c ++ d ∷ [])) 4
    → Some v ≡ field_at (n ∷ m ∷ (change_fields c ++ d ∷ [])) 5
    → Some w ≡ field_at (n ∷ m ∷ (change_fields c ++ d ∷ [])) 6
    → Some s ≡ field_at (n ∷ m ∷ (change_fields c ++ d ∷ [])) 7
    → Some t ≡ field_at (n ∷ m ∷ (change_fields c ++ d ∷ [])) 8
    → Some p ≡ field_at (n ∷ m ∷ (change_fields c ++ d ∷ [])) 9
    → Some q ≡ field_at (n ∷ m ∷ (change_fields c ++ d ∷ [])) 10
    → a ∷ b ∷ x ∷ y ∷ z ∷ v ∷ w ∷ s ∷ t ∷ p ∷ q ∷ [] ≡ n ∷ m ∷ change_fields c
unfolding field_at
texts_are n m d (Made f) a b x y z v w s t p q e0 e1 e2 e3 e4 e5 e6 e7 e8 e9 e10 = cc
texts_are n m d (Term registry value standing) a b x y z v w s t p q e0 e1 e2 e3 e4 e5 e6 e7 e8 e9 e10 = cc

pub second_is : (a b n m : List ℕ) (xs ys : List (List ℕ)) → a ∷ b ∷ xs ≡ n ∷ m ∷ ys → b ≡ m
second_is a b n m xs ys e = cc e
