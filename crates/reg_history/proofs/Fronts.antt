-- A record of CSV without its end.
use Rattle.std.proofs.Common.{◌≡◌, ℕ, zero, suc, ◌<◌, ◌-◌, List, [], ◌∷◌, ◌++◌, length, map, take, refl, ap, ◌∙◌, append-nil, arith}
use Rattle.std.proofs.lemmas.Grind.{common_steps}
use Rattle.csv.specs.Writing.{default_writer, is_blank, row_body, row_text}
use Rattle.reg_print.specs.Listing.{csv_text}

-- the text of a record of more than one field ends by a line feed alone
pub one_record : {X : Type 0} (text : X → List ℕ) (fields : List X) → 1 < length fields
    → csv_text (map text fields ∷ []) ≡ row_body default_writer (map text fields) ++ 10 ∷ []
unfolding is_blank
one_record text [] h = absurd (omega (arith, h))
one_record text (x ∷ []) h = absurd (omega (arith, h))
one_record text (x ∷ y ∷ rest) h =
    append-nil (row_text default_writer (map text (x ∷ y ∷ rest)))

-- all but the last byte
pub but_last : (xs : List ℕ) (x : ℕ) → take (length (xs ++ x ∷ []) - 1) (xs ++ x ∷ []) ≡ xs
but_last xs x = front xs (length (xs ++ x ∷ []) - 1) (counted xs) where
  counted : (ys : List ℕ) → length (ys ++ x ∷ []) - 1 ≡ length ys
  counted ys = grind (arith, common_steps)

  front : (ys : List ℕ) (n : ℕ) → n ≡ length ys → take n (ys ++ x ∷ []) ≡ ys
  front [] zero e = refl
  front [] (suc n) e = cc e
  front (y ∷ ys) zero e = cc e
  front (y ∷ ys) (suc n) e = ap (λ t. y ∷ t) (front ys n (omega (arith, e)))

-- what is left where the last byte is taken away
pub popped : (body t t' : List ℕ) (len : ℕ) → len ≡ length t → t ≡ body ++ 10 ∷ []
    → t' ≡ take (len - 1) t → t' ≡ body
popped body t t' len counted is taken =
    taken ∙ ap (λ n. take (n - 1) t) counted ∙ ap (λ x. take (length x - 1) x) is
    ∙ but_last body 10
