-- Capabilities that a test chooses, and the token in use, which is not among them.
use Rattle.std.proofs.Common.{◌≡◌, ℕ, Bool, false, List, [], ◌∷◌, sym, ap, Some, IsSome, is_some, All}
use Rattle.reg_core.proofs.Common.{both_ways, false_from_ne_true, FinMap, get, entries, or_parts}
use Rattle.reg_core.proofs.Common.{bytes_eq-Decides, text_cmp, same_text, All-entries, text_keys}
use Rattle.reg_core.proofs.Common.{cap_row, cap_rows, caps_that, has_token, Cap, CapRow}
use Rattle.std.proofs.lemmas.List.Elements.{All-nil, All-cons, All-map, All-filter}

-- the digest is not the one in use, and has a capability
abbrev pub IsOther : FinMap text_cmp Cap → List ℕ → List ℕ → Type 0
IsOther caps in_use digest = (same_text in_use digest ≡ false) × IsSome (get caps digest)

-- each of the rows that were chosen is there
pub chosen_there : (caps : FinMap text_cmp Cap) (chosen : CapRow → Bool)
    → All (λ (row : CapRow). get caps row.digest ≡ Some row.cap) (caps_that chosen caps)
chosen_there caps chosen =
    let IsThere : CapRow → Type 0 = λ row. get caps row.digest ≡ Some row.cap in
    All-filter chosen IsThere (cap_rows caps)
    (All-map IsThere (λ (e : List ℕ × Cap). cap_row e.0 e.1) (entries caps)
    (All-entries text_keys.total (λ e. get caps e.0 ≡ Some e.1) caps (λ digest cap is. is)))

-- a text differs from another as that one differs from it
differs : (a b : List ℕ) → same_text b a ≡ false → same_text a b ≡ false
differs a b other = false_from_ne_true (same_text a b) (λ is.
    both_ways (same_text b a) other ((bytes_eq-Decides b a).1 (sym ((bytes_eq-Decides a b).0 is))))

-- where the token in use is not among rows that are there, each of their digests is another's
others : (caps : FinMap text_cmp Cap) (in_use : List ℕ) (rows : List CapRow)
    → All (λ (row : CapRow). get caps row.digest ≡ Some row.cap) rows
    → has_token in_use rows ≡ false
    → All (λ (row : CapRow). IsOther caps in_use row.digest) rows
others caps in_use rows there other =
    λ k d inside. (apart rows other k d inside, ap is_some (there k d inside))
  where
    apart : (rows : List CapRow) → has_token in_use rows ≡ false
        → All (λ (row : CapRow). same_text in_use row.digest ≡ false) rows
    apart [] other = All-nil (λ (row : CapRow). same_text in_use row.digest ≡ false)
    apart (row ∷ rows) other =
        let parts = or_parts (same_text row.digest in_use) (has_token in_use rows) other in
        All-cons (λ (row : CapRow). same_text in_use row.digest ≡ false) row rows
        (differs in_use row.digest parts.0) (apart rows parts.1)

pub chosen_others : (caps : FinMap text_cmp Cap) (in_use : List ℕ) (chosen : CapRow → Bool)
    → has_token in_use (caps_that chosen caps) ≡ false
    → All (λ (row : CapRow). IsOther caps in_use row.digest) (caps_that chosen caps)
chosen_others caps in_use chosen other =
    others caps in_use (caps_that chosen caps) (chosen_there caps chosen) other
