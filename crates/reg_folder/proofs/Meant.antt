-- Which file what stands behind `/site/` means.
use Rattle.std.proofs.Common.{◌≡◌, ℕ, List, Bool, true, false, refl, Ok, Err}
use Rattle.std.specs.Str.{IsUtf8, is_utf8}
use Rattle.std.proofs.lemmas.Str.{IsUtf8-from_is_utf8, is_utf8-from_IsUtf8}
use Rattle.reg_core.specs.declared.wire_refusal.WireRefusal.TheVariants.{Route}
use Rattle.reg_folder.specs.Path.{file_at, indexed, is_path}

no_text : (rest : List ℕ) (b : Bool) → is_utf8 rest ≡ b → (IsUtf8 rest → ⊥) → b ≡ false
no_text rest true e h = absurd (h (IsUtf8-from_is_utf8 rest e))
no_text rest false e h = refl

pub file_at-no_text : (rest : List ℕ) → (IsUtf8 rest → ⊥) → file_at rest ≡ Err Route
file_at-no_text rest h = rw (no_text rest (is_utf8 rest) refl h) refl

pub file_at-path : (rest : List ℕ) → IsUtf8 rest → is_path (indexed rest) ≡ true
    → file_at rest ≡ Ok (indexed rest)
file_at-path rest utf8 named = rw (is_utf8-from_IsUtf8 rest utf8, named) refl
