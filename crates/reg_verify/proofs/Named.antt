-- The record that an index names.
use Rattle.std.proofs.Common.{◌≡◌, ℕ, Bool, true, false, List, Some, None, refl, option_and_then, cond, ap₂}
use Rattle.std.specs.Str.{IsUtf8, is_utf8}
use Rattle.std.proofs.lemmas.Str.{IsUtf8-from_is_utf8, is_utf8-from_IsUtf8}
use Rattle.serde_json.specs.Data.{Data}
use Rattle.serde_json.specs.Read.{read}
use Rattle.reg_verify.specs.Index.{changes_in, digest_in, named_by, named_in, named_record}

-- the bytes are a value of JSON
pub named_record-value : (bytes : List ℕ) (json : Data) → IsUtf8 bytes → read bytes ≡ Some json
    → named_record bytes ≡ named_in json
unfolding named_record
named_record-value bytes json utf8 is = rw (is_utf8-from_IsUtf8 bytes utf8, is) refl

by_test : (bytes : List ℕ) (b : Bool) → (b ≡ true → read bytes ≡ None)
    → cond b (option_and_then named_in (read bytes)) None ≡ None
by_test bytes true h = rw (h refl) refl
by_test bytes false h = refl

-- they are none
pub named_record-none : (bytes : List ℕ) → (IsUtf8 bytes → read bytes ≡ None)
    → named_record bytes ≡ None
unfolding named_record
named_record-none bytes h = by_test bytes (is_utf8 bytes) (λ e. h (IsUtf8-from_is_utf8 bytes e))

-- a value has both members, or not
pub named_in-both : (json : Data) (changes : ℕ) (digest : List ℕ)
    → changes_in json ≡ Some changes → digest_in json ≡ Some digest
    → named_in json ≡ Some (changes, digest)
named_in-both json changes digest c d = ap₂ named_by c d

pub named_in-no_changes : (json : Data) → changes_in json ≡ None → named_in json ≡ None
named_in-no_changes json c = ap₂ named_by c refl

pub named_in-no_digest : (json : Data) (changes : ℕ) → changes_in json ≡ Some changes
    → digest_in json ≡ None → named_in json ≡ None
named_in-no_digest json changes c d = ap₂ named_by c d
