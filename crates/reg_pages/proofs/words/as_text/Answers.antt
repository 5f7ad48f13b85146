use Rattle.std.proofs.Common.{◌≡◌, Bool, true, false, Some, None, List, ℕ, refl, ap}
use Rattle.std.specs.Str.{IsUtf8, is_utf8}
use Rattle.std.proofs.lemmas.Str.{IsUtf8-from_is_utf8, is_utf8-from_IsUtf8}
use Rattle.reg_ranges.specs.Texts.{read_text}
use Rattle.reg_pages.proofs.words.as_text.Goals as goal

read_none : (bytes : List ℕ) (b : Bool) → is_utf8 bytes ≡ b → ¬ (IsUtf8 bytes)
    → None ≡ read_text is_utf8 bytes
read_none bytes true e other = absurd (other (IsUtf8-from_is_utf8 bytes e))
read_none bytes false e other = rw e refl

read_some : (bytes text : List ℕ) → text ≡ bytes → IsUtf8 bytes → Some text ≡ read_text is_utf8 bytes
read_some bytes text same spelled = rw (is_utf8-from_IsUtf8 bytes spelled) (ap Some same)

pub returns-in-Ok : goal.returns-in-Ok
returns-in-Ok c =
    read_some c.args.bytes.now c.in-Ok.text.now c.in-Ok.ensures.cases.0 c.in-Ok.ensures.cases.1

pub returns-in-Err : goal.returns-in-Err
returns-in-Err c =
    read_none c.args.bytes.now (is_utf8 c.args.bytes.now) refl c.in-Err.ensures.cases.0
