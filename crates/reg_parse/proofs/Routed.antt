-- Which paths can have a route.
use Rattle.std.proofs.Common.{◌≡◌, ℕ, List, Bool, true, false, refl, None}
use Rattle.std.specs.Str.{IsUtf8, is_utf8}
use Rattle.std.proofs.lemmas.Str.{IsUtf8-from_is_utf8, is_utf8-from_IsUtf8}
use Rattle.reg_parse.specs.Route.{methods_at}
use Rattle.reg_parse.specs.Path.{has_empty_segment}
use Rattle.reg_parse.specs.Command.{routed}

at_test : (path : List ℕ) (b : Bool) → is_utf8 path ≡ b → (IsUtf8 path → ⊥) → b ≡ false
at_test path true e h = absurd (h (IsUtf8-from_is_utf8 path e))
at_test path false e h = refl

pub routed-no_text : (path : List ℕ) → (IsUtf8 path → ⊥) → routed path ≡ None
routed-no_text path h = rw (at_test path (is_utf8 path) refl h) refl

pub routed-whole : (path : List ℕ) → IsUtf8 path → has_empty_segment path ≡ false
    → routed path ≡ methods_at path
routed-whole path utf8 whole = rw (is_utf8-from_IsUtf8 path utf8, whole) refl
