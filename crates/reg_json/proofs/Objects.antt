-- Which bytes are an object, and which names an object has.
use Rattle.std.proofs.Common.{◌≡◌, ℕ, List, [], ◌∷◌, Bool, true, false, ◌&&◌, map, refl, ap, Some, None, Ok, Err, string_bytes, is_some, option_and_then, cond}
use Rattle.std.specs.Prelude.{String}
use Rattle.std.specs.declared.alloc.Global.{Global}
use Rattle.std.specs.Str.{IsUtf8, is_utf8}
use Rattle.std.specs.List.{list_all}
use Rattle.std.proofs.lemmas.Str.{IsUtf8-from_is_utf8, is_utf8-from_IsUtf8}
use Rattle.serde_json.specs.Data.{Data, object}
use Rattle.serde_json.specs.Read.{read}
use Rattle.serde_json.specs.Find.{as_object}
use Rattle.serde_json.specs.View.{members_view}
use Rattle.serde_json.specs.declared.value.Value.{Value}
use Rattle.reg_core.specs.declared.item.Item.{Item}
use Rattle.reg_core.specs.declared.wire_refusal.WireRefusal.TheVariants.{Body}
use Rattle.reg_json.specs.Members.{object_of, or_refusal, if_object, all_among, names_any}

if_object-some : (json : Data) → is_some (as_object json) ≡ true → if_object json ≡ Some json
if_object-some (object ms) h = refl
if_object-some other h = cc

if_object-none : (json : Data) → is_some (as_object json) ≡ false → if_object json ≡ None
if_object-none (object ms) h = cc
if_object-none other h = refl

-- an object was read
pub object_of-object : (body : List ℕ) (json : Data) → IsUtf8 body → read body ≡ Some json
    → is_some (as_object json) ≡ true → object_of body ≡ Ok json
unfolding object_of
object_of-object body json utf8 is here =
    rw (is_utf8-from_IsUtf8 body utf8, is, if_object-some json here) refl

-- another value was read
pub object_of-other : (body : List ℕ) (json : Data) → IsUtf8 body → read body ≡ Some json
    → is_some (as_object json) ≡ false → object_of body ≡ Err Body
unfolding object_of
object_of-other body json utf8 is here =
    rw (is_utf8-from_IsUtf8 body utf8, is, if_object-none json here) refl

at_test : (body : List ℕ) (b : Bool) → (b ≡ true → read body ≡ None)
    → or_refusal Body (cond b (option_and_then if_object (read body)) None) ≡ Err Body
at_test body true h = rw (h refl) refl
at_test body false h = refl

-- nothing was read
pub object_of-nothing : (body : List ℕ) → (IsUtf8 body → read body ≡ None)
    → object_of body ≡ Err Body
unfolding object_of
object_of-nothing body h = at_test body (is_utf8 body) (λ e. h (IsUtf8-from_is_utf8 body e))

-- the test of the keys is the test of the members
pub all_among-members_view : (items : List Item) (entries : List (String Global × Value))
    → list_all (λ key. names_any items (string_bytes key)) (map (λ e. e.0) entries)
    ≡ all_among items (members_view entries)
all_among-members_view items [] = refl
all_among-members_view items (e ∷ entries) =
    ap (λ b. names_any items (string_bytes e.0) && b) (all_among-members_view items entries)
