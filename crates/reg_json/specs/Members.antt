-- How the members of a body are read.
use Rattle.std.specs.Prelude.{◌≡◌, ℕ, ◌^◌, ◌&&◌, List, Bool, true, false, nat_lt, Option, Some, None, Result, Ok, Err, if◌then◌else◌, option_and_then, option_map, ⊤}
use Rattle.std.specs.Str.{is_utf8, bytes_eq}
use Rattle.std.specs.List.{list_any}
use Rattle.serde_json.specs.Data.{Data, Members, member, no_members}
use Rattle.serde_json.specs.Read.{read}
use Rattle.serde_json.specs.Find.{get, as_object, as_bool, as_str, as_number, as_u64}
use Rattle.reg_ranges.specs.Texts.{read_text}
use Rattle.reg_core.specs.Advice.{read_verdict}
use Rattle.reg_core.specs.Capability.{read_kind, read_until}
use Rattle.reg_core.specs.declared.advice.Verdict.{Verdict}
use Rattle.reg_core.specs.declared.capability.Kind.{Kind}
use Rattle.reg_core.specs.Item.{item_name}
use Rattle.reg_core.specs.declared.item.Item.{Item}
use Rattle.reg_core.specs.declared.item.Item.TheVariants.{Extra}
use Rattle.reg_core.specs.declared.wire_refusal.WireRefusal.{WireRefusal}
use Rattle.reg_core.specs.declared.wire_refusal.WireRefusal.TheVariants.{Body, Field}
use Rattle.reg_core.specs.declared.wire_refusal.ReadFault.{ReadFault}
use Rattle.reg_core.specs.declared.wire_refusal.ReadFault.TheVariants.{Refused, Memory}

-- What is read, or the first refusal.
abbrev pub Reading : Type 0 → Type 0
Reading A = Result A WireRefusal

infixl 10 ◌>>=◌
abbrev pub ◌>>=◌ : {A B : Type 0} → Reading A → (A → Reading B) → Reading B
(Ok x) >>= f = f x
(Err refusal) >>= f = Err refusal

-- A call gave what the bytes spell, unless there was no memory; what it gave is seen by `view`.
abbrev pub GivesSeen : {A B : Type 0} → (A → B) → Result A ReadFault → Reading B → Type 0
GivesSeen view (Ok x) spelled = spelled ≡ Ok (view x)
GivesSeen view (Err (Refused refusal)) spelled = spelled ≡ Err refusal
GivesSeen view (Err Memory) spelled = Unit {0}

abbrev pub Gives : {A : Type 0} → Result A ReadFault → Reading A → Type 0
Gives gave spelled = GivesSeen (λ x. x) gave spelled

abbrev pub or_refusal : {A : Type 0} → WireRefusal → Option A → Reading A
or_refusal refusal None = Err refusal
or_refusal refusal (Some x) = Ok x

-- the one JSON object that the bytes are
abbrev pub if_object : Data → Option Data
if_object json = option_map (λ members. json) (as_object json)

unfoldable pub object_of : List ℕ → Reading Data
object_of body =
    or_refusal Body (if is_utf8 body then option_and_then if_object (read body) else None)

-- a member that is there, in its form
abbrev pub member_in : {A : Type 0} → Item → (Data → Option A) → Data → Option A
member_in item form json = option_and_then form (get (item_name item) json)

-- a member that must be there, in its form
abbrev pub needed : {A : Type 0} → Item → (Data → Option A) → Data → Reading A
needed item form json = or_refusal (Field item) (member_in item form json)

-- a member that may be missing, in its form where it is there
abbrev pub formed : {A : Type 0} → Item → (Data → Option A) → Option Data → Reading (Option A)
formed item form None = Ok None
formed item form (Some json) = or_refusal (Field item) (option_map Some (form json))

-- one that may be missing
abbrev pub optional : {A : Type 0} → Item → (Data → Option A) → Data → Reading (Option A)
optional item form json = formed item form (get (item_name item) json)

-- a member that is true or false, and false where it is missing
abbrev pub truth_by : Item → Option Data → Reading Bool
truth_by item None = Ok false
truth_by item (Some json) = or_refusal (Field item) (as_bool json)

-- a missing one is false
abbrev pub optional_truth : Item → Data → Reading Bool
optional_truth item json = truth_by item (get (item_name item) json)

-- no other members than these
abbrev pub names_any : List Item → List ℕ → Bool
names_any items name = list_any (λ item. bytes_eq name (item_name item)) items

abbrev pub all_among : List Item → Members → Bool
all_among items no_members = true
all_among items (member name json more) = names_any items name && all_among items more

abbrev pub is_among : List Item → Option Members → Bool
is_among items None = true
is_among items (Some members) = all_among items members

abbrev pub only : List Item → Data → Reading ⊤
only items json = if is_among items (as_object json) then Ok tt else Err (Field Extra)

-- ---- forms of members

-- what a member is read as, if it has the form
abbrev pub text_form : (List ℕ → Bool) → Data → Option (List ℕ)
text_form form json = option_and_then (read_text form) (as_str json)

-- a whole number, written with digits alone
abbrev pub whole : Data → Option ℕ
whole json = option_and_then as_u64 (as_number json)

abbrev pub below : ℕ → ℕ → Option ℕ
below limit n = if nat_lt n limit then Some n else None

abbrev pub number_form : Data → Option ℕ
number_form json = option_and_then (below (2 ^ 32)) (whole json)

abbrev pub until_form : Data → Option ℕ
until_form json = option_and_then read_until (whole json)

abbrev pub truth_form : Data → Option Bool
truth_form json = as_bool json

abbrev pub kind_form : Data → Option Kind
kind_form json = option_and_then read_kind (as_str json)

abbrev pub verdict_form : Data → Option Verdict
verdict_form json = option_and_then read_verdict (as_str json)
