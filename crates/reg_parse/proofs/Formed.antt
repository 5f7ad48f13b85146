-- What is read has its form: readings and members.
use Rattle.std.proofs.Common.{◌≡◌, ℕ, ◌^◌, List, Bool, true, false, ◌&&◌, Result, Option, Some, None, Ok, Err, refl, nat_lt, nat_le, option_and_then, option_map, cond}
use Rattle.std.specs.Cmp.{second_so}
use Rattle.std.specs.Str.Parse.{digits_value}
use Rattle.serde_json.specs.Data.{Data}
use Rattle.serde_json.specs.Find.{get, as_str}
use Rattle.reg_ranges.specs.Numbers.{is_numeral, read_number}
use Rattle.reg_ranges.specs.Texts.{is_text, read_text}
use Rattle.reg_core.specs.Capability.{last_until, read_until}
use Rattle.reg_core.specs.Ask.{has_note_form}
use Rattle.reg_core.specs.declared.item.Item.{Item}
use Rattle.reg_core.specs.declared.wire_refusal.WireRefusal.{WireRefusal}
use Rattle.reg_core.specs.declared.wire_refusal.WireRefusal.TheVariants as refusal
use Rattle.reg_core.specs.Item.{item_name}
use Rattle.reg_json.specs.Members.{Reading, ◌>>=◌, or_refusal, needed, formed, optional, text_form, number_form, until_form, whole, below}

-- whatever is read passes the test
pub record Passes {A E : Type 0} (test : A → Bool) (reading : Result A E) : Type 0 where
  pub passed : (x : A) → reading ≡ Ok x → test x ≡ true

pub ok-passes : {A E : Type 0} (test : A → Bool) (x : A) → test x ≡ true
    → Passes {E = E} test (Ok x)
ok-passes test x h = record { passed = λ y e. let same : x ≡ y = cc in rw (← same) h }

pub err-passes : {A E : Type 0} (test : A → Bool) (e : E) → Passes test (Err e)
err-passes test e = record { passed = λ y h. cc }

after-passes : {A B : Type 0} (test : B → Bool) (part : Reading A) (more : A → Reading B)
    → ((x : A) → part ≡ Ok x → Passes test (more x)) → Passes test (part >>= more)
after-passes test (Ok x) more h = h x refl
after-passes test (Err e) more h = err-passes test e

-- what is read after a part passes, whatever that part is
pub after_any : {A B : Type 0} {test : B → Bool} {more : A → Reading B} (part : Reading A)
    → ((x : A) → Passes test (more x)) → Passes test (part >>= more)
after_any part h = after-passes _ part _ (λ x is. h x)

-- and so it is where that part passes a test itself
pub after_passing : {A B : Type 0} {of_part : A → Bool} {test : B → Bool} {part : Reading A}
    {more : A → Reading B} → Passes of_part part
    → ((x : A) → of_part x ≡ true → Passes test (more x)) → Passes test (part >>= more)
after_passing {part = part} passes h =
    after-passes _ part _ (λ x is. h x (passes.passed x is))

-- ---- forms

-- whatever a form gives passes the test
abbrev pub Gives : {A B : Type 0} → (B → Bool) → (A → Option B) → Type 0
Gives {A} {B} test form = (x : A) (y : B) → form x ≡ Some y → test y ≡ true

guard_at : {A : Type 0} (test : A → Bool) (x y : A) (b : Bool) → test x ≡ b
    → cond b (Some x) None ≡ Some y → test y ≡ true
guard_at test x y true h e = let same : x ≡ y = cc in rw (← same) h
guard_at test x y false h e = cc

pub guard : {A : Type 0} (test : A → Bool) (x y : A) → cond (test x) (Some x) None ≡ Some y
    → test y ≡ true
guard test x y e = guard_at test x y (test x) refl e

pub after : {A B : Type 0} (test : B → Bool) (form : A → Option B) → Gives test form
    → (o : Option A) (y : B) → option_and_then form o ≡ Some y → test y ≡ true
after test form h None y e = cc
after test form h (Some x) y e = h x y e

pub mapped : {A B : Type 0} (test : B → Bool) (f : A → B) (o : Option A)
    → ((x : A) → o ≡ Some x → test (f x) ≡ true) → (y : B) → option_map f o ≡ Some y → test y ≡ true
mapped test f None h y e = cc
mapped test f (Some x) h y e = let same : f x ≡ y = cc in rw (← same) (h x refl)

pub text_form-gives : (form : List ℕ → Bool) → Gives form (text_form form)
text_form-gives form json y e =
    after form (read_text form) (λ s t. guard form s t) (as_str json) y e

abbrev pub is_below : ℕ → Bool
is_below n = nat_lt n (2 ^ 32)

abbrev pub is_until : ℕ → Bool
is_until n = nat_le n last_until

pub number_form-gives : Gives is_below number_form
number_form-gives json y e =
    after is_below (below (2 ^ 32)) (λ n m. guard is_below n m) (whole json) y e

pub until_form-gives : Gives is_until until_form
until_form-gives json y e = after is_until read_until (λ n m. guard is_until n m) (whole json) y e

numeral_at : (s : List ℕ) (y : ℕ) (b : Bool) → (is_numeral s && is_below (digits_value 10 s)) ≡ b
    → cond b (Some (digits_value 10 s)) None ≡ Some y → is_below y ≡ true
numeral_at s y true h e = let same : digits_value 10 s ≡ y = cc in
    rw (← same) (second_so (is_numeral s) (is_below (digits_value 10 s)) h)
numeral_at s y false h e = cc

pub read_number-gives : Gives is_below read_number
read_number-gives s y e = numeral_at s y (is_numeral s && is_below (digits_value 10 s)) refl e

-- ---- members

pub or_refusal-passes : {A : Type 0} (test : A → Bool) (e : WireRefusal) (o : Option A)
    → ((x : A) → o ≡ Some x → test x ≡ true) → Passes test (or_refusal e o)
or_refusal-passes test e None h = err-passes test e
or_refusal-passes test e (Some x) h = ok-passes test x (h x refl)

pub needed-passes : {A : Type 0} (test : A → Bool) (part : Item) (form : Data → Option A)
    (json : Data) → Gives test form → Passes test (needed part form json)
needed-passes test part form json h =
    or_refusal-passes test (refusal.Field part) _ (after test form h (get (item_name part) json))

formed-passes : {A : Type 0} (test : Option A → Bool) (part : Item) (form : Data → Option A)
    (o : Option Data) → test None ≡ true → Gives (λ x. test (Some x)) form
    → Passes test (formed part form o)
formed-passes test part form None h g = ok-passes test None h
formed-passes test part form (Some json) h g =
    or_refusal-passes test (refusal.Field part) _ (mapped test Some (form json) (g json))

pub optional-passes : {A : Type 0} (test : Option A → Bool) (part : Item) (form : Data → Option A)
    (json : Data) → test None ≡ true → Gives (λ x. test (Some x)) form
    → Passes test (optional part form json)
optional-passes test part form json h g =
    formed-passes test part form (get (item_name part) json) h g

pub note-passes : (part : Item) (json : Data)
    → Passes has_note_form (optional part (text_form is_text) json)
note-passes part json =
    optional-passes has_note_form part (text_form is_text) json refl (text_form-gives is_text)
