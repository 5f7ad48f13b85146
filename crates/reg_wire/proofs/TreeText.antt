-- What is printed of a tree of texts and whole numbers reads back as the tree.
use Rattle.std.proofs.Common.{◌≡◌, ℕ, suc, ◌^◌, ◌<◌, ◌≤◌, List, [], ◌∷◌, ◌++◌, Bool, true, false, Option, Some, None, Ok, refl, sym, ap, ◌∙◌, option_and_then, arith, append-nil}
use Rattle.std.specs.Fmt.{decimal}
use Rattle.std.specs.Str.{IsUtf8}
use Rattle.std.proofs.lemmas.Fmt.{IsAscii-decimal}
use Rattle.std.proofs.lemmas.Str.{IsUtf8-from_ascii, IsUtf8-append, IsUtf8-nil, is_utf8-from_IsUtf8}
use Rattle.json.specs.Json as json
use Rattle.json.specs.Lex.{tokens}
use Rattle.json.specs.Print.{quoted}
use Rattle.json.specs.Tree.{json_tokens, HasNumbers, MembersHaveNumbers}
use Rattle.json.specs.Tree as tree
use Rattle.json.proofs.Printed.Decimals.{IsNumber-decimal}
use Rattle.json.proofs.Printed.Tokens.{tokens-print}
use Rattle.json.proofs.Printed.Trees.{value-json_tokens, ArePrintable-json_tokens}
use Rattle.json.proofs.Printed.Utf8.{are_ascii, IsUtf8-quoted, IsUtf8-are_ascii}
use Rattle.serde_json.specs.Data.{Data, null, boolean, number, string, array, object, Items, no_items, item, Members, no_members, member, Num, unsigned, negative, float}
use Rattle.serde_json.specs.Read.{read, of_json, max_depth}
use Rattle.serde_json.specs.Written.{outline, members_outline, compact_text, items_text, members_text, comma_if}
use Rattle.serde_json.proofs.Numbers.{number_of-decimal}
use Rattle.serde_json.proofs.Texts.{print-outline}
use Rattle.reg_print.specs.Trees.Members.{Listed, object_with}
use Rattle.reg_json.specs.Members.{object_of}
use Rattle.reg_print.proofs.ListedMembers.{as_listed, ascends, some_member, with_members-as_listed}
use Rattle.reg_print.proofs.ReadObjects.{IfReads, AllRead, listed-reads}

-- what JSON's outline reads as is what its text reads as
pub read-compact_text : (d : Data) → HasNumbers (outline d) → tree.depth (outline d) ≤ max_depth
    → of_json (outline d) ≡ Some d → read (compact_text d) ≡ Some d
read-compact_text d numbers shallow same =
    let lexed =
    ap tokens (sym (print-outline d))
    ∙ tokens-print (json_tokens (outline d)) (ArePrintable-json_tokens (outline d) numbers)
    ∙ sym (append-nil (json_tokens (outline d))) in
    ap (λ ts. option_and_then of_json
    (option_and_then (λ p. json.if_last p.0 p.1) (json.value max_depth ts))) lexed
    ∙ ap (λ o. option_and_then of_json (option_and_then (λ p. json.if_last p.0 p.1) o))
    (value-json_tokens (outline d) max_depth [] shallow)
    ∙ same

abbrev pub IsPlainNumber : Num → Type 0
IsPlainNumber (unsigned n) = n < 2 ^ 64
IsPlainNumber (negative z) = ⊥
IsPlainNumber (float x) = ⊥

-- texts are UTF-8, and numbers whole
abbrev mutual
  pub IsPlain : Data → Type 0
  IsPlain null = Unit {0}
  IsPlain (boolean b) = Unit {0}
  IsPlain (number n) = IsPlainNumber n
  IsPlain (string s) = IsUtf8 s
  IsPlain (array ds) = ArePlainItems ds
  IsPlain (object ms) = ArePlain ms

  pub ArePlainItems : Items → Type 0
  ArePlainItems no_items = Unit {0}
  ArePlainItems (item d ds) = IsPlain d × ArePlainItems ds

  pub ArePlain : Members → Type 0
  ArePlain no_members = Unit {0}
  ArePlain (member k d ms) = IsUtf8 k × IsPlain d × ArePlain ms

comma_plain : (later : Bool) → IsUtf8 (comma_if later)
comma_plain true = IsUtf8-are_ascii (44 ∷ []) refl
comma_plain false = IsUtf8-nil

number_plain : (n : Num) → IsPlainNumber n → IsUtf8 (compact_text (number n))
number_plain (unsigned n) h = IsUtf8-from_ascii (decimal n) (IsAscii-decimal n h)
number_plain other h = absurd h

boolean_plain : (b : Bool) → IsUtf8 (compact_text (boolean b))
boolean_plain true = IsUtf8-are_ascii _ refl
boolean_plain false = IsUtf8-are_ascii _ refl

mutual
  pub compact_text-utf8 : (d : Data) → IsPlain d → IsUtf8 (compact_text d)
  compact_text-utf8 null h = IsUtf8-are_ascii _ refl
  compact_text-utf8 (boolean b) h = boolean_plain b
  compact_text-utf8 (number n) h = number_plain n h
  compact_text-utf8 (string s) h = IsUtf8-quoted s h
  compact_text-utf8 (array ds) h =
      IsUtf8-append (91 ∷ []) _ (IsUtf8-are_ascii (91 ∷ []) refl) (items_text-utf8 false ds h)
  compact_text-utf8 (object ms) h =
      IsUtf8-append (123 ∷ []) _ (IsUtf8-are_ascii (123 ∷ []) refl) (members_text-utf8 false ms h)

  items_text-utf8 : (later : Bool) (ds : Items) → ArePlainItems ds → IsUtf8 (items_text later ds)
  items_text-utf8 later no_items h = IsUtf8-are_ascii (93 ∷ []) refl
  items_text-utf8 later (item d ds) h =
      IsUtf8-append (comma_if later) _ (comma_plain later)
      (IsUtf8-append (compact_text d) _ (compact_text-utf8 d h.0) (items_text-utf8 true ds h.1))

  members_text-utf8 : (later : Bool) (ms : Members) → ArePlain ms → IsUtf8 (members_text later ms)
  members_text-utf8 later no_members h = IsUtf8-are_ascii (125 ∷ []) refl
  members_text-utf8 later (member k d ms) h =
      IsUtf8-append (comma_if later) _ (comma_plain later)
      (IsUtf8-append (quoted k) _ (IsUtf8-quoted k h.0)
      (IsUtf8-append (58 ∷ []) _ (IsUtf8-are_ascii (58 ∷ []) refl)
      (IsUtf8-append (compact_text d) _ (compact_text-utf8 d h.1) (members_text-utf8 true ms h.2))))

-- ---- trees whose texts read back

pub record Readable (n : ℕ) (d : Data) : Type 0 where
  pub plain : IsPlain d
  pub numbers : HasNumbers (outline d)
  pub shallow : tree.depth (outline d) ≤ n
  pub same : of_json (outline d) ≡ Some d

pub string-readable : (n : ℕ) (s : List ℕ) → IsUtf8 s → Readable n (string s)
string-readable n s h = record { plain = h; numbers = tt; shallow = omega arith; same = refl }

pub number-readable : (n k : ℕ) → k < 2 ^ 64 → Readable n (number (unsigned k))
number-readable n k h =
    record {
      plain = h;
      numbers = IsNumber-decimal k h;
      shallow = omega arith;
      same = rw (number_of-decimal k h) refl;
    }

pub boolean-readable : (n : ℕ) (b : Bool) → Readable n (boolean b)
boolean-readable n b =
    record { plain = tt; numbers = tt; shallow = omega arith; same = refl }

abbrev pub IfReadable : ℕ → Option Data → Type 0
IfReadable n None = Unit {0}
IfReadable n (Some d) = Readable n d

-- each member that is there reads back, and so does its name
abbrev pub AllReadable : ℕ → Listed → Type 0
AllReadable n [] = Unit {0}
AllReadable n (m ∷ ms) = IsUtf8 m.0 × IfReadable n m.1 × AllReadable n ms

-- members that read back, of which some may be absent
pub record AreReadable (n : ℕ) (ms : Listed) : Type 0 where
  pub all : AllReadable n ms

pub member-readable : (n : ℕ) (k : List ℕ) (o : Option Data) → are_ascii k ≡ true → IfReadable n o
    → AreReadable n ((k, o) ∷ [])
member-readable n k o named h = record { all = (IsUtf8-are_ascii k named, h, tt) }

all_readable : (n : ℕ) (xs ys : Listed) → AllReadable n xs → AllReadable n ys
    → AllReadable n (xs ++ ys)
all_readable n [] ys h more = more
all_readable n (x ∷ xs) ys h more = (h.0, h.1, all_readable n xs ys h.2 more)

-- members behind members
infixr 5 ◌▸◌
pub ◌▸◌ : {n : ℕ} {xs ys : Listed} → AreReadable n xs → AreReadable n ys → AreReadable n (xs ++ ys)
◌▸◌ {n} {xs} {ys} h more = record { all = all_readable n xs ys h.all more.all }

-- members that are plain, have numbers and nest no deeper
record AreSound (n : ℕ) (ms : Members) : Type 0 where
  plain : ArePlain ms
  numbers : MembersHaveNumbers (members_outline ms)
  shallow : tree.members_depth (members_outline ms) ≤ n

sound_at : (n : ℕ) (k : List ℕ) (o : Option Data) (ms : Members) → IsUtf8 k → IfReadable n o
    → AreSound n ms → AreSound n (some_member k o ms)
sound_at n k None ms hk h more = more
sound_at n k (Some d) ms hk h more = record {
  plain = (hk, h.plain, more.plain);
  numbers = (h.numbers, more.numbers);
  shallow = omega (arith, h.shallow, more.shallow);
}

are_sound : (n : ℕ) (ms : Listed) → AllReadable n ms → AreSound n (as_listed ms)
are_sound n [] h = record { plain = tt; numbers = tt; shallow = omega arith }
are_sound n (m ∷ ms) h = sound_at n m.0 m.1 (as_listed ms) h.0 h.1 (are_sound n ms h.2)

if_reads : (n : ℕ) (o : Option Data) → IfReadable n o → IfReads o
if_reads n None h = tt
if_reads n (Some d) h = h.same

all_read : (n : ℕ) (ms : Listed) → AllReadable n ms → AllRead ms
all_read n [] h = tt
all_read n (m ∷ ms) h = (if_reads n m.1 h.1, all_read n ms h.2)

listed-readable : (n : ℕ) (ms : Listed) → ascends ms ≡ true → AllReadable n ms
    → Readable (suc n) (object (as_listed ms))
listed-readable n ms h r =
    let sound = are_sound n ms r in
    record {
      plain = sound.plain;
      numbers = sound.numbers;
      shallow = let within = sound.shallow in omega arith;
      same = listed-reads ms h (all_read n ms r);
    }

pub object_with-readable : (n : ℕ) (ms : Listed) → ascends ms ≡ true → AreReadable n ms
    → Readable (suc n) (object_with ms)
object_with-readable n ms h r = rw (with_members-as_listed ms h) (listed-readable n ms h r.all)

-- the text of an object that reads back is its body
pub object_of-compact_text : (n : ℕ) (ms : Listed) → n ≤ max_depth → Readable n (object_with ms)
    → object_of (compact_text (object_with ms)) ≡ Ok (object_with ms)
unfolding object_of
object_of-compact_text n ms deep r =
    let shallow : tree.depth (outline (object_with ms)) ≤ max_depth = omega (arith, r.shallow) in
    rw (
      is_utf8-from_IsUtf8 (compact_text (object_with ms))
          (compact_text-utf8 (object_with ms) r.plain),
      read-compact_text (object_with ms) r.numbers shallow r.same,
    ) refl
