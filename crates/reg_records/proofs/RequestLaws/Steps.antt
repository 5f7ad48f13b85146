-- Steps through the columns of a request, forth and back.
use Rattle.std.proofs.Common.{◌≡◌, ℕ, zero, suc, ◌+◌, Bool, true, false, [], ◌∷◌, ◌++◌, take, drop, Option, Some, None, refl, sym, ◌∙◌, ap, ap₂}
use Rattle.std.specs.Prelude.{option_map}
use Rattle.std.specs.List.{list_all, range_with_len}
use Rattle.std.proofs.lemmas.Bool.{and_parts}
use Rattle.std.proofs.lemmas.List.Folds.{list_all-map}
use Rattle.std.proofs.lemmas.Option.{none-some, same_Some}
use Rattle.sqlite.specs.Order.{Row, column}
use Rattle.sqlite.specs.Values.{or_null}
use Rattle.sqlite.specs.declared.types.Value.{Value}
use Rattle.sqlite.specs.declared.types.Value.TheVariants.{Null, Text}
use Rattle.reg_ranges.specs.Forms.{is_none_or}
use Rattle.reg_ranges.specs.Texts.{is_text}
use Rattle.reg_core.specs.Names.{is_name}
use Rattle.reg_records.specs.Columns.{given, is_null, or_null_in}
use Rattle.reg_records.specs.Requests.Reading.{◌>>◌, columns, are_null, name_in, printable_in}
use Rattle.reg_records.specs.Requests.Values.{nulls}
use Rattle.reg_records.proofs.ColumnLaws.{IsColumn, given_some, formed_texts, or_nulls}

-- columns that read exactly where they have what is written for a value of the form
pub record IsPart {T : Type 0} (read : Row → Option T) (from count : ℕ) (values : T → Row)
    (form : T → Bool) : Type 0 where
  pub back : (row : Row) (x : T) → columns row from count ≡ values x → form x ≡ true
      → read row ≡ Some x
  pub kept : (row : Row) (x : T) → read row ≡ Some x
      → (columns row from count ≡ values x) × (form x ≡ true)

-- ---- From what is read to the columns

pub part_some : {A B P : Type 0} {read : Row → Option A} {from count : ℕ} {values : A → Row}
    {form : A → Bool}
    → IsPart read from count values form → (row : Row) (f : A → Option B) (y : B)
    → given (read row) f ≡ Some y
    → ((x : A) → columns row from count ≡ values x → form x ≡ true → f x ≡ Some y → P) → P
part_some {read = read} part row f y h then = given_some (read row) f y h (λ x is h.
    let k = part.kept row x is in then x k.0 k.1 h)

pub test_some : {A P : Type 0} (test : Bool) (next : Option A) (y : A) → (test >> next) ≡ Some y
    → (test ≡ true → next ≡ Some y → P) → P
test_some true next y h then = then refl h
test_some false next y h then = absurd (none-some y h)

pub map_some : {A B P : Type 0} (f : A → B) (o : Option A) (y : B) → option_map f o ≡ Some y
    → ((x : A) → o ≡ Some x → f x ≡ y → P) → P
map_some f None y h then = absurd (none-some y h)
map_some f (Some x) y h then = then x refl (same_Some (f x) y h)

-- ---- From the columns to what is read

pub part-at : {A B : Type 0} {read : Row → Option A} {from count : ℕ} {values : A → Row}
    {form : A → Bool}
    → IsPart read from count values form → (row : Row) (x : A)
    → columns row from count ≡ values x → form x ≡ true → (f : A → Option B) (y : Option B)
    → f x ≡ y → given (read row) f ≡ y
part-at part row x is formed f y then = rw (part.back row x is formed) then

pub value-at : {A B : Type 0} {read : Value → Option A} {value : A → Value} {form : A → Bool}
    → IsColumn read value form → (v : Value) (x : A) → v ≡ value x → form x ≡ true
    → (f : A → Option B) (y : Option B) → f x ≡ y → given (read v) f ≡ y
value-at column v x is formed f y then = rw (is, column.back x formed) then

pub test-at : {A : Type 0} (test : Bool) (next y : Option A) → test ≡ true → next ≡ y
    → (test >> next) ≡ y
test-at test next y holds then = rw holds then

-- ---- Columns

pub names : IsColumn name_in Text is_name
names = formed_texts is_name

pub printables : IsColumn printable_in Text is_text
printables = formed_texts is_text

pub notes : IsColumn (or_null_in printable_in) (or_null Text) (is_none_or is_text)
notes = or_nulls printables (λ text. refl)

-- ---- Columns that are not there

null : (v : Value) → is_null v ≡ true → v ≡ Null
null Null h = refl
null _ h = absurd (cc)

pub nulls_kept : (row : Row) (count from : ℕ) → are_null row from count ≡ true
    → columns row from count ≡ nulls count
nulls_kept row zero from h = refl
nulls_kept row (suc count) from h =
    let both = and_parts (is_null (column row from)) (are_null row (from + 1) count) h in
    ap₂ (λ v vs. v ∷ vs) (null (column row from) both.0) (nulls_kept row count (from + 1) both.1)

nulls_null : (count : ℕ) → list_all is_null (nulls count) ≡ true
nulls_null zero = refl
nulls_null (suc count) = nulls_null count

pub nulls_back : (row : Row) (from count : ℕ) → columns row from count ≡ nulls count
    → are_null row from count ≡ true
nulls_back row from count h =
    sym (list_all-map is_null (column row) (range_with_len from count))
    ∙ ap (list_all is_null) h
    ∙ nulls_null count

-- ---- Lists of columns

infixr 5 ◌⊕◌
pub ◌⊕◌ : {a b c d : Row} → a ≡ b → c ≡ d → a ++ c ≡ b ++ d
p ⊕ q = ap₂ (λ x y. x ++ y) p q

pub one : {v w : Value} → v ≡ w → ◌≡◌ {A = Row} (v ∷ []) (w ∷ [])
one p = ap (λ v. v ∷ []) p

-- the column at a place, and so many from a place on
pub cell : (at : ℕ) {a b : Row} → a ≡ b → column a at ≡ column b at
cell at p = ap (λ cells. column cells at) p

pub within : (from count : ℕ) {a b : Row} → a ≡ b
    → take count (drop from a) ≡ take count (drop from b)
within from count p = ap (λ cells. take count (drop from cells)) p
