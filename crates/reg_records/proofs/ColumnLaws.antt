-- What is written in a column reads back, and a column that reads has what is written for it.
use Rattle.std.proofs.Common.{◌≡◌, ℕ, ℤ, pos, negsuc, Bool, true, false, cond, List, Option, Some, None, refl, ◌∙◌, ap, subst, arith}
use Rattle.std.specs.Prelude.{option_map, ◌&&◌}
use Rattle.std.specs.Cmp.{first_so, second_so}
use Rattle.std.proofs.lemmas.Option.{none-some, same_Some}
use Rattle.std.proofs.lemmas.Bool.Decides.{nat_tests}
use Rattle.sqlite.specs.declared.types.Value.{Value}
use Rattle.sqlite.specs.declared.types.Value.TheVariants.{Null, Int, Text}
use Rattle.sqlite.specs.Order.{Row}
use Rattle.sqlite.specs.Values.{or_null}
use Rattle.reg_ranges.specs.Forms.{is_none_or}
use Rattle.reg_ranges.specs.Words.{ReadsWords}
use Rattle.reg_records.specs.Laws.{KeepsRows}
use Rattle.reg_records.specs.Columns.{int_in, natural_of, whole_in, number_of, number_in, flag_of, flag_in, text_in, read_in, formed_in, is_null, or_null_in, given, whole_value, flag_value}

-- a column that holds values of a form: what is written for one reads as it, and what reads is what
-- is written for a value of the form
pub record IsColumn {T : Type 0} (read : Value → Option T) (value : T → Value) (form : T → Bool)
    : Type 0 where
  pub back : (x : T) → form x ≡ true → read (value x) ≡ Some x
  pub exact : (v : Value) (x : T) → read v ≡ Some x → v ≡ value x
  pub formed : (v : Value) (x : T) → read v ≡ Some x → form x ≡ true

-- a table whose rows read as what is written, and which reads only such rows
pub keeps_rows : {T : Type 0} {columns : Row → Row} {read : Row → Option T} {write : T → Row}
    {form : T → Bool} → ((x : T) → form x ≡ true → read (write x) ≡ Some x)
    → ((row : Row) (x : T) → read row ≡ Some x → (columns row ≡ write x) × (form x ≡ true))
    → KeepsRows columns read write form
keeps_rows back kept = record {
  back = back;
  exact = λ row x h. (kept row x h).0;
  formed = λ row x h. (kept row x h).1;
}

-- a value of any form
abbrev pub any : {T : Type 0} → T → Bool
any x = true

-- two forms that are met together
pub both : {P : Type 0} (a b : Bool) → (a && b) ≡ true → (a ≡ true → b ≡ true → P) → P
both a b h then = then (first_so a b h) (second_so a b h)

-- ---- Steps through a row

-- what is made was made of a value
pub given_some : {A B P : Type 0} (o : Option A) (f : A → Option B) (y : B) → given o f ≡ Some y
    → ((x : A) → o ≡ Some x → f x ≡ Some y → P) → P
given_some None f y h then = absurd (none-some y h)
given_some (Some x) f y h then = then x refl h

-- and where that value was read in a column, the column has what is written for it
pub column_some : {A B P : Type 0} {read : Value → Option A} {value : A → Value} {form : A → Bool}
    → IsColumn read value form → (v : Value) (f : A → Option B) (y : B)
    → given (read v) f ≡ Some y
    → ((x : A) → v ≡ value x → form x ≡ true → f x ≡ Some y → P) → P
column_some {read = read} column v f y h then =
    given_some (read v) f y h
    (λ x is h. then x (column.exact v x is) (column.formed v x is) h)

-- what is made of a value that there is
pub given-at : {A B : Type 0} {o : Option A} {x : A} → o ≡ Some x → (f : A → Option B)
    (y : Option B) → f x ≡ y → given o f ≡ y
given-at is f y then = rw is then

-- what is made of a row in whose column a value of the form was written
pub column-at : {A B : Type 0} {read : Value → Option A} {value : A → Value} {form : A → Bool}
    → IsColumn read value form → (x : A) → form x ≡ true → (f : A → Option B) (y : Option B)
    → f x ≡ y → given (read (value x)) f ≡ y
column-at column x form f y then = given-at (column.back x form) f y then

-- ---- Kinds of columns

int_exact : (v : Value) (n : ℤ) → int_in v ≡ Some n → v ≡ Int n
int_exact (Int m) n h = ap Int (same_Some m n h)
int_exact _ n h = absurd (none-some n h)

pub ints : IsColumn int_in Int any
ints = record { back = λ n h. refl; exact = int_exact; formed = λ v n h. refl }

whole_exact : (v : Value) (n : ℕ) → whole_in v ≡ Some n → v ≡ whole_value n
whole_exact v n h = given_some (int_in v) natural_of n h (λ m is h.
    int_exact v m is ∙ ap Int (natural m n h))
  where
    natural : (m : ℤ) (n : ℕ) → natural_of m ≡ Some n → m ≡ pos n
    natural (pos m) n h = ap pos (same_Some m n h)
    natural (negsuc m) n h = absurd (none-some n h)

pub wholes : IsColumn whole_in whole_value any
wholes = record { back = λ n h. refl; exact = whole_exact; formed = λ v n h. refl }

-- a test that lets a value through
pub let_through : {T : Type 0} (b : Bool) (x y : T) → cond b (Some x) None ≡ Some y
    → (b ≡ true) × (x ≡ y)
let_through true x y h = (refl, same_Some x y h)
let_through false x y h = absurd (none-some y h)

pub numbers : (form : ℕ → Bool) → IsColumn (number_in form) whole_value form
numbers form = record {
  back = λ n h. rw h refl;
  exact = λ v n h. given_some (whole_in v) (number_of form) n h (λ m is h.
      whole_exact v m is ∙ ap whole_value ((let_through (form m) m n h).1));
  formed = λ v n h. given_some (whole_in v) (number_of form) n h (λ m is h.
      let test = let_through (form m) m n h in rw (← test.1) test.0);
}

flag_back : (flag : Bool) → flag_in (flag_value flag) ≡ Some flag
flag_back true = refl
flag_back false = refl

flag_of-exact : (n : ℕ) (flag : Bool) → flag_of n ≡ Some flag → whole_value n ≡ flag_value flag
flag_of-exact n true h = ap whole_value (grind (arith, nat_tests))
flag_of-exact n false h = ap whole_value (grind (arith, nat_tests))

pub flags : IsColumn flag_in flag_value any
flags = record {
  back = λ flag h. flag_back flag;
  exact = λ v flag h. given_some (whole_in v) flag_of flag h (λ n is h.
      whole_exact v n is ∙ flag_of-exact n flag h);
  formed = λ v flag h. refl;
}

text_exact : (v : Value) (t : List ℕ) → text_in v ≡ Some t → v ≡ Text t
text_exact (Text s) t h = ap Text (same_Some s t h)
text_exact _ t h = absurd (none-some t h)

-- a reader of texts that reads exactly what is written for values of the form
pub record ReadsTexts {T : Type 0} (read : List ℕ → Option T) (text : T → List ℕ) (form : T → Bool)
    : Type 0 where
  pub back : (x : T) → form x ≡ true → read (text x) ≡ Some x
  pub exact : (s : List ℕ) (x : T) → read s ≡ Some x → s ≡ text x
  pub formed : (s : List ℕ) (x : T) → read s ≡ Some x → form x ≡ true

pub texts : {T : Type 0} {read : List ℕ → Option T} {text : T → List ℕ} {form : T → Bool}
    → ReadsTexts read text form → IsColumn (read_in read) (λ x. Text (text x)) form
texts {read = read} {text = text} reads = record {
  back = reads.back;
  exact = λ v x h. given_some (text_in v) read x h (λ s is h.
      text_exact v s is ∙ ap Text (reads.exact s x h));
  formed = λ v x h. given_some (text_in v) read x h (λ s is h. reads.formed s x h);
}

pub words : {T : Type 0} {word : T → List ℕ} {read : List ℕ → Option T}
    → ReadsWords word read → IsColumn (read_in read) (λ x. Text (word x)) any
words {word = word} reads = texts (record {
  back = λ x h. (reads x (word x)).1 refl;
  exact = λ s x h. (reads x s).0 h;
  formed = λ s x h. refl;
})

pub formed_texts : (form : List ℕ → Bool) → IsColumn (formed_in form) Text form
formed_texts form = texts (record {
  back = λ s h. rw h refl;
  exact = λ s t h. (let_through (form s) s t h).1;
  formed = λ s t h. let test = let_through (form s) s t h in rw (← test.1) test.0;
})

-- ---- Columns that may be NULL

null_read : {T : Type 0} (value : T → Value) (form : T → Bool) (o : Option T)
    → Some None ≡ Some o → (Null ≡ or_null value o) × (is_none_or form o ≡ true)
null_read value form None h = (refl, refl)
null_read value form (Some x) h = absurd (none-some x (same_Some None (Some x) h))

-- what a map gave was made of a value
pub map_some : {A B P : Type 0} (f : A → B) (o : Option A) (y : B) → option_map f o ≡ Some y
    → ((x : A) → o ≡ Some x → f x ≡ y → P) → P
map_some f None y h then = absurd (none-some y h)
map_some f (Some x) y h then = then x refl (same_Some (f x) y h)

value_read : {T : Type 0} {read : Value → Option T} {value : T → Value} {form : T → Bool}
    → IsColumn read value form → (v : Value) (o : Option T) → option_map Some (read v) ≡ Some o
    → (v ≡ or_null value o) × (is_none_or form o ≡ true)
value_read {read = read} {value = value} {form = form} column v o h =
    map_some Some (read v) o h (λ x is same.
    subst (λ o. (v ≡ or_null value o) × (is_none_or form o ≡ true)) same
    (column.exact v x is, column.formed v x is))

or_null_read : {T : Type 0} {read : Value → Option T} {value : T → Value} {form : T → Bool}
    → IsColumn read value form → (v : Value) (o : Option T) → or_null_in read v ≡ Some o
    → (v ≡ or_null value o) × (is_none_or form o ≡ true)
or_null_read {value = value} {form = form} column Null o h = null_read value form o h
or_null_read column v o h = value_read column v o h

or_null_back : {T : Type 0} {read : Value → Option T} {value : T → Value} {form : T → Bool}
    → IsColumn read value form → ((x : T) → is_null (value x) ≡ false) → (o : Option T)
    → is_none_or form o ≡ true → or_null_in read (or_null value o) ≡ Some o
or_null_back column present None h = refl
or_null_back column present (Some x) h = rw (present x, column.back x h) refl

-- a column that holds NULL for none, where no value is written as NULL
pub or_nulls : {T : Type 0} {read : Value → Option T} {value : T → Value} {form : T → Bool}
    → IsColumn read value form → ((x : T) → is_null (value x) ≡ false)
    → IsColumn (or_null_in read) (or_null value) (is_none_or form)
or_nulls column present = record {
  back = or_null_back column present;
  exact = λ v o h. (or_null_read column v o h).0;
  formed = λ v o h. (or_null_read column v o h).1;
}
