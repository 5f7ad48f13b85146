-- What a column of a row holds, where it has its form, and what is written in it.
use Rattle.std.specs.Prelude.{ℕ, ◌^◌, ℤ, pos, negsuc, Bool, true, false, ◌==◌, nat_lt, if◌then◌else◌, List, Option, Some, None, option_map, option_and_then}
use Rattle.sqlite.specs.declared.types.Value.{Value}
use Rattle.sqlite.specs.declared.types.Value.TheVariants.{Null, Int, Real, Text, Blob}
use Rattle.reg_ranges.specs.Texts.{read_text}

-- ---- What a column holds

-- a whole number
abbrev pub int_in : Value → Option ℤ
int_in Null = None
int_in (Int n) = Some n
int_in (Real x) = None
int_in (Text t) = None
int_in (Blob b) = None

-- the natural number that a whole one is, if it is one
abbrev pub natural_of : ℤ → Option ℕ
natural_of (pos n) = Some n
natural_of (negsuc n) = None

-- a natural number
abbrev pub whole_in : Value → Option ℕ
whole_in value = option_and_then natural_of (int_in value)

-- the number, where it has the form
abbrev pub number_of : (ℕ → Bool) → ℕ → Option ℕ
number_of form n = if form n then Some n else None

-- a number of a form
abbrev pub number_in : (ℕ → Bool) → Value → Option ℕ
number_in form value = option_and_then (number_of form) (whole_in value)

-- it has 32 bits
abbrev pub is_number : ℕ → Bool
is_number n = nat_lt n (2 ^ 32)

-- 0 for no, 1 for yes
abbrev pub flag_of : ℕ → Option Bool
flag_of n = if n == 0 then Some false else (if n == 1 then Some true else None)

abbrev pub flag_in : Value → Option Bool
flag_in value = option_and_then flag_of (whole_in value)

-- the bytes of a text
abbrev pub text_in : Value → Option (List ℕ)
text_in Null = None
text_in (Int n) = None
text_in (Real x) = None
text_in (Text t) = Some t
text_in (Blob b) = None

-- what a text reads as
abbrev pub read_in : {T : Type 0} → (List ℕ → Option T) → Value → Option T
read_in read value = option_and_then read (text_in value)

-- a text of a form
abbrev pub formed_in : (List ℕ → Bool) → Value → Option (List ℕ)
formed_in form value = read_in (read_text form) value

abbrev pub is_null : Value → Bool
is_null Null = true
is_null (Int n) = false
is_null (Real x) = false
is_null (Text t) = false
is_null (Blob b) = false

-- NULL, which stands for none, or what any other value has to hold
abbrev pub or_null_in : {T : Type 0} → (Value → Option T) → Value → Option (Option T)
or_null_in read value = if is_null value then Some None else option_map Some (read value)

-- what is made of a value, where there is one
abbrev pub given : {A B : Type 0} → Option A → (A → Option B) → Option B
given found make = option_and_then make found

-- ---- What is written in a column

-- a whole number
abbrev pub whole_value : ℕ → Value
whole_value n = Int (pos n)

-- a flag, as 1 or 0
abbrev pub flag_value : Bool → Value
flag_value flag = whole_value (if flag then 1 else 0)
