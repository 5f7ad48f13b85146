-- When SQL finds two values equal.
use Rattle.std.specs.Prelude.{Bool, false, bytes_eq}
use Rattle.std.specs.Ordering.{int_eq, is_eq}
use Rattle.sqlite.specs.declared.types.Value.{Value}
use Rattle.sqlite.specs.declared.types.Value.TheVariants.{Null, Int, Real, Text, Blob}
use Rattle.sqlite.specs.Order.{value_cmp}

-- numbers, texts and blobs are of three classes, and NULL equals nothing
abbrev pub same_value : Value → Value → Bool
same_value Null b = false
same_value (Int m) Null = false
same_value (Int m) (Int n) = int_eq m n
same_value (Int m) (Real y) = is_eq (value_cmp (Int m) (Real y))
same_value (Int m) (Text t) = false
same_value (Int m) (Blob b) = false
same_value (Real x) Null = false
same_value (Real x) (Int n) = is_eq (value_cmp (Real x) (Int n))
same_value (Real x) (Real y) = is_eq (value_cmp (Real x) (Real y))
same_value (Real x) (Text t) = false
same_value (Real x) (Blob b) = false
same_value (Text s) Null = false
same_value (Text s) (Int n) = false
same_value (Text s) (Real y) = false
same_value (Text s) (Text t) = bytes_eq s t
same_value (Text s) (Blob b) = false
same_value (Blob s) Null = false
same_value (Blob s) (Int n) = false
same_value (Blob s) (Real y) = false
same_value (Blob s) (Text t) = false
same_value (Blob s) (Blob b) = bytes_eq s b
