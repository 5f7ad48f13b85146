-- A test by key passes the rows whose columns equal the parameters.
use Rattle.std.proofs.Common.{◌≡◌, ◌↔◌, ℕ, ℤ, List, [], ◌∷◌, Bool, true, false, ◌&&◌}
use Rattle.std.proofs.Common.{Some, refl, ap, ◌∙◌}
use Rattle.std.specs.List.{list_all}
use Rattle.std.specs.Ordering.{is_eq, nat_cmp}
use Rattle.std.proofs.lemmas.Map.Text.{is_eq-slice_cmp}
use Rattle.std.proofs.lemmas.Bool.Decides.{Decides-int_eq}
use Rattle.std.proofs.lemmas.Slice.Eq.{bytes_eq-Decides}
use Rattle.sqlite.specs.declared.types.Value.{Value}
use Rattle.sqlite.specs.declared.types.Value.TheVariants.{Null, Int, Real, Text, Blob}
use Rattle.sqlite.specs.Collation.TheVariants.{Binary}
use Rattle.sqlite.specs.Order.{Row, column, value_cmp, class}
use Rattle.sqlite_sql.specs.declared.ops.BinaryOp.TheVariants.{Compare}
use Rattle.sqlite_sql.specs.declared.ops.CompareOp.TheVariants.{Eq}
use Rattle.sqlite_sql.specs.Ops.{binary, is_true, from_truth}
use Rattle.sqlite_value.proofs.OrderLemmas.{value_cmp-Int, value_cmp-Text, value_cmp-Blob, value_cmp-apart}
use Rattle.reg_tables.specs.Selecting.{passes, equals}
use Rattle.reg_tables.specs.Values.{same_value}

told : (b : Bool) → is_true (from_truth (Some b)) ≡ b
told true = refl
told false = refl

-- values of two classes are not equal
apart : (a b : Value) → (class a ≡ class b → ⊥) → is_eq (nat_cmp (class a) (class b)) ≡ false
    → is_eq (value_cmp a b) ≡ false
apart a b differ unequal = ap is_eq (value_cmp-apart a b differ) ∙ unequal

-- a test that two values are equal
pub compared : (a b : Value) → is_true (binary (Compare Eq Binary) a b) ≡ same_value a b
unfolding binary
compared Null b = refl
compared (Int m) (Int n) = told (is_eq (value_cmp (Int m) (Int n))) ∙ ap is_eq (value_cmp-Int m n)
compared (Int m) (Real y) = told (is_eq (value_cmp (Int m) (Real y)))
compared (Real x) (Int n) = told (is_eq (value_cmp (Real x) (Int n)))
compared (Real x) (Real y) = told (is_eq (value_cmp (Real x) (Real y)))
compared (Text s) (Text t) =
    told _ ∙ ap is_eq (value_cmp-Text s t) ∙ is_eq-slice_cmp s t
compared (Blob s) (Blob t) =
    told _ ∙ ap is_eq (value_cmp-Blob s t) ∙ is_eq-slice_cmp s t
compared a Null = refl
compared a b = told _ ∙ apart a b (λ e. cc) refl

-- a row passes where each column of a pair has the value of its parameter
pub passes_equals : (pairs : List (ℕ × ℕ)) (params row : Row) → passes (equals pairs) params row
    ≡ list_all (λ p. same_value (column row p.0) (column params p.1)) pairs
passes_equals [] params row = refl
passes_equals (p ∷ pairs) params row =
    let here = compared (column row p.0) (column params p.1) in
    ap (λ b. b && passes (equals pairs) params row) here
    ∙ ap (λ b. same_value (column row p.0) (column params p.1) && b)
    (passes_equals pairs params row)

pub same_value-Int : (m n : ℤ) → (same_value (Int m) (Int n) ≡ true) ↔ (m ≡ n)
same_value-Int m n = Decides-int_eq m n

pub same_value-is : (s t : List ℕ) → (same_value (Text s) (Text t) ≡ true) ↔ (s ≡ t)
same_value-is s t = bytes_eq-Decides s t
