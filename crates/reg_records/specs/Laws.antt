-- What a table's rows keep.
use Rattle.std.specs.Prelude.{◌≡◌, Bool, true, Option, Some}
use Rattle.sqlite.specs.Order.{Row}

-- rows keep values of a form: what is written for one reads as it; a row that reads has, in the
-- columns that are selected, exactly what is written for what it reads as; and that has the form
pub record KeepsRows {T : Type 0} (columns : Row → Row) (read : Row → Option T) (write : T → Row)
    (form : T → Bool) : Type 0 where
  pub back : (value : T) → form value ≡ true → read (write value) ≡ Some value
  pub exact : (row : Row) (value : T) → read row ≡ Some value → columns row ≡ write value
  pub formed : (row : Row) (value : T) → read row ≡ Some value → form value ≡ true
