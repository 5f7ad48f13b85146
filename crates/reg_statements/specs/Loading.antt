-- What the rows of a query read as.
use Rattle.std.specs.Prelude.{◌≡◌, List, [], ◌∷◌, Option, Some, map, option_to_list}
use Rattle.std.specs.declared.cmp.Ordering.{Ordering}
use Rattle.std.specs.declared.cmp.Ordering.TheVariants.{Less}
use Rattle.sqlite.specs.Order.{Row}

-- each row reads as the value in its place
abbrev pub ReadAs : {T : Type 0} → (Row → Option T) → List Row → List T → Type 0
ReadAs of rows values = map of rows ≡ map Some values

-- each value comes before the next
abbrev pub IsAscending : {T : Type 0} → (T → T → Ordering) → List T → Type 0
IsAscending order [] = Unit {0}
IsAscending order (x ∷ []) = Unit {0}
IsAscending order (x ∷ y ∷ more) = (order x y ≡ Less) × IsAscending order (y ∷ more)

-- the rows are at most one value
abbrev pub ReadsOne : {T : Type 0} → (Row → Option T) → List Row → Type 0
ReadsOne {T} of rows = (value : Option T) × ReadAs of rows (option_to_list value)

-- the rows are values, each before the next
abbrev pub ReadsInOrder : {T : Type 0} → (Row → Option T) → (T → T → Ordering) → List Row → Type 0
ReadsInOrder {T} of order rows = (values : List T) × ReadAs of rows values × IsAscending order values
