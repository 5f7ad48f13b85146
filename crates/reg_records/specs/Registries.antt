-- Registries as rows of the table `registries`.
use Rattle.std.specs.Prelude.{Bool, ◌&&◌, [], ◌∷◌, Option, Some}
use Rattle.sqlite.specs.Order.{Row, column}
use Rattle.sqlite.specs.declared.types.Value.TheVariants.{Text}
use Rattle.reg_core.specs.Names.{is_name}
use Rattle.reg_records.specs.Columns.{formed_in, given, is_number, number_in, whole_value}
use Rattle.reg_records.specs.declared.registries.Registry.{Registry}

-- the columns that are selected: name, max
abbrev pub registry_columns : Row → Row
registry_columns row = column row 0 ∷ column row 1 ∷ []

-- the registry that a row holds, where each column has its form
abbrev pub registry_in : Row → Option Registry
registry_in row =
    given (formed_in is_name (column row 0)) (λ name.
    given (number_in is_number (column row 1)) (λ max.
    Some (record { name = name; max = max })))

-- the row that is written for it
abbrev pub registry_values : Registry → Row
registry_values registry = Text registry.name ∷ whole_value registry.max ∷ []

-- it has a name, and its largest value has 32 bits
abbrev pub is_registry : Registry → Bool
is_registry registry = is_name registry.name && is_number registry.max
