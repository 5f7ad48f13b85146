-- Links as rows of their table.
use Rattle.std.specs.Prelude.{Bool, ◌&&◌, [], ◌∷◌, Option, Some}
use Rattle.sqlite.specs.Order.{Row, column}
use Rattle.sqlite.specs.declared.types.Value.TheVariants.{Text}
use Rattle.reg_core.specs.Names.{is_name}
use Rattle.reg_records.specs.Columns.{formed_in, given}
use Rattle.reg_records.specs.declared.links.Link.{Link}

-- the columns that are selected: principal, agent
abbrev pub link_columns : Row → Row
link_columns row = column row 0 ∷ column row 1 ∷ []

-- the link that a row holds, where each column has its form
abbrev pub link_in : Row → Option Link
link_in row =
    given (formed_in is_name (column row 0)) (λ principal.
    given (formed_in is_name (column row 1)) (λ agent.
    Some (record { principal = principal; agent = agent })))

-- the row that is written for it
abbrev pub link_values : Link → Row
link_values link = Text link.principal ∷ Text link.agent ∷ []

-- each of its names is one; that they are two is not looked at
abbrev pub is_link : Link → Bool
is_link link = is_name link.principal && is_name link.agent
