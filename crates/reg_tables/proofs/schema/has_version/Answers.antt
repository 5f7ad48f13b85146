use Rattle.std.proofs.Common.{◌≡◌, false, drop, length, take, ap, sym, subst, ◌∙◌, arith}
use Rattle.std.specs.List.{AllByRecursion}
use Rattle.sqlite.specs.Schema.{Schema}
use Rattle.sqlite.specs.Table.{Table}
use Rattle.sqlite_catalog.specs.Change.{is_used}
use Rattle.reg_tables.specs.Bare.{IsBareTable}
use Rattle.reg_tables.specs.Connection.{Tells}
use Rattle.reg_tables.specs.Having.{FindsTable}
use Rattle.reg_tables.specs.Schema.{office_schema}
use Rattle.reg_tables.proofs.HavingLemmas.{counted, memory_made}
use Rattle.reg_tables.proofs.SchemaLemmas.{office_bare}
use Rattle.reg_tables.proofs.schema.has_version.Goals as goal

pub has_part-requires : goal.has_part-requires
has_part-requires c =
    let made = c.in_ok-make_tables.ensures in
    let is = c.as_slice.ensures ∙ ap (λ (s : Schema). s.tables) (c.schema.ensures.value
    ∙ memory_made c.in_ok-conn.conn c.make_tables.new.conn c.in_ok-conn.ensures.empty.2 made.live
    made.made) in
    let whole = ap length is in
    let part = counted c.args.version in
    omega (arith, whole, part, c.tables.ensures)

pub returns : goal.returns
returns c =
    let made = c.in_ok-make_tables.ensures in
    let is = c.as_slice.ensures ∙ ap (λ (s : Schema). s.tables) (c.schema.ensures.value
    ∙ memory_made c.in_ok-conn.conn c.make_tables.new.conn c.in_ok-conn.ensures.empty.2 made.live
    made.made) in
    let schema = c.args.schema.now in
    let told = c.has_part.ensures (subst (AllByRecursion IsBareTable) (sym is) office_bare) in
    let whole = subst (λ tables. Tells c.has_part.result
    (AllByRecursion (FindsTable schema) (take c.tables.result tables)
    × AllByRecursion (λ (t : Table). is_used schema t.name ≡ false) (drop c.tables.result tables)))
    is told in
    subst (λ n. Tells c.has_part.result
    (AllByRecursion (FindsTable schema) (take n office_schema.tables)
    × AllByRecursion (λ (t : Table). is_used schema t.name ≡ false) (drop n office_schema.tables)))
    c.tables.ensures whole
