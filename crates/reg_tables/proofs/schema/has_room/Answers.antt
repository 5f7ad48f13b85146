use Rattle.std.proofs.Common.{◌≡◌, false, ap, subst, ◌∙◌}
use Rattle.std.specs.List.{AllByRecursion}
use Rattle.sqlite.specs.Schema.{Schema}
use Rattle.sqlite.specs.Table.{Table}
use Rattle.sqlite_catalog.specs.Change.{is_used}
use Rattle.reg_tables.specs.Connection.{Tells}
use Rattle.reg_tables.proofs.HavingLemmas.{memory_made}
use Rattle.reg_tables.proofs.schema.has_room.Goals as goal

pub returns : goal.returns
returns c =
    let made = c.in_ok-make_tables.ensures in
    let is = c.schema.ensures.value
    ∙ memory_made c.in_ok-conn.conn c.make_tables.new.conn c.in_ok-conn.ensures.empty.2 made.live
    made.made in
    subst (λ tables. Tells c.are_free.result
    (AllByRecursion (λ (t : Table). is_used c.args.schema.now t.name ≡ false) tables))
    (c.as_slice.ensures ∙ ap (λ (s : Schema). s.tables) is) c.are_free.ensures
