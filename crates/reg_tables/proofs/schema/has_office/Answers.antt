use Rattle.std.proofs.Common.{◌∙◌}
use Rattle.reg_tables.proofs.HavingLemmas.{memory_made}
use Rattle.reg_tables.proofs.schema.has_office.Goals as goal

pub returns : goal.returns
returns c =
    let made = c.in_ok-make_tables.ensures in
    c.has_first.ensures (c.schema.ensures.value
    ∙ memory_made c.in_ok-conn.conn c.make_tables.new.conn c.in_ok-conn.ensures.empty.2 made.live
    made.made)
