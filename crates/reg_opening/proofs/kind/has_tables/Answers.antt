use Rattle.std.proofs.Common.{subst}
use Rattle.sqlite.specs.Schema.{Schema}
use Rattle.reg_tables.specs.Connection.{Tells}
use Rattle.reg_tables.specs.Having.{AreFreeLater, FindsTablesOf}
use Rattle.reg_opening.proofs.kind.has_tables.Goals as goal

pub returns-in-Ok-clause-has : goal.returns-in-Ok-clause-has
returns-in-Ok-clause-has g c =
    subst (λ (schema : Schema). Tells c.in-Ok.has
    (FindsTablesOf c.args.version schema × AreFreeLater c.args.version schema)) c.schema.ensures.value
    c.in-Ok.ensures.has

pub returns-in-Err-clause-fault : goal.returns-in-Err-clause-fault
returns-in-Err-clause-fault g c = (c.in-Err.error, c.fault.ensures, c.in-Err.ensures.reported)
