use Rattle.std.proofs.lemmas.Result.{on_ok_weaker}
use Rattle.reg_opening.proofs.KeptRows.{keeps_request}
use Rattle.reg_opening.proofs.audit.Audit.keep_request.Goals as goal

pub returns-clause-ok : goal.returns-clause-ok
returns-clause-ok g c =
    on_ok_weaker c.set_row.result
    (λ put w keeps.
    keeps_request c.args.self.now w keeps c.set_row.new.map c.args.request.now
    (rw c.lacks_minute.ensures at put))
    c.set_row.ensures.ok
