use Rattle.std.proofs.Common.{sym, ◌∙◌}
use Rattle.std.proofs.lemmas.Result.{on_ok_weaker}
use Rattle.reg_opening.proofs.KeptRows.{keeps_hold, keeps_unheld}
use Rattle.reg_opening.proofs.audit.Audit.keep_hold.Goals as goal

pub returns-in_default-clause-ok : goal.returns-in_default-clause-ok
returns-in_default-clause-ok g c = λ w keeps.
    keeps_unheld c.args.self.now w keeps c.args.registry c.args.value
    (sym (c.copied.ensures ∙ c.get.ensures.value) ∙ c.in_default.is)

pub returns-clause-ok : goal.returns-clause-ok
returns-clause-ok g c =
    on_ok_weaker c.set_row.result
    (λ put w keeps.
    keeps_hold c.args.self.now w keeps c.set_row.new.map c.args.registry c.args.value
    c.in-Some.standing (sym (c.copied.ensures ∙ c.get.ensures.value) ∙ c.in-Some.is) put)
    c.set_row.ensures.ok
