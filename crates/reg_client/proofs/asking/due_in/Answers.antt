use Rattle.std.proofs.lemmas.Result.{IfOk-weaker}
use Rattle.reg_client.proofs.Asked.{asks_all}
use Rattle.reg_client.proofs.asking.due_in.Goals as goal

pub returns : goal.returns
returns g c =
    IfOk-weaker c.due_of.result _ _
    (λ due rest. asks_all g.S.Source.published g.S.Source.Holds c.args.moment c.args.today
    c.args.days c.args.source.now c.ask.new.self c.due_of.new.source c.in_ok-names_in.field-0.now
    c.in_ok-names.names due.items c.in_ok-names_in.ensures c.in_ok-names.ensures rest)
    c.due_of.ensures
