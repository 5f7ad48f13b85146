use Rattle.std.proofs.Common.{◌≡◌, Some, sym, ◌∙◌}
use Rattle.reg_history.proofs.Rows.{second_is}
use Rattle.reg_history.proofs.fields.SharedFields.record.Goals as goal

pub returns : goal.returns
returns c = λ number r e.
    let made = sym c.in-Some.is ∙ c.in_ok-change.ensures number r.moment r.change e in
    let change : c.in-Some.change ≡ r.change = cc made in
    let moment : c.in_ok-shared.field-0 ≡ r.moment =
    c.in_ok-shared.ensures
    ∙ second_is c.args.texts.now.number.now c.args.texts.now.moment.now number r.moment _ _ e in
    λ i. Some (record { moment = moment i; change = change i })
