use Rattle.std.proofs.Common.{None, refl, ap, ◌∙◌}
use Rattle.reg_history.specs.History.{later}
use Rattle.reg_history.proofs.Recordings.{records_begun}
use Rattle.reg_history.proofs.history.History.go_on.Goals as goal

pub returns : goal.returns
returns c = λ aim is.
    records_begun aim c.args.self
    (record {
      whole = record { text = c.args.text; overview = c.args.self.overview };
      said = c.args.self.said;
      moment = c.later.result;
      lost = None;
    })
    c.args.text.items c.args.moment is refl refl refl
    (c.later.ensures
    ∙ ap (later c.args.self.moment)
    (c.in_ok-new.ensures ∙ c.as_str.ensures.value ∙ c.in_ok-now.ensures))
