use Rattle.std.proofs.Common.{◌++◌, sym, ap, ◌∙◌, subst}
use Rattle.std.specs.Prelude.{Option, option_to_list}
use Rattle.reg_history.specs.Chain.{at, record_of}
use Rattle.reg_history.specs.Recording.{IsRecorded}
use Rattle.reg_changes.specs.declared.change.PublishedChange.{PublishedChange}
use Rattle.reg_history.specs.declared.recorder.Recorded.{Recorded}
use Rattle.reg_history.proofs.Recordings.{recorded_more}
use Rattle.reg_history.proofs.recorder.Recorded.add.Goals as goal

pub returns : goal.returns
returns c = λ records is.
    let w : Recorded = record { text = c.extend_from_slice.new.self; overview = c.add.new.self } in
    let To : Option PublishedChange → Type 0 = λ o.
    IsRecorded w (records ++ at c.args.moment.now (option_to_list o)) in
    subst To (sym c.in-Some.is)
    (recorded_more c.args.self.now w records (record_of c.args.moment.now c.in-Some.change)
    c.in_ok-line.line is
    (c.in_ok-extend_from_slice.ensures.items
    ∙ ap (λ b. c.args.self.now.text.items ++ b) c.as_slice.ensures.value)
    (c.in_ok-line.ensures records is.shown))
