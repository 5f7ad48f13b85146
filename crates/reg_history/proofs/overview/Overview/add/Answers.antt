use Rattle.std.proofs.Common.{Some, refl, ap}
use Rattle.reg_history.proofs.Overviews.{overview_more}
use Rattle.reg_history.proofs.overview.Overview.add.Goals as goal

pub returns : goal.returns
returns c = λ records is.
    overview_more c.args.self.now
    (record {
      count = c.in-Some.number;
      first = Some c.unwrap_or.result;
      last = Some c.in_ok-line.line.digest;
      recent = c.note_recent.new.recent;
      changed = c.note_moment.new.changed;
    })
    records c.args.moment.now c.args.change.now c.in_ok-line.line c.in-Some.number
    c.last_digest.result.now is c.in-Some.ensures.1 c.last_digest.ensures c.in_ok-line.ensures.bytes
    c.in_ok-line.ensures.digest refl (ap Some c.unwrap_or.ensures) refl c.in_ok-note_recent.ensures
    c.in_ok-note_moment.ensures
