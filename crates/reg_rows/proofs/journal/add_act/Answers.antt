use Rattle.std.proofs.Common.{ap}
use Rattle.reg_records.specs.declared.acts.NumberedAct.{NumberedAct}
use Rattle.reg_statements.specs.Content.{content_of, parts_of}
use Rattle.reg_statements.proofs.Numbering.{next_counted, next_free, next_latest}
use Rattle.reg_rows.proofs.Joining.{steps_in}
use Rattle.reg_rows.proofs.journal.add_act.Goals as goal

pub returns-clause-steps : goal.returns-clause-steps
returns-clause-steps g c =
    let number = c.args.number in
    let act = c.args.act.now in
    let row : NumberedAct = record { number = number; act = act } in
    steps_in (c.add.ensures.steps row c.formed.ensures c.values.ensures)
    (λ db was next.
    let m = (parts_of db).journal in
    let counted = was.kept.tied.acts in (
      (
        next_free m counted number act next,
        λ tied. record {
          ranges = tied.ranges;
          holds = tied.holds;
          minutes = tied.minutes;
          acts = next_counted m counted number act next;
        },
      ),
      ap (λ journal. record (content_of db) { journal = journal })
          (next_latest m counted number act next),
    ))
