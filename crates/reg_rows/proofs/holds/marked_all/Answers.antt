use Rattle.std.proofs.Common.{is_some, ap, ◌∙◌}
use Rattle.std.specs.List.{list_any}
use Rattle.reg_rows.proofs.Looking.{looks_told}
use Rattle.reg_rows.proofs.MarkedRows.{marks_told}
use Rattle.reg_rows.proofs.holds.marked_all.Goals as goal

pub returns : goal.returns
returns g c =
    looks_told c.in_ok-marks.ensures (λ p read.
    c.in_ok-with_marks.ensures
    ∙ marks_told p c.args.registry.now c.in_ok-marks.marks.items c.args.entries.items (λ some.
    read (ap (list_any (λ e. is_some e.term.expires)) c.as_slice.ensures.value ∙ some)))
