use Rattle.std.proofs.Common.{◌≡◌, false, length, nat_lt, rules}
use Rattle.reg_pages.specs.Reading.{file_notes}
use Rattle.reg_pages.proofs.reading.read_notes.Goals as goal

pub returns-then-file-gt-MOST_BYTES-clause-fault : goal.returns-then-file-gt-MOST_BYTES-clause-fault
unfolding file_notes
returns-then-file-gt-MOST_BYTES-clause-fault c = search rules

pub returns-clause-notes : goal.returns-clause-notes
unfolding file_notes
returns-clause-notes c =
    let small : nat_lt 1048576 (length c.args.file.now) ≡ false = search rules in
    simp small (c.notes_of.ensures.notes c.args.file.now c.rows_of-rows.ensures)

pub returns-clause-fault : goal.returns-clause-fault
unfolding file_notes
returns-clause-fault c =
    let small : nat_lt 1048576 (length c.args.file.now) ≡ false = search rules in
    simp small (c.notes_of.ensures.fault c.args.file.now c.rows_of-rows.ensures)
