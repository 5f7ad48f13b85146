use Rattle.std.proofs.Common.{◌≡◌, ◌∷◌, [], false, true, string_bytes, subst, sym, rules}
use Rattle.csv.specs.Records.{fields_of}
use Rattle.reg_pages.specs.Notes.{note_count}
use Rattle.reg_pages.specs.Reading.{is_header}
use Rattle.reg_pages.proofs.NotesRows.{Reads, no_rows, other_header, reads_end, reads_start, row_after, row_at_fault, row_repeats}
use Rattle.reg_pages.proofs.reading.notes_of.Goals as goal

pub returns-in_default-clause-fault : goal.returns-in_default-clause-fault
returns-in_default-clause-fault c = λ text start.
    no_rows text (rw c.in_default.is at (c.in_ok-first.ensures.row text [] start))

pub returns-then-not-is_header-clause-fault : goal.returns-then-not-is_header-clause-fault
returns-then-not-is_header-clause-fault c = λ text start.
    let named : is_header (fields_of c.in-Some.first) ≡ false = search rules in
    other_header text c.next_row.new.rows (fields_of c.in-Some.first)
    (rw c.in-Some.is at (c.in_ok-first.ensures.row text [] start))
    named

pub loop-notes-init : goal.loop-notes-init
loop-notes-init c = λ text start.
    let named : is_header (fields_of c.in-Some.first) ≡ true = search rules in
    let begun : Reads text c.next_row.new.rows 0 [] =
    reads_start text c.next_row.new.rows (fields_of c.in-Some.first)
    (rw c.in-Some.is at (c.in_ok-first.ensures.row text [] start)) named in (
      [],
      subst (λ n. Reads text c.next_row.new.rows n []) (sym c.none-notes.ensures.counted) begun,
      c.none-notes.ensures.noted,
    )

pub returns-in_err-row-clause-fault : goal.returns-in_err-row-clause-fault
returns-in_err-row-clause-fault c = λ text start.
    let r = c.loop-notes.invariant text start in
    let read =
    rw c.in-Some-2.is at (c.in_ok-fields.ensures.row text (r.1.first ∷ r.1.done) r.1.read) in
    let is =
    row_at_fault text c.loop-notes.rows c.next_row-in-loop-notes.new.rows
    (note_count c.loop-notes.notes) r.0 (fields_of c.in-Some-2.fields) c.in_err-row.field-0.0 r.1 read
    (rw c.count.ensures at c.in_err-row.ensures.fault) in
    search (rules, is)

pub returns-in_err-add-clause-fault : goal.returns-in_err-add-clause-fault
returns-in_err-add-clause-fault c = λ text start.
    let r = c.loop-notes.invariant text start in
    let read =
    rw c.in-Some-2.is at (c.in_ok-fields.ensures.row text (r.1.first ∷ r.1.done) r.1.read) in
    let is =
    row_repeats text c.loop-notes.rows c.next_row-in-loop-notes.new.rows
    (note_count c.loop-notes.notes) r.0 (fields_of c.in-Some-2.fields)
    (string_bytes c.in_ok-row.row.thing, c.in_ok-row.row.note) c.in_err-add.field-0.0 r.1 read
    (rw c.count.ensures at c.in_ok-row.ensures.row) (c.in_err-add.ensures.added r.0 r.2) in
    search (rules, is)

pub loop-notes-preserved : goal.loop-notes-preserved
loop-notes-preserved c = λ text start.
    let r = c.loop-notes.invariant text start in
    let read =
    rw c.in-Some-2.is at (c.in_ok-fields.ensures.row text (r.1.first ∷ r.1.done) r.1.read) in
    let more = c.in_ok-add.ensures.added r.0 r.2 in (
      more.0,
      subst (λ n. Reads text c.next_row-in-loop-notes.new.rows n more.0) (sym c.in_ok-add.ensures.counted)
          (row_after text c.loop-notes.rows c.next_row-in-loop-notes.new.rows
          (note_count c.loop-notes.notes) r.0 more.0 (fields_of c.in-Some-2.fields)
          (string_bytes c.in_ok-row.row.thing, c.in_ok-row.row.note) r.1 read
          (rw c.count.ensures at c.in_ok-row.ensures.row) more.1),
      more.2,
    )

pub returns-clause-notes : goal.returns-clause-notes
returns-clause-notes c = λ text start.
    let r = c.loop-notes.invariant text start in (
      r.0,
      reads_end text c.loop-notes.rows (note_count c.loop-notes.notes) r.0 r.1
          (rw c.in_default-2.is at (c.in_ok-fields.ensures.row text (r.1.first ∷ r.1.done) r.1.read)),
      r.2,
    )
