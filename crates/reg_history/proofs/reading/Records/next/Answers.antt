use Rattle.std.proofs.Common.{◌≡◌, ℕ, List, arith}
use Rattle.std.specs.Prelude.{Option, Some}
use Rattle.csv.specs.Records.{fields_of}
use Rattle.reg_changes.specs.declared.change.HistoryRecord.{HistoryRecord}
use Rattle.reg_history.specs.Chain.{record_fields}
use Rattle.reg_history.specs.Reading.{BeginsWithRow, IsAt}
use Rattle.reg_history.specs.Texts.{texts_of}
use Rattle.reg_history.specs.Written.{IsText}
use Rattle.reg_history.proofs.Readings.{if_ok, reads_row}
use Rattle.reg_history.proofs.reading.Records.next.Goals.{in-Ok-true+in-Some, in-Ok-true+in-None, in-Ok-false, in-Err}
use Rattle.reg_history.proofs.reading.Records.next.Goals as goal

pub returns-clause-reads : goal.returns-clause-reads
returns-clause-reads c =
    let old = c.args.self.now in
    let new = c.read_byte_record.new.self in
    let given = fields_of c.read_byte_record.new.row in
    elim c.match-read_byte_record.branch [
      | in-Ok-true+in-Some w ↦
          let P : Option HistoryRecord → Type 0 = λ o. (number : List ℕ) (r : HistoryRecord)
          → texts_of w.in-Some.texts ≡ record_fields number r → o ≡ Some r in
          let Q : Option HistoryRecord → Type 0 = λ o. (text : List ℕ) (r : HistoryRecord) (rest : List ℕ)
          → IsAt old text → BeginsWithRow text r rest → IsText r → o ≡ Some r in
          rw w.result-is
          (if_ok P Q w.record.result
          (λ o made text r rest here row is.
          let reads = reads_row old new _ given r text rest here row
          (w.in-Ok-true.ensures.reads here.trim here.ready) in
          made row.number r
          (rw w.in-Some.is at (w.texts_of.ensures row.number row.digest r reads.fields_are row.utf8 is)))
          w.record.ensures)
      | in-Ok-true+in-None w ↦
          rw w.result-is
          (λ text r rest here row is.
          let reads = reads_row old new _ given r text rest here row
          (w.in-Ok-true.ensures.reads here.trim here.ready) in
          absurd
          (rw w.in-None.is at (w.texts_of.ensures row.number row.digest r reads.fields_are row.utf8 is)))
      | in-Ok-false w ↦
          rw w.result-is
          (λ text r rest here row is.
          let reads = reads_row old new _ given r text rest here row
          (w.in-Ok-false.ensures.reads here.trim here.ready) in
          first_of (cc reads.is, grind (arith, reads.is)))
      | in-Err w ↦ rw w.result-is tt
    ]
