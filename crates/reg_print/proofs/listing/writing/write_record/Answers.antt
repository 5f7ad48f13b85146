use Rattle.std.proofs.Common.{map}
use Rattle.reg_print.proofs.WrittenRecords.{adds}
use Rattle.reg_print.proofs.listing.writing.write_record.Goals.{in-Ok, in-Err}
use Rattle.reg_print.proofs.listing.writing.write_record.Goals as goal

pub returns : goal.returns
returns g c =
    let ensured = c.write_fields.ensures in
    elim c.match-write_fields.branch [
      | in-Ok w ↦
          rw w.result-is
          (adds g.W.Write.contents c.args.writer.now c.write_fields.new.self
          (map (λ f. f.now) c.args.fields.now) (rw w.in-Ok.is at ensured.bytes)
          (rw w.in-Ok.is at ensured.ended) (rw w.in-Ok.is at ensured.clean)
          (rw w.in-Ok.is at ensured.setup))
      | in-Err w ↦ rw w.result-is tt
    ]
