use Rattle.reg_wire.proofs.WrittenLines.{written_is, written_reads}
use Rattle.reg_wire.proofs.script.laws.lines_are_read.Goals as goal

pub returns : goal.returns
returns c = record { reads = written_reads; only = written_is }
