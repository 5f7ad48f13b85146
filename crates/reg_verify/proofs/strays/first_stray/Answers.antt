use Rattle.std.proofs.Common.{string_bytes}
use Rattle.reg_changes.specs.Said.{said_by}
use Rattle.reg_verify.proofs.StrayFiles.{none_among}
use Rattle.reg_verify.proofs.strays.first_stray.Goals as goal

pub returns : goal.returns
returns c =
    none_among string_bytes (said_by c.args.said.now) c.args.files.now c.loop-file.file-index
    c.loop-file-test.false c.loop-file.invariant
