use Rattle.std.proofs.Common.{take, string_bytes}
use Rattle.std.specs.Prelude.{All}
use Rattle.reg_changes.specs.Said.{said_by}
use Rattle.reg_verify.specs.Strays.{IsKnown}
use Rattle.reg_verify.proofs.strays.first_stray.Given as goal

abbrev pub invariant-loop-file : goal.invariant-loop-file
invariant-loop-file l =
    All (λ file. IsKnown (said_by l.said) (string_bytes file)) (take l.file-index l.files)
