use Rattle.std.proofs.Common.{◌≡◌, ◌++◌, map, take, drop}
use Rattle.reg_wire.specs.Script.Answers.{tab_of}
use Rattle.reg_wire.proofs.script.office_responder.put_tabs.Given as goal

abbrev pub invariant-loop-byte : goal.invariant-loop-byte
invariant-loop-byte l =
    l.body ≡ map tab_of (take l.byte-index l.initial.body) ++ drop l.byte-index l.initial.body
