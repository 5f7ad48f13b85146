use Rattle.std.proofs.Common.{◌<◌, length, get_or, arith}
use Rattle.std.proofs.lemmas.List.{get_or_default}
use Rattle.std.proofs.lemmas.List.Edits.{map_over_more}
use Rattle.reg_wire.specs.Script.Answers.{tab_of}
use Rattle.reg_wire.proofs.script.office_responder.put_tabs.Goals as goal

pub loop-byte-preserved : goal.loop-byte-preserved
loop-byte-preserved c =
    let at = c.loop-byte.byte-index in
    let byte = get_or c.loop-byte.body at 0 in
    let inside : at < length c.loop-byte.body = omega (arith, c.loop-byte.auto.body) in
    rw c.tab_of.ensures
    (map_over_more tab_of c.args.body.now c.loop-byte.body at byte c.loop-byte-test.true
    c.loop-byte.invariant (get_or_default c.loop-byte.body at 0 byte inside))
