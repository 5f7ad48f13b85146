use Rattle.std.proofs.Common.{◌-◌, get_or, take}
use Rattle.std.proofs.lemmas.List.{take_more}
use Rattle.reg_head.specs.Fields.{number_from}
use Rattle.reg_head.proofs.OneDigit.{number_push, cap_step}
use Rattle.reg_head.proofs.fields.capped.Goals as goal

pub loop-b-preserved : goal.loop-b-preserved
loop-b-preserved c =
    let xs = c.args.value.now in
    let i = c.loop-b.b-index in
    let m = take_more xs i 0 c.loop-b-test.true in
    let p = number_push 0 (take i xs) (get_or xs i 0) in
    let e = cap_step (number_from 0 (take i xs)) (get_or xs i 0 - 48) in
    cc
