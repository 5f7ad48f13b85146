use Rattle.std.proofs.Common.{arith}
use Rattle.reg_history.proofs.ActTexts.{text_of_none, text_to, text_whole}
use Rattle.reg_history.proofs.acts.ActsText.of.Goals as goal

pub loop-act-init : goal.loop-act-init
loop-act-init c = text_of_none _ _ c.in_ok-whole.ensures.text c.in_ok-whole.ensures.digests

pub loop-act-preserved : goal.loop-act-preserved
loop-act-preserved c =
    text_to c.args.acts.now c.loop-act.act-index c.act-item.result _ _ _ _
    (omega (arith, c.loop-act-test.true)) c.act-item.is c.loop-act.invariant c.in_ok-add.ensures.text
    c.in_ok-add.ensures.digests

pub returns : goal.returns
returns c = text_whole c.args.acts.now c.loop-act.act-index _ _ (omega (arith, c.loop-act-test.false)) c.loop-act.invariant
