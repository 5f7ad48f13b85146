use Rattle.std.proofs.Common.{take}
use Rattle.reg_history.specs.Acts.{IsTextOfActs}
use Rattle.reg_history.proofs.acts.ActsText.of.Given as goal

abbrev pub invariant-loop-act : goal.invariant-loop-act
invariant-loop-act l =
    IsTextOfActs (take l.act-index l.acts) l.whole.text.items l.whole.chain.digests.items
