use Rattle.reg_print.proofs.PrintedTokens.{◌▸◌}
use Rattle.reg_print.proofs.bodies.ask.put_early_texts.Goals as goal

pub returns : goal.returns
returns c = c.put_if.ensures ▸ c.put_if-2.ensures ▸ c.put_if-3.ensures
