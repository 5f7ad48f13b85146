use Rattle.std.specs.String.{string_bytes}
use Rattle.reg_print.proofs.PrintedTokens.{printed_made}
use Rattle.reg_print.proofs.bodies.holding.put_block.Goals as goal

pub returns : goal.returns
returns c =
    printed_made string_bytes c.text.result c.text.ensures.digits c.put_made.ensures.made
    c.put_made.ensures.wanting
