use Rattle.std.specs.String.{string_bytes}
use Rattle.reg_print.proofs.PrintedTokens.{printed_made}
use Rattle.reg_print.proofs.bodies.page.put_day.Goals as goal

pub returns : goal.returns
returns c =
    printed_made string_bytes c.day_text.result c.day_text.ensures.text c.put_made.ensures.made c.put_made.ensures.wanting
