use Rattle.std.specs.String.{string_bytes}
use Rattle.reg_print.proofs.PrintedTokens.{printed_made, prints_object}
use Rattle.reg_print.proofs.bodies.pool.U32PrintPooled.print.Goals as goal

pub returns : goal.returns
returns c =
    let digits =
    printed_made string_bytes c.text.result c.text.ensures.digits c.put_made.ensures.made
    c.put_made.ensures.wanting in
    prints_object c.open_object.ensures digits c.close_object.ensures tt
