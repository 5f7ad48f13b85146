use Rattle.reg_wire.proofs.Moments.{decimal_is_text, moment_parsed}
use Rattle.reg_wire.proofs.script.line.value_of.Goals as goal

pub text_of-requires : goal.text_of-requires
text_of-requires c = decimal_is_text c.args.digits.now c.requires

pub returns : goal.returns
returns c =
    rw c.ok.ensures.value
    (moment_parsed c.args.digits.now c.parse.result c.requires
    (rw c.text_of.ensures at c.parse.ensures.value.0))
