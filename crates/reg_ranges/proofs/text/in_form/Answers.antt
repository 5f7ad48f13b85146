use Rattle.std.proofs.Common.{arith}
use Rattle.std.proofs.lemmas.Grind.{common_steps}
use Rattle.std.proofs.lemmas.Str.{IsUtf8-from_ascii}
use Rattle.reg_ranges.specs.Texts.{ascii_text}
use Rattle.reg_ranges.proofs.text.in_form.Goals as goal

pub unwrap-requires : goal.unwrap-requires
unwrap-requires c =
    let ascii : _ = ascii_text c.args.bytes.now (rw (c.is_text.ensures) at c.if-not-is_text.false) in
    grind (arith, common_steps, IsUtf8-from_ascii c.args.bytes.now ascii)
