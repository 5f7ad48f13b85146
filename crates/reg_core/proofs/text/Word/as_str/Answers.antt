use Rattle.std.proofs.Common.{arith}
use Rattle.std.proofs.lemmas.Grind.{common_steps}
use Rattle.std.proofs.lemmas.Str.{IsUtf8-from_ascii}
use Rattle.reg_core.proofs.text.Word.as_str.Goals as goal

pub unwrap-requires : goal.unwrap-requires
unwrap-requires g c =
    grind (arith, common_steps, IsUtf8-from_ascii c.args.self.now c.as_bytes.ensures.ascii)
