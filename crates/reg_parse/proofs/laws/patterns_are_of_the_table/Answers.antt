use Rattle.std.proofs.Common.{refl}
use Rattle.reg_parse.proofs.laws.patterns_are_of_the_table.Goals as goal

pub returns : goal.returns
returns c = refl
