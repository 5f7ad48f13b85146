use Rattle.reg_ranges.proofs.Numerals.{reads_decimals}
use Rattle.reg_ranges.proofs.laws.numbers_read_back.Goals as goal

pub returns : goal.returns
returns c = reads_decimals
