use Rattle.reg_blocks.proofs.ReadingIsExact.{read_block-is_exact}
use Rattle.reg_blocks.proofs.laws.reading_is_exact.Goals as goal

pub returns : goal.returns
returns c = read_block-is_exact
