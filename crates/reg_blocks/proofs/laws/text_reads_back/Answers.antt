use Rattle.reg_blocks.proofs.TextReadsBack.{read_block-block_text}
use Rattle.reg_blocks.proofs.laws.text_reads_back.Goals as goal

pub returns : goal.returns
returns c = read_block-block_text
