use Rattle.std.proofs.Common.{rules, ◌≡◌, string_bytes, Some, IsTrue}
use Rattle.std.proofs.lemmas.Result.{IfOk-weaker}
use Rattle.reg_blocks.specs.Block.{is_block}
use Rattle.reg_blocks.specs.Digits.{read_block, block_text}
use Rattle.reg_blocks.proofs.TextReadsBack.{read_block-block_text}
use Rattle.reg_blocks.proofs.block.Block.text.Goals as goal

pub returns-clause-back : goal.returns-clause-back
returns-clause-back c =
    let self = c.args.self.now in
    let block : IsTrue (is_block self) = search rules in
    IfOk-weaker c.hex_text.result
    (λ text. string_bytes text ≡ block_text self)
    (λ text. read_block (string_bytes text) ≡ Some self)
    (λ text e. rw e (read_block-block_text self block)) (search rules)
