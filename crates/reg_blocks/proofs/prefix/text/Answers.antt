use Rattle.std.proofs.Common.{rules, ◌≡◌, ◌^◌, ◌<◌, string_bytes, Some}
use Rattle.std.proofs.lemmas.Result.{IfOk-weaker}
use Rattle.reg_blocks.specs.Digits.{read_prefix, prefix_text}
use Rattle.reg_blocks.proofs.TextReadsBack.{read_prefix-prefix_text}
use Rattle.reg_blocks.proofs.prefix.text.Goals as goal

pub returns-clause-back : goal.returns-clause-back
returns-clause-back c =
    let prefix = c.args.prefix in
    IfOk-weaker c.hex_text.result
    (λ text. string_bytes text ≡ prefix_text prefix)
    (λ text. prefix < 2 ^ 24 → read_prefix (string_bytes text) ≡ Some prefix)
    (λ text e fits. rw e (read_prefix-prefix_text prefix fits)) (search rules)
