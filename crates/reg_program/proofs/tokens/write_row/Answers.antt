use Rattle.std.proofs.Common.{◌≡◌, ◌∷◌, [], ◌∙◌, take}
use Rattle.std.specs.String.{string_bytes}
use Rattle.reg_core.specs.Capability.{kind_word}
use Rattle.reg_program.proofs.Listed.{adds_record}
use Rattle.reg_program.proofs.tokens.write_row.Goals as goal

pub returns : goal.returns
returns g c =
    let row = c.args.row.now in
    let account : c.as_bytes-account.result.now ≡ row.cap.account =
    c.as_bytes-account.ensures.value ∙ c.as_str.ensures.text in
    let kind : c.as_bytes-kind.result.now ≡ kind_word row.cap.kind =
    c.as_bytes-kind.ensures.value ∙ c.word.ensures in
    let end : c.as_bytes.result.now ≡ string_bytes c.in_ok-end.end = c.as_bytes.ensures.value in
    let digits : c.shown_digits.result.now ≡ take 12 row.digest = c.shown_digits.ensures in
    adds_record g.W.Write.contents c.args.writer.now c.write.new.writer row c.write.result
    (c.as_bytes-account.result.now ∷ c.as_bytes-kind.result.now ∷ c.as_bytes.result.now
    ∷ c.shown_digits.result.now ∷ [])
    (string_bytes c.in_ok-end.end, c.in_ok-end.ensures, cc) c.write.ensures
