use Rattle.std.proofs.Common.{take, length, sym, ap, ◌∙◌, is_some}
use Rattle.reg_ranges.specs.Texts.{read_text}
use Rattle.reg_core.specs.Names.{is_first_digits}
use Rattle.reg_core.proofs.FirstDigits.{first_length, first_read}
use Rattle.reg_core.proofs.text.first_digits.Goals as goal

pub slice_bounds-read-end : goal.slice_bounds-read-end
slice_bounds-read-end c =
    sym (ap (λ s. length (take 12 s)) c.as_bytes.ensures.bytes
    ∙ first_length c.args.digest.now c.as_bytes.ensures.form)

pub unwrap-requires : goal.unwrap-requires
unwrap-requires c =
    ap is_some (c.read.ensures
    ∙ ap (λ s. read_text is_first_digits (take 12 s)) c.as_bytes.ensures.bytes
    ∙ first_read c.args.digest.now c.as_bytes.ensures.form)

pub returns : goal.returns
returns c =
    let is = sym c.unwrap.ensures ∙ c.read.ensures
    ∙ ap (λ s. read_text is_first_digits (take 12 s)) c.as_bytes.ensures.bytes
    ∙ first_read c.args.digest.now c.as_bytes.ensures.form in
    cc
