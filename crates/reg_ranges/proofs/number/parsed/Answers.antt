use Rattle.std.proofs.Common.{◌≡◌, ◌∙◌, arith}
use Rattle.std.proofs.lemmas.Grind.{common_steps}
use Rattle.std.proofs.lemmas.Str.{IsUtf8-from_ascii}
use Rattle.reg_ranges.proofs.Numerals.{parts, ascii_digits, parse_is}
use Rattle.reg_ranges.proofs.number.parsed.Goals as goal

pub unwrap-requires : goal.unwrap-requires
unwrap-requires c =
    let d = parts c.args.digits.now c.requires in
    grind (
      arith,
      common_steps,
      IsUtf8-from_ascii c.args.digits.now (ascii_digits c.args.digits.now d.digits),
    )

pub returns : goal.returns
returns c =
    let same : c.unwrap.result.now ≡ c.args.digits.now =
    (rw c.unwrap.ensures at c.from_utf8.ensures.cases).0 in
    c.ok.ensures.value ∙ parse_is c.args.digits.now c.parse.result c.requires
    (rw same at c.parse.ensures.value.0)
