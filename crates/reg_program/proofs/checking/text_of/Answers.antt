use Rattle.std.proofs.Common.{FitsSigned, w64}
use Rattle.std.specs.String.{string_bytes}
use Rattle.std.proofs.lemmas.Int.{to_z-of_z}
use Rattle.std.proofs.lemmas.Result.{IfOk-weaker}
use Rattle.reg_program.proofs.Checked.{text_of_parts}
use Rattle.reg_program.proofs.checking.text_of.Goals as goal

pub returns : goal.returns
returns c =
    let fits : FitsSigned w64 c.args.version = c.ranges.version in
    IfOk-weaker c.format.result _ _
    (λ text is. text_of_parts c.args.version c.args.counts.now
    (string_bytes c.in_ok-published.published) (string_bytes c.in_ok-requests.requests)
    (string_bytes c.in_ok-held.held) (string_bytes text) c.in_ok-published.ensures
    c.in_ok-requests.ensures c.in_ok-held.ensures is) (simp to_z-of_z at c.format.ensures.ok)
