use Rattle.std.proofs.Common.{◌∙◌}
use Rattle.reg_import.specs.Lines.{filing_view}
use Rattle.reg_import.proofs.LineTexts.{review_pushed}
use Rattle.reg_import.proofs.lines.push_review.Goals as goal

pub returns : goal.returns
returns c =
    review_pushed c.args.import.now (filing_view c.args.filing.now) c.as_str.result.now
    c.as_str-2.result.now c.args.out.now.items c.push_assignment.new.out.items
    c.push_grant.new.out.items c.push_advice.new.out.items
    (c.as_str.ensures.value ∙ c.in_ok-token.ensures)
    (c.as_str-2.ensures.value ∙ c.in_ok-token.ensures)
    c.in_ok-push_assignment.ensures c.in_ok-push_grant.ensures c.in_ok-push_advice.ensures
