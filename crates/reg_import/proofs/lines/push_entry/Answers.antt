use Rattle.std.proofs.Common.{◌≡◌, ◌++◌, subst}
use Rattle.reg_import.specs.Lines.{Filing, entry_filing, filing_lines, later_lines, lines_text}
use Rattle.reg_import.proofs.LineTexts.{both_pushed}
use Rattle.reg_import.proofs.lines.push_entry.Goals as goal

pub returns : goal.returns
returns c =
    let by = c.args.import.now in
    let entry = c.args.entry.now in
    let filed = subst (λ (f : Filing). c.push_filing.new.out.items
    ≡ c.args.out.now.items ++ lines_text (filing_lines by f))
    c.in_ok-filing.ensures c.in_ok-push_filing.ensures in
    both_pushed c.args.out.now.items c.push_filing.new.out.items c.push_later.new.out.items
    (filing_lines by (entry_filing by entry)) (later_lines by entry entry.standing)
    filed c.in_ok-push_later.ensures
