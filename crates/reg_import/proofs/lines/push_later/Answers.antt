use Rattle.reg_import.specs.Lines.{hold_lines, renewal_lines}
use Rattle.reg_import.proofs.LineTexts.{both_pushed, none_pushed}
use Rattle.reg_import.proofs.lines.push_later.Goals as goal

pub returns-in-ForGood : goal.returns-in-ForGood
returns-in-ForGood c = rw c.in-ForGood.is (none_pushed c.args.out.now.items)

pub returns-in_ok-push_renewal_if-in-Early : goal.returns-in_ok-push_renewal_if-in-Early
returns-in_ok-push_renewal_if-in-Early c =
    let standing = c.in-Early.standing in
    rw c.in-Early.is
    (both_pushed c.args.out.now.items c.push_hold_if.new.out.items c.push_renewal_if.new.out.items
    (hold_lines c.args.import.now c.args.entry.now standing.held)
    (renewal_lines c.args.import.now c.args.entry.now standing standing.renewal)
    c.in_ok-push_hold_if-in-Early.ensures c.in_ok-push_renewal_if-in-Early.ensures)
