use Rattle.std.proofs.Common.{sym, ◌∙◌}
use Rattle.reg_rows.proofs.Looking.{looks_so, looks_still}
use Rattle.reg_rows.proofs.Statements.{lists_holds}
use Rattle.reg_rows.proofs.holds.marks_if.Goals as goal

pub returns-then-not-any_expires : goal.returns-then-not-any_expires
returns-then-not-any_expires g c =
    looks_still c.requires (λ p some.
    let none = sym c.any_expires.ensures ∙ c.if-not-any_expires.true in
    absurd (cc))

pub returns : goal.returns
returns g c =
    looks_so c.list.ensures.rows (λ p rows is some.
    is _ (rw c.name_value.ensures (lists_holds c.args.registry.now)))
