use Rattle.std.proofs.Common.{◌≡◌, false, int_cmp, ap, sym, subst, ◌∙◌, rules}
use Rattle.std.specs.declared.cmp.Ordering.TheVariants.{Less}
use Rattle.reg_opening.specs.Numbered.{last_of}
use Rattle.reg_opening.proofs.RowidLemmas.{first_rises, next_rises, parted, rises_to}
use Rattle.reg_statements.proofs.ReadLemmas.{same_values}
use Rattle.reg_opening.proofs.numbered.Rise.then.Goals.{in-Some-Some, in-None-Some, in_default-None, in_default-None-2}
use Rattle.reg_opening.proofs.numbered.Rise.then.Goals as goal

pub returns-then-self : goal.returns-then-self
returns-then-self c rowids before = (
  λ rises.
      let was = before.0 (search rules) in
      elim c.match-self.branch [
        | in-Some-Some w ↦
            let some = w.in-Some-Some in
            let less : int_cmp some.last some.rowid ≡ Less = search rules in
            rw (sym some.is-1) at (next_rises rowids was.0 some.last some.rowid was.1 was.2 (sym some.is-0 ∙ was.3) less)
        | in-None-Some w ↦
            let some = w.in-None-Some in
            rw (sym some.is-1) at (first_rises rowids was.0 some.field-0-1 was.1 (sym some.is-0 ∙ was.3))
        | in_default-None w ↦ absurd (search rules)
        | in_default-None-2 w ↦ absurd (search rules)
      ],
  λ rising.
      let parts = parted rowids c.args.rowid rising in
      let was = before.0 (search rules) in
      let ids : was.0 ≡ parts.0 = same_values was.0 parts.0 (sym was.1 ∙ parts.2) in
      elim c.match-self.branch [
        | in-Some-Some w ↦
            let some = w.in-Some-Some in
            let next : some.rowid ≡ parts.1 = search rules in
            let less : int_cmp some.last some.rowid ≡ Less =
            subst (λ n. int_cmp some.last n ≡ Less) (sym next)
            (parts.4 some.last (ap last_of (sym ids) ∙ sym was.3 ∙ some.is-0)) in
            search rules
        | in-None-Some w ↦ search rules
        | in_default-None w ↦ absurd (search rules)
        | in_default-None-2 w ↦ absurd (search rules)
      ],
)

pub returns-else-self : goal.returns-else-self
returns-else-self c rowids before = (
  λ holds. let none : c.args.self.holds ≡ false = search rules in absurd (cc),
  λ rising. before.1 (rises_to rowids c.args.rowid rising),
)
