use Rattle.std.proofs.Common.{◌≡◌, ◌-◌, not, ap, ◌∙◌, filter, length, map, reverse, rules, arith}
use Rattle.std.proofs.lemmas.Fn.{filter_same}
use Rattle.reg_site.specs.Changes.{Changed, shown}
use Rattle.reg_site.specs.Recent.{is_range}
use Rattle.reg_site.specs.declared.changes.ChangeRow.{ChangeRow}
use Rattle.reg_site.proofs.Mapped.{map-filter_by, map-reverse}
use Rattle.reg_site.proofs.Numbered.{recent_numbered}
use Rattle.reg_site.proofs.recent.last_changes.Goals as goal

pub returns : goal.returns
returns c = λ records is.
    let o = c.args.overview.now in
    let before = c.saturating_sub-before.result in
    let len : c.len.result ≡ length o.recent.items = omega (arith, c.len.ensures, o.recent.ok) in
    let kept =
    filter_same _ (λ (change : ChangeRow). not (is_range (shown change))) _ (λ x b f' k. search rules) _ _
    c.retain.ensures.filtered in
    ap (map shown) kept
    ∙ map-filter_by shown (λ (x : Changed). not (is_range x)) c.reverse.new.self.items
    ∙ ap (filter (λ (x : Changed). not (is_range x)))
    (ap (map shown) c.reverse.ensures.items
    ∙ map-reverse shown c.in_ok-changes.changes.items
    ∙ ap reverse c.in_ok-changes.ensures
    ∙ recent_numbered o records before is
    (c.saturating_sub-before.ensures ∙ ap (λ n. o.count - n) len))
