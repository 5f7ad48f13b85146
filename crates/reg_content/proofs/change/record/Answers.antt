use Rattle.std.proofs.Common.{◌≡◌, [], ap, length, sym, ◌∙◌}
use Rattle.std.proofs.lemmas.Bool.{eqb-true}
use Rattle.std.proofs.lemmas.List.{nil_from_length}
use Rattle.sqlite.specs.Held.{state}
use Rattle.reg_core.specs.World.{World}
use Rattle.reg_keeper.specs.Keeper.{applied_with}
use Rattle.reg_statements.specs.Content.{world_in}
use Rattle.reg_rows.proofs.Journaled.{applied_alone}
use Rattle.reg_content.proofs.change.record.Goals as goal

pub returns-then-is_empty-clause-alters : goal.returns-then-is_empty-clause-alters
returns-then-is_empty-clause-alters g c =
    let done = c.in_ok-apply.ensures in
    let change = c.args.change.now in
    let w : World = world_in (state g.S.Store c.args.conn.now) in
    let acts = c.args.acts.now in
    let none : acts ≡ [] =
    nil_from_length acts (eqb-true (length acts) 0 (sym c.if-is_empty.ensures)) in
    record {
      keeping = done.keeping;
      endures = done.endures;
      held = done.held;
      on = done.on;
      made = λ h. done.made h ∙ sym (applied_alone w change)
          ∙ ap (λ acts. applied_with acts w change) (sym none);
      kept = λ h. tt;
    }
