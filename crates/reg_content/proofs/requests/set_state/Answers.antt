use Rattle.reg_core.specs.World.{RequestName}
use Rattle.reg_statements.specs.Content.{parts_of}
use Rattle.reg_rows.proofs.Joining.{steps_in}
use Rattle.reg_rows.proofs.MinutesWritten.{state_set}
use Rattle.reg_rows.proofs.Statements.{changes_state}
use Rattle.reg_content.proofs.requests.set_state.Goals as goal

pub returns-clause-steps : goal.returns-clause-steps
returns-clause-steps g c =
    let name : RequestName = (c.args.account.now, c.args.reference.now) in
    let state = c.args.state.now in
    steps_in (c.change.ensures.steps _ _ _
    (rw c.named_state.ensures (changes_state name state c.formed.ensures)))
    (λ db was fits. state_set (parts_of db) was.kept.tied name state fits)
