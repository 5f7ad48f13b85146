use Rattle.std.proofs.Common.{ap, option_map, sym, ◌∙◌}
use Rattle.std.specs.FinMap.{insert}
use Rattle.reg_core.specs.Minutes.{bare_ask}
use Rattle.reg_core.specs.World.{RequestName, pending}
use Rattle.reg_rows.proofs.Joining.{steps_as}
use Rattle.reg_rows.proofs.MinutesWritten.{can_name, minute_put}
use Rattle.reg_rows.proofs.RegistryRowsSteps.{steps_last}
use Rattle.reg_content.proofs.give.submit.Goals as goal

pub returns-in-Some-clause-steps : goal.returns-in-Some-clause-steps
returns-in-Some-clause-steps g c =
    let name : RequestName = (c.args.account.now, c.args.reference.now) in
    let ask = c.args.ask.now in
    let minute = c.in-Some.minute.now in
    let names = sym c.minute_of.ensures ∙ ap (option_map (λ m. m.now)) c.in-Some.is in
    steps_last (steps_as c.in_ok-added.ensures.steps (λ w none. (
      none,
      ap (λ ask. record w { requests = insert w.requests name (pending (bare_ask ask)) })
          c.in_ok-copy.ensures.equal,
    ))) c.add_minute.result c.add_minute.ensures.steps (λ w none. (
      can_name w name ask minute names,
      ap (λ m. record w { requests = m }) (minute_put w name ask minute names),
    ))
