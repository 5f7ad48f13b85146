use Rattle.std.proofs.Common.{◌≡◌, reverse, None, sym, ap, ◌∙◌}
use Rattle.std.specs.Prelude.{if◌then◌else◌}
use Rattle.reg_core.specs.Request.{is_pending}
use Rattle.reg_core.specs.Times.{decides, last_moment, submits}
use Rattle.reg_core.specs.World.{RequestName}
use Rattle.reg_registers.proofs.Selected.{selects_made}
use Rattle.reg_registers.proofs.TimesOfActs.{decides_of, last_about, submits_of, waits_not}
use Rattle.reg_registers.proofs.times.times_of_one.Goals as goal
use Rattle.reg_registers.proofs.times.times_of_one.Goals.{in-Pending, in_default}

pub returns : goal.returns
returns g c =
    let request = c.args.request.now in
    let name : RequestName = (request.account, request.reference) in
    selects_made c.in_ok-acts.ensures (λ w is.
    let listed = c.as_slice-acts.ensures ∙ is in
    let submitted : c.last_submission.result ≡ last_moment (submits name) w.journal =
    c.last_submission.ensures
    ∙ ap (λ acts. last_moment (submits name) (reverse acts)) listed
    ∙ last_about name (submits name) (submits_of name) w.journal in
    let decided : c.match-request.decided
    ≡ (if is_pending request.state then None else last_moment (decides name) w.journal) =
    elim c.match-request.branch [
      | in-Pending m ↦
          m.decided-is
          ∙ sym (ap (λ state. if is_pending state then None else last_moment (decides name) w.journal)
          m.in-Pending.is)
      | in_default m ↦
          m.decided-is ∙ m.last_decision-decided.ensures
          ∙ ap (λ acts. last_moment (decides name) (reverse acts)) listed
          ∙ last_about name (decides name) (decides_of name) w.journal
          ∙ sym (ap (λ b. if b then None else last_moment (decides name) w.journal)
          (waits_not request.state m.in_default.not-Pending))
    ] in
    λ i. record {
      account = request.account;
      reference = request.reference;
      submitted = submitted i;
      decided = decided i;
    })
