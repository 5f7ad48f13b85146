-- An accepted request, and an approval, that are given again after a run.
use Rattle.std.proofs.Common.{◌≡◌, ℕ, List, refl, sym, ap, subst, ◌∙◌, Option, Some, None}
use Rattle.reg_core.proofs.Common.{get, change_of, reply_of, unchanged, desk_row, IsOwnRow, IsRow}
use Rattle.reg_core.proofs.Common.{case_of, request_row, Event, answer_to, step, cap_at, World}
use Rattle.reg_core.proofs.Common.{RequestName, in_state, carried}
use Rattle.reg_laws.proofs.Types.{Ask, Cap, Command, Told, Case}
use Rattle.reg_laws.proofs.Types.{Request, Approved, Accepted}
use Rattle.reg_core.specs.Laws.{GivesDigests, IsApproved, IsDone, IsLater, StillAsks, StillStands, SubmissionsStand, ApprovalsStand}
use Rattle.reg_core.specs.declared.capability.Kind.TheVariants as kind
use Rattle.reg_core.specs.declared.command.Command.TheVariants.{Applicant, Clerk}
use Rattle.reg_core.specs.declared.command.ApplicantCommand.TheVariants.{Submit}
use Rattle.reg_core.specs.declared.command.ClerkCommand.TheVariants.{Approve}
use Rattle.reg_core.specs.declared.told.Told.TheVariants as tells
use Rattle.reg_laws.proofs.Outcomes.AnswersAreDone.{accepted_done}
use Rattle.reg_core.proofs.Keeping.RunsKeepWell.{step_keeps_well}
use Rattle.reg_laws.proofs.Repeats.RepeatsActOnce.{acts, clerk_acts, row_at, submit_again, approve_again}
use Rattle.reg_laws.proofs.GivenStays.{runs_stay}

-- what an accepted request's caller is told is the caller's own request with the ask
submitted : (digest_of : List ℕ → List ℕ) (w : World) (by : Option Cap) (first : ℕ)
    (reference : List ℕ) (ask : Ask) (told : Told)
    → IsDone digest_of w by first (Applicant (Submit reference ask)) told
    → (row : Request) × (row.ask ≡ ask) × IsOwnRow w by reference row
submitted digest_of w by first reference ask (tells.Made row) so = (row, so.0, so.1)
submitted digest_of w by first reference ask (tells.Row row) so = (row, so.0, so.1)
submitted digest_of w by first reference ask told so = absurd so

-- what an approval's caller is told is the request, approved
approved : (digest_of : List ℕ → List ℕ) (w : World) (by : Option Cap) (first : ℕ)
    (account reference : List ℕ) (told : Told)
    → IsDone digest_of w by first (Clerk (Approve account reference)) told
    → (row : Request) × (told ≡ tells.Desk row) × IsApproved row.state
    × IsRow w account reference row
approved digest_of w by first account reference (tells.Desk row) so = (row, refl, so.0, so.1)
approved digest_of w by first account reference told so = absurd so

-- a request that still is as it was asked is there
record IsThere (case : Case) (existing : Option Case) : Type 0 where
  row : Case
  is : existing ≡ Some row
  asks : row.ask ≡ case.ask
  stands : StillStands case.state row.state

still_there : (case : Case) (existing : Option Case) → StillAsks case existing
    → IsThere case existing
still_there case None h = absurd h
still_there case (Some row) h = record { row = row; is = refl; asks = h.0; stands = h.1 }

module _ (digest_of : List ℕ → List ℕ) (digests : GivesDigests digest_of) where
  -- what is there after the first command is so still
  later_request : (w v : World) (caller : Option (List ℕ)) (first second : ℕ) (command : Command)
      (events : List Event)
      → IsLater digest_of w caller first command events second v
      → (name : RequestName) (case : Case)
      → get (step digest_of w caller first command).world.requests name ≡ Some case
      → IsThere case (get v.requests name)
  later_request w v caller first second command events later name case is_there =
      let kept = step_keeps_well digest_of digests w later.kept
      (record { caller = caller; moment = first; command = command }) later.form in
      let stays = runs_stay digest_of digests
      (step digest_of w caller first command).world events kept later.forms in
      subst (λ u. IsThere case (get u.requests name)) (sym later.after)
      (still_there case _ (stays.requests name case is_there))

  pub submissions_stand : SubmissionsStand digest_of
  submissions_stand w v caller first second reference ask events later =
      let command = Applicant (Submit reference ask) in
      let by = accepted_done digest_of w caller first command later.accepted in
      let u = carried w caller first by.outcome.change in
      let after : (step digest_of w caller first command).world ≡ u =
      ap (λ a. carried w caller first (change_of a)) by.is in
      let told = submitted digest_of u (cap_at w caller) first reference ask
      by.outcome.told by.done in
      let name : RequestName = (told.2.0.account, reference) in
      let row : get (step digest_of w caller first command).world.requests name
      ≡ Some (case_of told.0) =
      ap (λ (u : World). get u.requests name) after ∙ row_at u name.0 reference told.0 told.2.2 in
      let now = later_request w v caller first second command events later name (case_of told.0)
      row in
      let may = acts w v caller first second kind.Applicant by.so.0 later.may in
      let its = subst (λ a. get v.requests (a, reference) ≡ Some now.row)
      (may.account told.2.0 told.2.1) now.is in
      let asks = now.asks ∙ told.1 in
      let again = submit_again digest_of v second later.is_open (cap_at w caller) first
      caller may reference ask now.row its asks in (
        request_row (may.cap.account, reference) now.row,
        asks,
        (may.cap, may.is_there, (refl, refl, its)),
        ap reply_of again,
        ap (λ a. carried v caller second (change_of a)) again,
      )

  pub approvals_stand : ApprovalsStand digest_of
  approvals_stand w v caller first second account reference events later =
      let name : RequestName = (account, reference) in
      let command = Clerk (Approve account reference) in
      let by = accepted_done digest_of w caller first command later.accepted in
      let u = carried w caller first by.outcome.change in
      let after : (step digest_of w caller first command).world ≡ u =
      ap (λ a. carried w caller first (change_of a)) by.is in
      let told = approved digest_of u (cap_at w caller) first account reference
      by.outcome.told by.done in
      let row : get (step digest_of w caller first command).world.requests name
      ≡ Some (case_of told.0) =
      ap (λ (u : World). get u.requests name) after ∙ row_at u account reference told.0 told.3 in
      let now = later_request w v caller first second command events later name (case_of told.0)
      row in
      let given = told.2.0 in
      let state = told.2.1 in
      let is = subst (λ s. StillStands s now.row.state) state now.stands in
      let may = clerk_acts w v caller first second by.so.0 later.may in
      let shown = desk_row name (in_state (Approved given) now.row) in
      let again = subst (λ c. answer_to digest_of v c second command ≡ unchanged shown)
      (sym by.so.0.is)
      (approve_again digest_of v second later.is_open (cap_at w caller) first
      by.so.0.digest may account reference now.row given now.is is) in
      let at = told.3.0 in
      let under = told.3.1 in
      let asks = now.asks in
      let same : shown ≡ tells.Desk told.0 =
      λ i. tells.Desk (record {
        account = sym at i;
        reference = sym under i;
        ask = asks i;
        state = sym state i;
      }) in (
        ap reply_of again ∙ ap Accepted (same ∙ sym told.1) ∙ sym (ap reply_of by.is),
        ap (λ a. carried v caller second (change_of a)) again,
      )
