-- The requests of a well kept world have the form of those that rows hold.
use Rattle.std.proofs.Common.{◌≡◌, ℕ, true, List, refl}
use Rattle.std.specs.FinMap.{FinMap}
use Rattle.reg_blocks.specs.Block.{block_cmp}
use Rattle.reg_core.specs.Request.{request_row}
use Rattle.reg_core.specs.WellKept.{stands_in}
use Rattle.reg_core.specs.World.{place_cmp}
use Rattle.reg_core.specs.declared.ask.Ask.{Ask}
use Rattle.reg_core.specs.declared.ask.Ask.TheVariants.{Block}
use Rattle.reg_core.specs.declared.entry.Registration.{Registration}
use Rattle.reg_core.specs.declared.holding.Holder.{Holder}
use Rattle.reg_core.specs.declared.request.Given.TheVariants as given
use Rattle.reg_core.specs.declared.request.State.{State}
use Rattle.reg_core.specs.declared.request.State.TheVariants.{Approved}
use Rattle.reg_records.specs.Requests.Forms.{gives_its_kind}
use Rattle.reg_records.specs.Requests.Laws.{KeptRequestsHaveRows}
use Rattle.reg_records.proofs.RequestLaws.Rows.{bare_form}

-- what is an entry or a block of the account's is of the kind that was asked for
pub stands_in-gives_its_kind : (entries : FinMap place_cmp Registration)
    (blocks : FinMap block_cmp Holder) (account : List ℕ) (ask : Ask) (state : State)
    → stands_in entries blocks account ask state ≡ true → gives_its_kind ask state ≡ true
stands_in-gives_its_kind entries blocks account (Block a) (Approved (given.Value v)) h =
    absurd (cc)
stands_in-gives_its_kind entries blocks account (Block a) (Approved (given.Block b)) h = refl
stands_in-gives_its_kind entries blocks account _ (Approved (given.Value v)) h = refl
stands_in-gives_its_kind entries blocks account _ (Approved (given.Block b)) h = absurd (cc)
stands_in-gives_its_kind entries blocks account _ _ h = refl

-- so each request of the world can be written
pub kept_is_request : KeptRequestsHaveRows
kept_is_request w kept name case h =
    bare_form (request_row name case) (kept.requests name case h)
    (stands_in-gives_its_kind w.entries w.blocks name.0 case.ask case.state
    (kept.given name case h))
