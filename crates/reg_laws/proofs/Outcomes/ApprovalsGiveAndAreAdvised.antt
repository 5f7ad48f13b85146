-- What goes with an approval that changes something.
use Rattle.std.proofs.Common.{◌≡◌, ℕ, true, List, sym, ap, subst, Option, Some, Ok}
use Rattle.reg_core.proofs.Common.{get, Allowance, given_in, utc_day, change_of, was_advised, answer_to}
use Rattle.reg_core.proofs.Common.{published, World}
use Rattle.reg_laws.proofs.Types.{Change, Case, Make}
use Rattle.reg_core.specs.Allowance.{◌>>=◌, ground_of, needs_advice}
use Rattle.reg_core.specs.Laws.{ApprovalsGiveWhatIsAllowed, ApprovalsAreAdvised}
use Rattle.reg_core.specs.declared.command.Command.TheVariants.{Clerk}
use Rattle.reg_core.specs.declared.command.ClerkCommand.TheVariants.{Approve}
use Rattle.reg_core.proofs.Allowances.{allowed_of_ask}
use Rattle.reg_core.proofs.Files.{advised_by}
use Rattle.reg_core.proofs.Outcomes.Accepted.{Row, accepted}
use Rattle.reg_core.proofs.Outcomes.Deciding.{Decides, Approves}
use Rattle.reg_core.proofs.Outcomes.Dues.{makes, outcome_of}

-- the request was there, and the rule decided that the change is made
approval : (digest_of : List ℕ → List ℕ) (w : World) (caller : Option (List ℕ)) (moment : ℕ)
    (account reference : List ℕ) (change : Change)
    → change_of (answer_to digest_of w caller moment (Clerk (Approve account reference)))
    ≡ Some change
    → Row (get w.requests (account, reference)) (λ case.
    Decides
    (Approves (ground_of (published w) case.ask) (was_advised w (account, reference))
    (account, reference) case.ask (utc_day moment) case.state)
    (Make change))
approval digest_of w caller moment account reference change made =
    let by = outcome_of
    (answer_to digest_of w caller moment (Clerk (Approve account reference))) change made in
    let is = (accepted digest_of w caller moment
    (Clerk (Approve account reference)) by.0 by.1).so.1 in
    record { row = is.row; is = is.is; so = makes _ _ by.0 change is.so by.2 }

pub approvals_give : (digest_of : List ℕ → List ℕ) → ApprovalsGiveWhatIsAllowed digest_of
approvals_give digest_of w caller moment account reference change made =
    let is = approval digest_of w caller moment account reference change made in
    let allowance = is.so.0.2 in
    record {
      case = is.row;
      is_there = is.is;
      pending = is.so.0.0;
      allowance = allowance;
      allows = is.so.0.3;
      given = ap (λ r. r >>= (λ (a : Allowance). Ok (given_in a.award))) is.so.0.3;
      of_ask = allowed_of_ask w account is.row.ask allowance is.so.0.3;
      is = sym is.so.1;
    }

pub approvals_advised : (digest_of : List ℕ → List ℕ) → ApprovalsAreAdvised digest_of
approvals_advised digest_of w caller moment account reference change case made is_there needed =
    let is = approval digest_of w caller moment account reference change made in
    let same : case ≡ is.row = cc in
    advised_by w (account, reference)
    (is.so.0.1 (subst
    (λ (f : Case). needs_advice (ground_of (published w) f.ask) f.ask ≡ true) same needed))
