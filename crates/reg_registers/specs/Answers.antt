-- What a caller who is admitted is answered over the content.
use Rattle.std.specs.Prelude.{ℕ, List, map, Option, Some, None}
use Rattle.std.specs.FinMap.{contains_key, get}
use Rattle.reg_maps.specs.Maps.{only_if}
use Rattle.reg_core.specs.Allowance.{◌>>=◌, or_refusal}
use Rattle.reg_core.specs.Answer.{Answer, by_rule, own_answer, expert_answer, unchanged}
use Rattle.reg_core.specs.Request.{case_of, request_row, request_rows}
use Rattle.reg_core.specs.Rules.{grant_rule}
use Rattle.reg_core.specs.Step.{clerk_answer}
use Rattle.reg_core.specs.Times.{times_of, times_row}
use Rattle.reg_core.specs.View.{Personal, published, personal, requests_of}
use Rattle.reg_core.specs.World.{World, RequestName, pending}
use Rattle.reg_core.specs.declared.ask.Ask.{Ask}
use Rattle.reg_core.specs.declared.capability.Cap.{Cap}
use Rattle.reg_core.specs.declared.command.ApplicantCommand.{ApplicantCommand}
use Rattle.reg_core.specs.declared.command.ApplicantCommand.TheVariants.{Own, OwnOne, Submit, Withdraw, Holdings, SetListing, SetAgent, Agents, Principals, PrincipalRows}
use Rattle.reg_core.specs.declared.command.ClerkCommand.{ClerkCommand}
use Rattle.reg_core.specs.declared.command.ExpertCommand.{ExpertCommand}
use Rattle.reg_core.specs.declared.command.TimesCommand.{TimesCommand}
use Rattle.reg_core.specs.declared.command.TimesCommand.TheVariants as times
use Rattle.reg_core.specs.declared.told.Told.{Told}
use Rattle.reg_core.specs.declared.told.Told.TheVariants.{Granted, Made, Row, Rows, Times}
use Rattle.reg_core.specs.declared.refusal.Refusal.TheVariants as no
use Rattle.reg_core.specs.declared.request.Request.{Request}
use Rattle.reg_core.specs.declared.request.RequestTimes.{RequestTimes}
use Rattle.reg_registers.specs.Caller.{token_digest}
use Rattle.reg_registers.specs.declared.caller.Caller.{Caller}

-- ---- An applicant

-- under its own names an account finds its requests and its agents among all
abbrev pub by_name : List ℕ → World → Personal
by_name account w = record (personal account w) { requests = w.requests; agents = w.agents }

-- the requests of a principal, where the account is its agent
abbrev pub rows_of_principal : List ℕ → List ℕ → World → Option (List Request)
rows_of_principal account principal w =
    only_if (contains_key w.agents (principal, account)) (request_rows (requests_of principal w))

abbrev pub answer_to_account : List ℕ → ApplicantCommand → World → Answer
answer_to_account account Own w = own_answer (published w) account (personal account w) Own
answer_to_account account (OwnOne reference) w =
    own_answer (published w) account (by_name account w) (OwnOne reference)
answer_to_account account (Submit reference ask) w =
    own_answer (published w) account (by_name account w) (Submit reference ask)
answer_to_account account (Withdraw reference) w =
    own_answer (published w) account (by_name account w) (Withdraw reference)
answer_to_account account Holdings w =
    own_answer (published w) account (personal account w) Holdings
answer_to_account account (SetListing block private) w =
    own_answer (published w) account (personal account w) (SetListing block private)
answer_to_account account (SetAgent agent reads) w =
    own_answer (published w) account (by_name account w) (SetAgent agent reads)
answer_to_account account Agents w =
    own_answer (published w) account (personal account w) Agents
answer_to_account account Principals w =
    own_answer (published w) account (personal account w) Principals
answer_to_account account (PrincipalRows principal) w = do
  rows ← or_refusal no.Principal (rows_of_principal account principal w)
  unchanged (Rows rows)

-- when the request of a row came, and when it was decided
abbrev pub row_of_times : World → Request → RequestTimes
row_of_times w row =
    let name : RequestName = (row.account, row.reference) in
    times_row name (times_of w.journal name (case_of row))

-- the times of its own requests; or of those of a principal, where the account is its agent
abbrev pub answer_about_times : List ℕ → TimesCommand → World → Answer
answer_about_times account times.Own w =
    unchanged (Times (map (row_of_times w) (request_rows (requests_of account w))))
answer_about_times account (times.Principal principal) w = do
  rows ← or_refusal no.Principal (rows_of_principal account principal w)
  unchanged (Times (map (row_of_times w) rows))

-- what is told of a request that is made, or that is there already
abbrev pub told_made : RequestName → Ask → Option Request → Told
told_made name ask None = Made (request_row name (pending ask))
told_made name ask (Some row) = Row row

-- ---- An expert

abbrev pub answer_to_expert : List ℕ → ExpertCommand → World → Answer
answer_to_expert expert command w = expert_answer expert (personal expert w) command

-- ---- A clerk

-- the token in use is the clerk's own
abbrev pub answer_to_clerk : Caller → ClerkCommand → World → Answer
answer_to_clerk clerk command w =
    clerk_answer token_digest w clerk.digest clerk.moment clerk.day command

-- a token is given a capability, by whomever
abbrev pub answer_to_grant : List ℕ → Cap → World → Answer
answer_to_grant token cap w =
    let digest = token_digest token in
    by_rule (grant_rule (get w.caps digest) digest cap) (λ decision. Granted cap)
