-- What a submission is answered, over the applicant's own request and the published rows that
-- were looked up.
use Rattle.std.proofs.Common.{◌≡◌, ℕ, List, Result, refl, sym, ap, ◌∙◌}
use Rattle.std.specs.Prelude.{Option, Some, None, option_map}
use Rattle.std.specs.FinMap.{get}
use Rattle.reg_core.specs.Allowance.{allowed}
use Rattle.reg_core.specs.Answer.{by_rule, made_row}
use Rattle.reg_core.specs.Request.{case_of, request_row}
use Rattle.reg_core.specs.Rules.{submit_rule}
use Rattle.reg_core.specs.View.{published}
use Rattle.reg_core.specs.World.{World, RequestName}
use Rattle.reg_core.specs.declared.ask.Ask.{Ask}
use Rattle.reg_core.specs.declared.command.ApplicantCommand.TheVariants.{Submit}
use Rattle.reg_core.specs.declared.decide.Decision.{Decision}
use Rattle.reg_core.specs.declared.refusal.Refusal.{Refusal}
use Rattle.reg_core.specs.declared.request.Case.{Case}
use Rattle.reg_core.specs.declared.request.Given.{Given}
use Rattle.reg_core.specs.declared.request.Request.{Request}
use Rattle.reg_registers.specs.Answers.{answer_to_account, told_made}

case_of-row : (name : RequestName) (found : Option Case)
    → option_map case_of (option_map (request_row name) found) ≡ found
case_of-row name None = refl
case_of-row name (Some case) = refl

told_made-row : (name : RequestName) (ask : Ask) (found : Option Case)
    → told_made name ask (option_map (request_row name) found) ≡ made_row name ask found
told_made-row name ask None = refl
told_made-row name ask (Some case) = refl

-- a row that was looked up under a name, without that name
pub case_looked_up : (name : RequestName) (existing : Option Request) (found : Option Case)
    → existing ≡ option_map (request_row name) found → option_map case_of existing ≡ found
case_looked_up name existing found is = ap (option_map case_of) is ∙ case_of-row name found

-- what makes an ask allowed is of no account where the request is there already
pub allowance_of_new : (a b : Result Given Refusal) (name : RequestName) (ask : Ask)
    (existing : Option Request) → (existing ≡ None → a ≡ b)
    → submit_rule a name ask (option_map case_of existing)
    ≡ submit_rule b name ask (option_map case_of existing)
allowance_of_new a b name ask None same =
    ap (λ allowance. submit_rule allowance name ask None) (same refl)
allowance_of_new a b name ask (Some row) same = refl

-- the rule over the published registers, and over the request that is there
abbrev pub submission : World → RequestName → Ask → Option Request → Result Decision Refusal
submission w name ask existing =
    submit_rule (allowed (published w) name.0 ask) name ask (option_map case_of existing)

pub submission_answered : (account reference : List ℕ) (ask : Ask) (w : World)
    (existing : Option Request)
    → existing ≡ option_map (request_row (account, reference)) (get w.requests (account, reference))
    → answer_to_account account (Submit reference ask) w
    ≡ by_rule (submission w (account, reference) ask existing)
    (λ decision. told_made (account, reference) ask existing)
submission_answered account reference ask w existing is =
    let name : RequestName = (account, reference) in
    let found = get w.requests name in
    let allowed_there = allowed (published w) account ask in
    ap (λ o. by_rule (submit_rule allowed_there name ask o) (λ decision. made_row name ask found))
    (sym (case_looked_up name existing found is))
    ∙ ap (λ told. by_rule (submission w name ask existing) (λ decision. told))
    (sym (ap (told_made name ask) is ∙ told_made-row name ask found))
