-- What a command is after an argument was added to it.
use Rattle.std.proofs.Common.{◌≡◌, ◌∙◌, ◌||◌, Result, Ok, Err, IfOk, IsOkAnd, ap, ap₂, false}
use Rattle.std.proofs.lemmas.Result.{IfOk-weaker}
use Rattle.clap.specs.Words.{App, Rule, app_of, rule_of, with_rule, with_subcommand}
use Rattle.clap.specs.Built.{AddsArg, AddsSubcommand}
use Rattle.clap.specs.declared.builder.arg.Arg.{Arg}
use Rattle.clap.specs.declared.builder.command.Command.{Command}
use Rattle.clap.specs.declared.builder.command.Command.TheViews.{out-Command}

pub added_shape : {old new : Command} {a : Arg} {app : App} {rule : Rule} → AddsArg old a new → a.global ≡ false → app_of old ≡ app → rule_of a ≡ rule
    → app_of new ≡ with_rule app rule
added_shape adds local is ruled = adds.shape local ∙ ap₂ with_rule is ruled

pub added_local : {old new : Command} {a : Arg} → AddsArg old a new → a.global ≡ false → (out-Command old).has_globals ≡ false
    → (out-Command new).has_globals ≡ false
added_local adds local is = adds.globals ∙ ap₂ ◌||◌ is local

-- and where it is the last one
pub last_shape : {E : Type 0} (r : Result Command E) (old : Command) (a : Arg) {app : App} {rule : Rule} → IfOk r (λ new. AddsArg old a new)
    → a.global ≡ false → app_of old ≡ app → rule_of a ≡ rule → IfOk r (λ new. app_of new ≡ with_rule app rule)
last_shape r old a adds local is ruled = IfOk-weaker r _ _ (λ new h. added_shape h local is ruled) adds

pub last_local : {E : Type 0} (r : Result Command E) (old : Command) (a : Arg) → IfOk r (λ new. AddsArg old a new) → a.global ≡ false
    → (out-Command old).has_globals ≡ false → IfOk r (λ new. (out-Command new).has_globals ≡ false)
last_local r old a adds local is = IfOk-weaker r _ _ (λ new h. added_local h local is) adds

-- what the program is after a job was added to it
added_job : {E : Type 0} (p r : Result Command E) (new : Command) (app job : App) → IsOkAnd p (λ c. IsOkAnd r (λ j. AddsSubcommand c j new))
    → IfOk p (λ c. app_of c ≡ app) → IfOk r (λ j. app_of j ≡ job) → IfOk r (λ j. (out-Command j).has_globals ≡ false)
    → app_of new ≡ with_subcommand app job.top
added_job (Ok c) (Ok j) new app job adds at is local = adds.shape local ∙ ap₂ with_subcommand at (ap (λ (a : App). a.top) is)
added_job (Ok c) (Err e) new app job adds at is local = absurd adds
added_job (Err e) r new app job adds at is local = absurd adds

pub job_added : {E : Type 0} (p r sum : Result Command E) (app job : App)
    → IfOk sum (λ new. IsOkAnd p (λ c. IsOkAnd r (λ j. AddsSubcommand c j new))) → IfOk p (λ c. app_of c ≡ app)
    → IfOk r (λ j. app_of j ≡ job) → IfOk r (λ j. (out-Command j).has_globals ≡ false) → IfOk sum (λ new. app_of new ≡ with_subcommand app job.top)
job_added p r sum app job adds at is local = IfOk-weaker sum _ _ (λ new h. added_job p r new app job h at is local) adds
