use Rattle.std.proofs.Common.{◌≡◌, ◌∙◌, ◌⊎◌, Err, IfOk, List, MatchResult, None, Ok, Option, Result, Some, ap, ap₂, codes, inl, inr, option_map, refl, subst, sym, unwrap_or}
use Rattle.std.specs.Box.{box_value}
use Rattle.std.proofs.lemmas.Result.{IfOk-weaker}
use Rattle.clap.specs.Words.{Row, Text, found_of, rows_of, subcommand_name_of, subcommand_rows_of}
use Rattle.clap.specs.declared.parser.matches.ArgMatches.{ArgMatches}
use Rattle.clap.specs.declared.parser.matches.ArgMatches.TheViews.{out-ArgMatches, out-SubCommand}
use Rattle.reg_jobs.specs.Asking.{HasJob, IsInRange, IsJobOf, IsMisnoted, IsMisplaced, IsUnclear, IsUnclearJob}
use Rattle.reg_jobs.specs.declared.jobs.Job.{Job}
use Rattle.reg_jobs.specs.declared.jobs.JobFault.{JobFault}
use Rattle.reg_jobs.specs.declared.jobs.JobFault.TheVariants.{Line, Memory}
use Rattle.reg_jobs.proofs.command_line.job_of.Goals as goal
use Rattle.reg_jobs.proofs.command_line.job_of.Goals.{In-Some}

-- what a job is where it is one of this name, and why there is none
abbrev IsGiven : Result Job JobFault → Text × List Row → Type 0
IsGiven r met = MatchResult r IsInRange (λ fault. fault ≡ Line → IsUnclearJob met.0 met.1)

-- the job is the one that was met
abbrev IsMet : ArgMatches → Job → Type 0
IsMet m job = (met : Text × List Row) × (subcommand_rows_of m ≡ Some met) × IsJobOf met.0 met.1 job

-- where one that has its values was met, it is given
abbrev MayGive : ArgMatches → Result Job JobFault → Type 0
MayGive m r = (met : Text × List Row) → subcommand_rows_of m ≡ Some met → HasJob met.0 met.1 → IsGiven r met

-- there is no fault but of memory
only_memory : (r : Result Job JobFault) (met : Text × List Row) → MatchResult r IsInRange (λ fault. fault ≡ Memory) → IsGiven r met
only_memory (Ok job) met h = h
only_memory (Err fault) met h = λ line. absurd (cc)

or_misplaced : (r : Result Job JobFault) (rows : List Row) → MatchResult r IsInRange (λ fault. fault ≡ Line → IsMisplaced rows) → IsGiven r (codes "tokens", rows)
or_misplaced (Ok job) rows h = h
or_misplaced (Err fault) rows h = λ line. inl (refl, h line)

or_unclear : (r : Result Job JobFault) (rows : List Row) → MatchResult r IsInRange (λ fault. fault ≡ Line → IsMisplaced rows ⊎ IsUnclear rows)
    → IsGiven r (codes "revoke", rows)
or_unclear (Ok job) rows h = h
or_unclear (Err fault) rows h = λ line. inr (inl (refl, h line))

or_misnoted : (r : Result Job JobFault) (rows : List Row) → MatchResult r IsInRange (λ fault. fault ≡ Line → IsMisnoted rows) → IsGiven r (codes "journal", rows)
or_misnoted (Ok job) rows h = h
or_misnoted (Err fault) rows h = λ line. inr (inr (refl, h line))

-- the job is one of the name and the rows that were met
given_at : (o : Option (Text × List Row)) (name literal : Text) (rows : List Row) (r : Result Job JobFault) → o ≡ Some (name, rows) → name ≡ literal
    → (HasJob literal rows → IsGiven r (literal, rows))
    → (met : Text × List Row) → o ≡ Some met → HasJob met.0 met.1 → IsGiven r met
given_at o name literal rows r here named does met there has =
    let same : (name, rows) ≡ met = ap (λ (x : Option (Text × List Row)). unwrap_or x met) (sym here ∙ there) in
    let at : (literal, rows) ≡ met = ap (λ (n : Text). (n, rows)) (sym named) ∙ same in
    subst (λ (m : Text × List Row). HasJob m.0 m.1 → IsGiven r m) at does has

said_at : (o : Option (Text × List Row)) (name literal : Text) (rows : List Row) (r : Result Job JobFault) → o ≡ Some (name, rows) → name ≡ literal
    → IfOk r (IsJobOf literal rows) → IfOk r (λ job. (met : Text × List Row) × (o ≡ Some met) × IsJobOf met.0 met.1 job)
said_at o name literal rows r here named said =
    IfOk-weaker r _ _ (λ job h. ((literal, rows), here ∙ ap (λ (n : Text). Some (n, rows)) named, h)) said

abbrev met_in : {X : Type 0} → (X → Text) → (X → List Row) → X → Text × List Row
met_in name_in rows_in b = (name_in b, rows_in b)

-- the name and the rows that were met, where there are both
both_met : {X : Type 0} (o : Option X) (name_in : X → Text) (rows_in : X → List Row) (name : Text) (rows : List Row) → Some name ≡ option_map name_in o
    → Some rows ≡ option_map (λ (p : Text × List Row). p.1) (option_map (met_in name_in rows_in) o) → option_map (met_in name_in rows_in) o ≡ Some (name, rows)
both_met None name_in rows_in name rows named has = absurd (cc)
both_met (Some b) name_in rows_in name rows named has =
    ap₂ (λ (o : Option Text) (p : Option (List Row)). Some (unwrap_or o (name_in b), unwrap_or p (rows_in b))) (sym named) (sym has)

met_at : (m : ArgMatches) (name : Text) (rows : List Row) → Some name ≡ subcommand_name_of m
    → Some rows ≡ option_map (λ (p : Text × List Row). p.1) (subcommand_rows_of m) → subcommand_rows_of m ≡ Some (name, rows)
met_at m = both_met (out-ArgMatches m).subcommand (λ b. (out-SubCommand (box_value b)).name.now)
    (λ b. rows_of (found_of (out-SubCommand (box_value b)).matches))

-- and so the job is the one that this function gives
job_at : (c : In-Some) (literal : Text) (r : Result Job JobFault) → c.in-Some.name.now ≡ literal
    → IfOk r (IsJobOf literal (rows_of (found_of c.in-Some.inner.now)))
    → (HasJob literal (rows_of (found_of c.in-Some.inner.now)) → IsGiven r (literal, rows_of (found_of c.in-Some.inner.now)))
    → IfOk r (IsMet c.args.matches.now) × MayGive c.args.matches.now r
job_at c literal r named said given =
    let rows = rows_of (found_of c.in-Some.inner.now) in
    let here = met_at c.args.matches.now c.in-Some.name.now rows c.in-Some.ensures.name c.in-Some.ensures.rows in
    (said_at _ _ literal rows r here named said, given_at _ _ literal rows r here named given)

-- the same of one that only lacks memory
job_but : (c : In-Some) (literal : Text) (r : Result Job JobFault) → c.in-Some.name.now ≡ literal
    → IfOk r (IsJobOf literal (rows_of (found_of c.in-Some.inner.now)))
    → (HasJob literal (rows_of (found_of c.in-Some.inner.now)) → MatchResult r IsInRange (λ fault. fault ≡ Memory))
    → IfOk r (IsMet c.args.matches.now) × MayGive c.args.matches.now r
job_but c literal r named said given =
    job_at c literal r named said (λ h. only_memory r (literal, rows_of (found_of c.in-Some.inner.now)) (given h))

pub returns-in-script : goal.returns-in-script
returns-in-script c =
    let both = job_but (goal.at.returns-in-script c).In-Some (codes "script") c.script_of.result c.in-script.is c.script_of.ensures.said c.script_of.ensures.given in
    record { said = both.0; given = both.1 }

pub returns-in-import : goal.returns-in-import
returns-in-import c =
    let both = job_but (goal.at.returns-in-import c).In-Some (codes "import") c.import_of.result c.in-import.is c.import_of.ensures.said c.import_of.ensures.given in
    record { said = both.0; given = both.1 }

pub returns-in-init : goal.returns-in-init
returns-in-init c =
    let both = job_but (goal.at.returns-in-init c).In-Some (codes "init") c.init_of.result c.in-init.is c.init_of.ensures.said (λ h. c.init_of.ensures.given h.0 h.1) in
    record { said = both.0; given = both.1 }

pub returns-in-serve : goal.returns-in-serve
returns-in-serve c =
    let both = job_but (goal.at.returns-in-serve c).In-Some (codes "serve") c.serve_of.result c.in-serve.is c.serve_of.ensures.said c.serve_of.ensures.given in
    record { said = both.0; given = both.1 }

pub returns-in-request : goal.returns-in-request
returns-in-request c =
    let both = job_but (goal.at.returns-in-request c).In-Some (codes "request") c.request_of.result c.in-request.is c.request_of.ensures.said (λ h. c.request_of.ensures.given h.0 h.1 h.2) in
    record { said = both.0; given = both.1 }

pub returns-in-define : goal.returns-in-define
returns-in-define c =
    let both = job_but (goal.at.returns-in-define c).In-Some (codes "define") c.define_of.result c.in-define.is c.define_of.ensures.said c.define_of.ensures.given in
    record { said = both.0; given = both.1 }

pub returns-in-listing : goal.returns-in-listing
returns-in-listing c =
    let both = job_but (goal.at.returns-in-listing c).In-Some (codes "listing") c.listing_of.result c.in-listing.is c.listing_of.ensures.said c.listing_of.ensures.given in
    record { said = both.0; given = both.1 }

pub returns-in-due : goal.returns-in-due
returns-in-due c =
    let both = job_but (goal.at.returns-in-due c).In-Some (codes "due") c.due_of.result c.in-due.is c.due_of.ensures.said (λ h. c.due_of.ensures.given h.0 h.1) in
    record { said = both.0; given = both.1 }

pub returns-in-publish : goal.returns-in-publish
returns-in-publish c =
    let both = job_but (goal.at.returns-in-publish c).In-Some (codes "publish") c.publish_of.result c.in-publish.is c.publish_of.ensures.said (λ h. c.publish_of.ensures.given h.0 h.1) in
    record { said = both.0; given = both.1 }

pub returns-in-verify : goal.returns-in-verify
returns-in-verify c =
    let both = job_but (goal.at.returns-in-verify c).In-Some (codes "verify") c.verify_of.result c.in-verify.is c.verify_of.ensures.said c.verify_of.ensures.given in
    record { said = both.0; given = both.1 }

pub returns-in-check : goal.returns-in-check
returns-in-check c =
    let both = job_but (goal.at.returns-in-check c).In-Some (codes "check") c.check_of.result c.in-check.is c.check_of.ensures.said c.check_of.ensures.given in
    record { said = both.0; given = both.1 }

pub returns-in-copy : goal.returns-in-copy
returns-in-copy c =
    let both = job_but (goal.at.returns-in-copy c).In-Some (codes "copy") c.copy_of.result c.in-copy.is c.copy_of.ensures.said (λ h. c.copy_of.ensures.given h.0 h.1) in
    record { said = both.0; given = both.1 }

pub returns-in-journal : goal.returns-in-journal
returns-in-journal c =
    let both = job_at (goal.at.returns-in-journal c).In-Some (codes "journal") c.journal_of.result c.in-journal.is c.journal_of.ensures.said
    (λ h. or_misnoted c.journal_of.result (rows_of (found_of c.in-Some.inner.now)) (c.journal_of.ensures.given h)) in
    record { said = both.0; given = both.1 }

pub returns-in-tokens : goal.returns-in-tokens
returns-in-tokens c =
    let both = job_at (goal.at.returns-in-tokens c).In-Some (codes "tokens") c.tokens_of.result c.in-tokens.is c.tokens_of.ensures.said
    (λ h. or_misplaced c.tokens_of.result (rows_of (found_of c.in-Some.inner.now)) (c.tokens_of.ensures.given h)) in
    record { said = both.0; given = both.1 }

pub returns-in-revoke : goal.returns-in-revoke
returns-in-revoke c =
    let both = job_at (goal.at.returns-in-revoke c).In-Some (codes "revoke") c.revoke_of.result c.in-revoke.is c.revoke_of.ensures.said
    (λ h. or_unclear c.revoke_of.result (rows_of (found_of c.in-Some.inner.now)) (c.revoke_of.ensures.given h)) in
    record { said = both.0; given = both.1 }
