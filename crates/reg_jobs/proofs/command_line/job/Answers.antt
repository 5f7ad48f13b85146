use Rattle.std.proofs.Common.{◌≡◌, ◌∙◌, Err, IfErr, IfOk, MatchResult, Ok, Result, [], ap, inl, inr, sym, subst, true, refl, map}
use Rattle.std.proofs.lemmas.Result.{IfErr-weaker, IfOk-weaker}
use Rattle.clap.specs.Words.{HasKind, app_of, fault_of, is_simple, is_simple_and_free, kind_of, subcommand_of}
use Rattle.clap.specs.declared.error.kind.ErrorKind.{ErrorKind}
use Rattle.clap.specs.declared.error.kind.ErrorKind.TheVariants.{OutOfMemory}
use Rattle.clap.proofs.OnLiterals.{clap_on_literals}
use Rattle.reg_jobs.specs.Asking.{IsAskedBy, IsInRange, IsUnclearJob}
use Rattle.reg_jobs.specs.CommandLine.{office_app}
use Rattle.reg_jobs.specs.declared.jobs.Job.{Job}
use Rattle.reg_jobs.specs.declared.jobs.Job.TheVariants.{Version, Help}
use Rattle.reg_jobs.specs.declared.jobs.JobFault.TheVariants.{Line}
use Rattle.reg_jobs.proofs.Taken.{taken_gives}
use Rattle.reg_jobs.proofs.command_line.job.Goals as goal

simple : is_simple office_app ≡ true
unfolding clap_on_literals
simple = refl

simple_and_free : is_simple_and_free office_app ≡ true
unfolding clap_on_literals
simple_and_free = refl

both_ok : {X E : Type 0} (r : Result X E) (P Q : X → Type 0) (F : E → Type 0) → IfOk r P → MatchResult r Q F → IfOk r (λ x. P x × Q x)
both_ok (Ok x) P Q F p q = (p, q)
both_ok (Err e) P Q F p q = tt

both_err : {X E : Type 0} (r : Result X E) (P Q : E → Type 0) → IfErr r P → IfErr r Q → IfErr r (λ e. P e × Q e)
both_err (Ok x) P Q p q = tt
both_err (Err e) P Q p q = (p, q)

on_error : {X E : Type 0} (r : Result X E) (P : X → Type 0) (Q R : E → Type 0) → MatchResult r P Q → ((e : E) → Q e → R e) → IfErr r R
on_error (Ok x) P Q R h weaker = tt
on_error (Err e) P Q R h weaker = weaker e h

-- nobody asks by want of memory
not_by_memory : (job : Job) (kind : ErrorKind) → IsAskedBy job kind → kind ≡ OutOfMemory → ⊥
not_by_memory (Help text) kind asked memory = cc
not_by_memory Version kind asked memory = cc
not_by_memory _ kind asked memory = absurd asked

pub returns-in-Ok : goal.returns-in-Ok
returns-in-Ok c =
    let is : app_of c.in_ok-office.field-0 ≡ office_app = c.in_ok-office.ensures in
    let words = map (λ word. word.now) c.args.words.now in
    let read = (c.in-Ok.ensures.matches (ap is_simple is ∙ simple)).1 ∙ ap (λ a. subcommand_of a words) is in
    let taken : fault_of office_app words ≡ [] = sym (ap (λ a. fault_of a words) is) ∙ c.in-Ok.ensures.kinds (ap is_simple_and_free is ∙ simple_and_free) in
    let met = taken_gives words taken in
    let given = c.job_of-job.ensures.given met.0 (read ∙ met.1) met.2 in
    record {
      asked = IfOk-weaker c.job_of-job.result _ _ (λ job h. inl (h.0.0, sym read ∙ h.0.1, h.0.2, h.1, taken))
          (both_ok c.job_of-job.result _ IsInRange _ c.job_of-job.ensures.said given);
      line = on_error c.job_of-job.result IsInRange (λ fault. fault ≡ Line → IsUnclearJob met.0.0 met.0.1) _ given
          (λ fault unclear line. inr (met.0, met.1, unclear line, taken));
    }

pub returns-in-Err : goal.returns-in-Err
returns-in-Err c =
    let is : app_of c.in_ok-office.field-0 ≡ office_app = c.in_ok-office.ensures in
    let words = map (λ word. word.now) c.args.words.now in
    let kinds : HasKind (fault_of office_app words) c.in-Err.error =
    subst (λ a. HasKind (fault_of a words) c.in-Err.error) is (c.in-Err.ensures.kinds (ap is_simple_and_free is ∙ simple_and_free)) in
    record {
      asked = IfOk-weaker c.answer_to.result _ _ (λ job h.
          elim kinds [
            | inl memory ↦ absurd (not_by_memory job (kind_of c.in-Err.error) h memory)
            | inr among ↦ inr (kind_of c.in-Err.error, h, among)
          ]) c.answer_to.ensures.asked;
      line = IfErr-weaker c.answer_to.result _ _ (λ fault h line.
          elim kinds [
            | inl memory ↦ let not_line = h.0 memory in absurd (cc)
            | inr among ↦ inl (kind_of c.in-Err.error, among, h.1 line)
          ]) (both_err c.answer_to.result _ _ c.answer_to.ensures.memory c.answer_to.ensures.line);
    }
