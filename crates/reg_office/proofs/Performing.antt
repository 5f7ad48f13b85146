-- A command whose caller is looked up first.
use Rattle.std.proofs.Common.{◌≡◌, Bool, Result, Ok, Err, sym, ap, subst, ◌∙◌}
use Rattle.std.specs.Prelude.{IsErrAnd, IfOk, IfErr, OnOk, OnErr}
use Rattle.std.proofs.lemmas.Result.{err_from_is_err_and}
use Rattle.reg_core.specs.Allowance.{◌>>=◌}
use Rattle.reg_core.specs.Answer.{Answer, reply_of, change_of}
use Rattle.reg_core.specs.Journal.{recorded_if}
use Rattle.reg_core.specs.World.{World}
use Rattle.reg_core.specs.declared.journal.Stamp.{Stamp}
use Rattle.reg_core.specs.declared.told.Told.{Told}
use Rattle.reg_core.specs.declared.refusal.Refusal.{Refusal}
use Rattle.reg_core.specs.declared.reply.Reply.TheVariants.{Accepted}
use Rattle.reg_keeper.proofs.Premises.{goes_on_then}
use Rattle.reg_registers.specs.Performs.{LooksUp, Performs}
use Rattle.reg_registers.specs.Stops.{Refuses}
use Rattle.reg_registers.specs.declared.stop.Stop.{Stop}
use Rattle.reg_registers.specs.declared.stop.Stop.TheVariants.{Refused, Fault}

-- what is answered alike was done
pub performs_as : {S : Type 0} {world : S → World} {Holds Sound : S → Type 0} {fails : Bool}
    {stamp : Stamp} {old new : S} {result : Result Told Stop} {given answer : World → Answer}
    → Performs world Holds Sound fails stamp old new result given
    → ((w : World) → given w ≡ answer w)
    → Performs world Holds Sound fails stamp old new result answer
performs_as {world = world} {Holds = Holds} {Sound = Sound} {fails = fails} {stamp = stamp}
    {old = old} {new = new} {result = result} performs same =
    subst (λ (a : World → Answer). Performs world Holds Sound fails stamp old new result a)
    (λ i w. same w i) performs

-- what was found, and then done by it, was done
pub performs_then : {S T : Type 0} {world : S → World} {Holds Sound : S → Type 0} {fails : Bool}
    {stamp by : Stamp} {old mid new : S} {x : T} {result : Result Told Stop}
    (found : World → Result T Refusal) (act : T → World → Answer) (answer : World → Answer)
    → LooksUp world Holds Sound fails old mid (Ok x) found
    → Performs world Holds Sound fails by mid new result (act x)
    → (found (world old) ≡ Ok x → by ≡ stamp)
    → answer (world old) ≡ (found (world old) >>= (λ x. act x (world old)))
    → Performs world Holds Sound fails stamp old new result answer
performs_then {world = world} {Holds = Holds} {stamp = stamp} {by = by} {old = old} {mid = mid}
    {new = new} {x = x} {result = result} found act answer finds performs signed is = record {
      told = λ h.
          subst (λ (a : Answer). IfOk result (λ c. reply_of a ≡ Accepted c)) (answer_is h)
          (performs.told h);
      made = λ h.
          subst (λ (y : Stamp × World × Answer).
          OnOk result (world new ≡ recorded_if y.0 y.1 (change_of y.2)))
          (λ i. (
            signed (finds.value (performs.premise.before h)) i,
            finds.same (performs.premise.before h) i,
            answer_is h i,
          )) (performs.made h);
      refused = λ h.
          subst (λ (a : Answer). IfErr result (Refuses a)) (answer_is h) (performs.refused h);
      kept = λ h.
          subst (λ (w : World). OnErr result (world new ≡ w))
          (finds.same (performs.premise.before h))
          (performs.kept h);
      premise = goes_on_then finds.premise performs.premise;
      fault = performs.fault;
    }
  where
    answer_is : Holds new → act x (world mid) ≡ answer (world old)
    answer_is h =
        ap (act x) (finds.same (performs.premise.before h))
        ∙ ap (λ o. o >>= (λ x. act x (world old))) (sym (finds.value (performs.premise.before h)))
        ∙ sym is

-- a refusal of what was looked for is one of the answer
refuses_then : {T : Type 0} (found : Result T Refusal) (act : T → Answer) (stop : Stop)
    → Refuses found stop → Refuses (found >>= act) stop
refuses_then found act (Refused refusal) h = ap (λ o. o >>= act) h
refuses_then found act (Fault fault) h = tt

pub performs_stopped : {S T : Type 0} {world : S → World} {Holds Sound : S → Type 0} {fails : Bool}
    {stamp : Stamp} {old new : S} {result : Result Told Stop}
    (found : World → Result T Refusal) (act : T → World → Answer) (answer : World → Answer)
    (stop : Stop) → LooksUp world Holds Sound fails old new (Err stop) found
    → IsErrAnd result (λ s. s ≡ stop)
    → answer (world old) ≡ (found (world old) >>= (λ x. act x (world old)))
    → Performs world Holds Sound fails stamp old new result answer
performs_stopped {world = world} {old = old} {result = result}
    found act answer stop finds stops is =
    let p = err_from_is_err_and result stops in
    rw (p.1, p.2) (record {
      told = λ h. tt;
      made = λ h. tt;
      refused = λ h.
          subst (λ a. Refuses a stop) (sym is)
          (refuses_then (found (world old)) (λ x. act x (world old)) stop (finds.refused h));
      kept = finds.same;
      premise = finds.premise;
      fault = finds.fault;
    })
