-- A command about a request that was looked up.
use Rattle.std.proofs.Common.{◌≡◌, Result, Ok, sym, ◌∙◌}
use Rattle.std.specs.Prelude.{Bool, Option, Some, option_map}
use Rattle.std.specs.FinMap.{get}
use Rattle.reg_core.specs.Allowance.{◌>>=◌, or_refusal}
use Rattle.reg_core.specs.Answer.{Answer, by_rule}
use Rattle.reg_core.specs.Request.{case_of, request_row}
use Rattle.reg_core.specs.WellKept.{WellKept, CanApply}
use Rattle.reg_core.specs.World.{World, RequestName}
use Rattle.reg_core.specs.declared.change.Change.{Change}
use Rattle.reg_core.specs.declared.told.Told.{Told}
use Rattle.reg_core.specs.declared.decide.Decision.{Decision}
use Rattle.reg_core.specs.declared.decide.Decision.TheVariants.{Make}
use Rattle.reg_core.specs.declared.refusal.Refusal.{Refusal}
use Rattle.reg_core.specs.declared.refusal.Refusal.TheVariants as no
use Rattle.reg_core.specs.declared.request.Case.{Case}
use Rattle.reg_core.specs.declared.request.Request.{Request}
use Rattle.reg_keeper.specs.Keeper.{Selects}
use Rattle.reg_registers.proofs.Decided.{Decides}
use Rattle.reg_registers.proofs.Rows.{IsRowOf, answer_about, selected_after, there}

-- what a command is answered by a rule about the request of a name
abbrev pub answer_by_rule : RequestName → (RequestName → Case → Result Decision Refusal)
    → (RequestName → Case → Decision → Told) → World → Answer
answer_by_rule asked rule told w =
    or_refusal no.Request (get w.requests asked)
    >>= (λ case. by_rule (rule asked case) (told asked case))

-- a request that was looked up is what the command about it is decided over
pub decides_about : {S : Type 0} {world : S → World} {Holds Sound : S → Type 0} {fails : Bool}
    {old mid : S} {found : Option Request} (asked : RequestName) (row : Request)
    (rule : RequestName → Case → Result Decision Refusal)
    (told : RequestName → Case → Decision → Told)
    → Selects world Holds Sound fails old mid (Ok found)
    (λ w found. found ≡ option_map (request_row asked) (get w.requests asked))
    → found ≡ Some row
    → ((w : World) (change : Change) → WellKept w
    → get w.requests (row.account, row.reference) ≡ Some (case_of row)
    → rule (row.account, row.reference) (case_of row) ≡ Ok (Make change) → CanApply w change)
    → Decides world Holds Sound old mid (answer_by_rule asked rule told)
    (rule (row.account, row.reference) (case_of row))
    (told (row.account, row.reference) (case_of row))
decides_about {world = world} {Holds = Holds} {mid = mid} asked row rule told selects is fits = record {
  answered = λ h.
      answer_about (world mid) asked row (λ name case. by_rule (rule name case) (told name case))
      (row_is_found h);
  fits = λ h kept change. fits (world mid) change kept (there (world mid) asked row (row_is_found h));
  same = selects.same;
  premise = selects.premise;
}
  where
    row_is_found : Holds mid → IsRowOf (world mid) asked row
    row_is_found h = sym is ∙ selected_after selects h
