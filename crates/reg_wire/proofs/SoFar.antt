-- What was promised of the first lines of a run stands, whatever comes later.
use Rattle.std.proofs.Common.{◌≡◌, ℕ, Bool, List, [], ◌∷◌, ◌++◌, Option, None, Some, Result, Ok, Err, length, arith, refl, sym, ap, ◌∙◌, inl, inr}
use Rattle.std.specs.Prelude.{MatchOption}
use Rattle.reg_core.specs.World.{World}
use Rattle.reg_keeper.specs.Keeper.{GoesOn}
use Rattle.reg_keeper.specs.declared.keeper.Fault.{Fault}
use Rattle.reg_keeper.proofs.Premises.{goes_on_both, goes_on_there}
use Rattle.reg_print.specs.declared.answer.Answer.{Answer}
use Rattle.reg_wire.specs.Exchange.{Call, FaultOf, GivesAnswer, IsNotOfStore, PremiseGoesOn}
use Rattle.reg_wire.specs.Script.Answers.{Serves, ServesOver, answer_line, given_line}
use Rattle.reg_wire.specs.Script.Laws.{LinesStandSoFar}
use Rattle.reg_wire.specs.Script.Line.{line_of}
use Rattle.reg_wire.specs.Script.Lines.{refusal, storage, Ran}
use Rattle.reg_wire.proofs.AnswerLines.{answered_is_another, refusal_is_no_storage}

module _ {S : Type 0} (world : S → World) (Holds Sound : S → Type 0) (fails : Bool) where
  abbrev Over : S → Call → List ℕ → S → Type 0
  Over = ServesOver world Holds Sound fails

  -- ---- One line

  module _ (before after : S) (answer : List ℕ) where
    abbrev AnsweredBy : Option Call → Type 0
    AnsweredBy o =
        MatchOption o ((answer ≡ refusal) × (after ≡ before))
        (λ call. Over before call answer after)

    -- the fault at which it was answered 503, and what becomes of the premise
    abbrev GoesOnBy : Type 0
    GoesOnBy =
        (fault : Option Fault) × FaultOf storage fails answer fault
        × GoesOn Holds Sound before after (IsNotOfStore fault)

    given_goes_on : (call : Call) (result : Result Answer Fault) → answer ≡ given_line result
        → GivesAnswer world Holds Sound fails before call result after → GoesOnBy
    given_goes_on call (Ok a) told gives =
        (None, λ same. answered_is_another a gives.is_answered (sym told ∙ same), gives.makes.premise)
    given_goes_on call (Err fault) told gives =
        (Some fault, (told, gives.makes.fault), gives.makes.premise)

    line_goes_on : (o : Option Call) → AnsweredBy o → GoesOnBy
    line_goes_on None h = (None, λ same. refusal_is_no_storage (sym h.0 ∙ same), goes_on_there h.1)
    line_goes_on (Some call) h = given_goes_on call h.result h.told h.gives

    given_served : (call : Call) (result : Result Answer Fault) → answer ≡ given_line result
        → GivesAnswer world Holds Sound fails before call result after → Holds after
        → Serves (world before) call answer (world after)
    given_served call (Ok a) told gives holds =
        inl (told ∙ ap answer_line (gives.answers holds), gives.makes.made holds)
    given_served call (Err fault) told gives holds = inr (told, gives.makes.kept holds)

    line_served : (o : Option Call) → AnsweredBy o → Holds after
        → MatchOption o ((answer ≡ refusal) × (world after ≡ world before))
        (λ call. Serves (world before) call answer (world after))
    line_served None h holds = (h.0, ap world h.1)
    line_served (Some call) h holds = given_served call h.result h.told h.gives holds

  -- ---- Lines in turn

  run_goes_on : (lines answers : List (List ℕ)) (first last : S) → Ran Over first lines answers last
      → PremiseGoesOn Holds Sound storage fails first last answers
  run_goes_on [] [] first last h = record { faults = []; each = tt; goes_on = goes_on_there h }
  run_goes_on [] (answer ∷ answers) first last h = absurd h
  run_goes_on (line ∷ lines) [] first last h = absurd h
  run_goes_on (line ∷ lines) (answer ∷ answers) first last h =
      let one = line_goes_on first h.0 answer (line_of line) h.1 in
      let rest = run_goes_on lines answers h.0 last h.2 in
      record {
        faults = one.0 ∷ rest.faults;
        each = (one.1, rest.each);
        goes_on = goes_on_both one.2 rest.goes_on;
      }

  run_served : (lines answers : List (List ℕ)) (first last : S) → Ran Over first lines answers last
      → Holds last → Ran Serves (world first) lines answers (world last)
  run_served [] [] first last h holds = ap world h
  run_served [] (answer ∷ answers) first last h holds = absurd h
  run_served (line ∷ lines) [] first last h holds = absurd h
  run_served (line ∷ lines) (answer ∷ answers) first last h holds =
      let then = (run_goes_on lines answers h.0 last h.2).goes_on.before holds in (
        world h.0,
        line_served first h.0 answer (line_of line) h.1 then,
        run_served lines answers h.0 last h.2 holds,
      )

  -- ---- The first lines, and the others

  run_split : (lines answers later later_answers : List (List ℕ)) (first last : S)
      → length lines ≡ length answers
      → Ran Over first (lines ++ later) (answers ++ later_answers) last
      → (now : S) × Ran Over first lines answers now × Ran Over now later later_answers last
  run_split [] [] later later_answers first last size h = (first, refl, h)
  run_split [] (answer ∷ answers) later later_answers first last size h =
      absurd (omega (arith, size))
  run_split (line ∷ lines) [] later later_answers first last size h =
      absurd (omega (arith, size))
  run_split (line ∷ lines) (answer ∷ answers) later later_answers first last size h =
      let same : length lines ≡ length answers = omega (arith, size) in
      let rest = run_split lines answers later later_answers h.0 last same h.2 in
      (rest.0, (h.0, h.1, rest.1), rest.2)

  pub stand_so_far : LinesStandSoFar world Holds Sound fails
  stand_so_far first last lines answers later later_answers size h =
      let parts = run_split lines answers later later_answers first last size h in
      record {
        now = parts.0;
        ran = run_served lines answers first parts.0 parts.1;
        premise = run_goes_on lines answers first parts.0 parts.1;
        more = parts.2;
        later_premise = run_goes_on later later_answers parts.0 last parts.2;
      }
