-- Acts of which less is told.
use Rattle.std.proofs.Common.{◌≡◌, ℕ, List, Option, Result, Ok, Err, refl, sym, ◌∙◌}
use Rattle.std.specs.Prelude.{⊤, IsErrAnd}
use Rattle.reg_core.specs.declared.journal.Act.{Act}
use Rattle.reg_program.specs.Journal.{AreUnnotedBy, TellsActs}
use Rattle.reg_program.specs.declared.faults.JobFailure.TheVariants.{Journal}
use Rattle.reg_program.specs.declared.faults.Undone.{Undone}
use Rattle.reg_program.specs.declared.faults.Undone.TheVariants.{Fault}

module _ (P Q : List Act → Type 0) (noted had has : Option (List ℕ))
    (less : (acts : List Act) → P acts → Q acts) where
  lacks_less : (acts : List Act) × P acts × AreUnnotedBy noted acts
      → (acts : List Act) × Q acts × AreUnnotedBy noted acts
  lacks_less (acts, is, lacks) = (acts, less acts is, lacks)

  -- the acts of which more was known
  pub tells_less : (done : Result ⊤ Undone) → TellsActs P noted had has done
      → TellsActs Q noted had has done
  tells_less (Ok u) (acts, is, found, wrote) = (acts, less acts is, found, wrote)
  tells_less (Err why) h = record {
    silent = h.silent;
    unnoted = λ is. lacks_less (h.unnoted is);
  }

-- none were read, and nothing was printed
pub untold : (Has : List Act → Type 0) (noted had : Option (List ℕ)) (why : Undone)
    → (why ≡ Fault Journal → ⊥) → (done : Result ⊤ Undone) → IsErrAnd done (λ e. e ≡ why)
    → TellsActs Has noted had had done
untold Has noted had why other (Ok u) is = absurd is
untold Has noted had why other (Err e) is = record {
  silent = λ not. refl;
  unnoted = λ same. absurd (other (sym is ∙ same));
}
