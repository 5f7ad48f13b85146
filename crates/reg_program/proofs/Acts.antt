-- Acts that a job prints, or not.
use Rattle.std.proofs.Common.{◌≡◌, ℕ, true, false, List, Option, Result, Ok, Err, refl, subst, ap, sym, ◌∙◌}
use Rattle.std.specs.Prelude.{⊤, IfErr, IsErrAnd, OnOk}
use Rattle.std.specs.Io.KnownBytes.{Appends}
use Rattle.reg_core.specs.declared.journal.Act.{Act}
use Rattle.reg_history.specs.Acts.{IsTextOfActs}
use Rattle.reg_program.specs.Journal.{IsOfActs, IsUnprintedBy, TellsActs, has_noted}
use Rattle.reg_program.specs.Undone.{IsOfStoreOrPrinting}
use Rattle.reg_program.specs.declared.faults.JobFailure.{JobFailure}
use Rattle.reg_program.specs.declared.faults.JobFailure.TheVariants.{Journal, Memory, Store, Write}
use Rattle.reg_program.specs.declared.faults.Undone.{Undone}
use Rattle.reg_program.specs.declared.faults.Undone.TheVariants.{Fault}

-- ---- Why nothing is printed

of_acts : (failure : JobFailure) → IsOfStoreOrPrinting (Fault failure) → IsOfActs (Fault failure)
of_acts Memory h = tt
of_acts Store h = tt
of_acts Write h = tt
of_acts _ h = absurd h

pub common_of_acts : (why : Undone) → IsOfStoreOrPrinting why → IsOfActs why
common_of_acts (Fault failure) h = of_acts failure h
common_of_acts _ h = absurd h

-- and so it is of what is passed on
pub stopped_of_acts : (why : Undone) → IsOfStoreOrPrinting why → (done : Result ⊤ Undone)
    → IsErrAnd done (λ e. e ≡ why) → IfErr done IsOfActs
stopped_of_acts why of (Ok u) is = absurd is
stopped_of_acts why of (Err e) is =
    common_of_acts e (subst IsOfStoreOrPrinting (sym is) of)

pub write_of_acts : (why : Undone) → why ≡ Fault Write → IsOfActs why
write_of_acts why h = rw h tt

module _ (Has : List Act → Type 0) (noted had : Option (List ℕ)) where
  -- no acts were read
  pub unread : (why : Undone) → IsOfStoreOrPrinting why → IsUnprintedBy Has noted had had why
  unread why of = record {
    silent = λ not. refl;
    unnoted = λ is. absurd (subst IsOfStoreOrPrinting is of);
  }

  pub stopped : (why : Undone) → IsOfStoreOrPrinting why → (done : Result ⊤ Undone)
      → IsErrAnd done (λ e. e ≡ why) → TellsActs Has noted had had done
  stopped why of (Ok u) is = absurd is
  stopped why of (Err e) is = unread e (subst IsOfStoreOrPrinting (sym is) of)

  -- no digest begins so
  pub unnoted : (acts : List Act) (text : List ℕ) (digests : List (List ℕ)) → Has acts
      → IsTextOfActs acts text digests → has_noted digests noted ≡ false
      → IsUnprintedBy Has noted had had (Fault Journal)
  unnoted acts text digests is of lacks = record {
    silent = λ not. refl;
    unnoted = λ same. (
      acts,
      is,
      ap (λ (d : List (List ℕ)). has_noted d noted) (sym of.digests_are) ∙ lacks,
    );
  }

  -- they are printed, or not
  pub printed : (has : Option (List ℕ)) (done : Result ⊤ Undone) (acts : List Act) (text : List ℕ)
      (digests : List (List ℕ)) → Has acts → IsTextOfActs acts text digests
      → has_noted digests noted ≡ true → OnOk done (Appends had has text)
      → IfErr done (λ why. why ≡ Fault Write) → TellsActs Has noted had has done
  printed has (Ok u) acts text digests is of has_one wrote failed =
      let P : List ℕ → Type 0 = λ bytes. Appends had has bytes in (
        acts,
        is,
        ap (λ (d : List (List ℕ)). has_noted d noted) (sym of.digests_are) ∙ has_one,
        subst P of.text_is wrote,
      )
  printed has (Err why) acts text digests is of has_one wrote failed = record {
    silent = λ not. absurd (not failed);
    unnoted = λ same. absurd (cc);
  }
