-- The parts of a statement that went through.
use Rattle.std.proofs.Common.{◌≡◌, ◌⊎◌, inl, inr, ℤ, Bool, false, cond, None, Ok, Err, Result, refl}
use Rattle.std.proofs.Common.{ap}
use Rattle.sqlite.specs.Rowids.TheVariants.{Chosen, Above}
use Rattle.sqlite.specs.declared.run.Mode.{Mode}
use Rattle.sqlite.specs.Does.{Tally, Concludes}
use Rattle.sqlite.specs.Rows.{Written, Task}
use Rattle.sqlite.specs.Effect.{Database}

-- a part that gave a value did not stop on the way
pub went : {B E R : Type 0} {b : B} {Stops : E → Type 0}
    → ((stop : E) × Stops stop × (Ok b ≡ Err stop)) ⊎ R → R
went (inl stopped) = absurd (let e = stopped.2 in cc)
went (inr on) = on

pub same_ok : {B E : Type 0} {a b : B} → ◌≡◌ {A = Result B E} (Ok a) (Ok b) → a ≡ b
same_ok e = cc

pub chosen : (b : Bool) (top : ℤ) → b ≡ false → cond b (Above top) Chosen ≡ Chosen
chosen b top e = rw e refl

pub concluded : (it : Task) (mode : Mode) (done : Written) (tally : Tally) (after : Database)
    → Concludes it mode None done (Ok (tally, after))
    → after ≡ record { schema = it.schema; trees = done.trees }
concluded it mode done tally after h =
    ap (λ (p : Tally × Database). p.1) (same_ok (went (went h).2).2)
