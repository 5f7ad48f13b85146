-- A write with another premise, and what two writes make together; a change as another.
use Rattle.std.proofs.Common.{◌≡◌, ◌∙◌, ap, Ok, Result}
use Rattle.sqlite.specs.Effect.{Database}
use Rattle.sqlite.specs.State.{State}
use Rattle.reg_core.specs.World.{World}
use Rattle.reg_tables.proofs.MakeLemmas.{on_ok}
use Rattle.reg_rows.specs.Calls.{Alters, Steps, StepsAt, StepsIn}
use Rattle.reg_statements.specs.Content.{IsStored, assembled, content_of, parts_of, world_in}
use Rattle.reg_statements.specs.Parts.{Parts}

-- as what it does to what else is seen
steps_by : {W V T E : Type 0} {seen : Database → W} {shown : Database → V} {a b : State}
    {result : Result T E} {F : W → Type 0} {G : V → Type 0} {f : W → W} {g : V → V}
    → StepsAt seen a b result F f
    → (IsStored a.now → G (shown a.now) → F (seen a.now)
    × (seen b.now ≡ f (seen a.now) → shown b.now ≡ g (shown a.now)))
    → StepsAt shown a b result G g
steps_by {result = result} it meets = record {
  endures = it.endures;
  kept = it.kept;
  went = it.went;
  tables = it.tables;
  turns = λ clean. on_ok result (λ turns stored fits.
      let both = meets stored fits in
      let done = turns stored both.0 in
      (done.0, both.1 done.1)) (it.turns clean);
}

-- where the premise implies the write's own, and then the change is the same
pub steps_as : {T E : Type 0} {a b : State} {result : Result T E} {F G : World → Type 0}
    {f g : World → World} → Steps a b result F f
    → ((w : World) → G w → F w × (f w ≡ g w)) → Steps a b result G g
steps_as {a = a} it meets = steps_by it (λ stored fits.
    let both = meets (content_of a.now) fits in
    (both.0, λ done. done ∙ both.1))

-- what a write does to the parts, as what it does to the office
pub steps_in : {T E : Type 0} {a b : State} {result : Result T E} {F : Parts → Type 0}
    {G : World → Type 0} {f : Parts → Parts} {g : World → World} → StepsIn a b result F f
    → ((db : Database) → IsStored db → G (content_of db)
    → F (parts_of db) × (assembled (f (parts_of db)) ≡ g (content_of db))) → Steps a b result G g
steps_in {a = a} it meets = steps_by it (λ stored fits.
    let both = meets a.now stored fits in
    (both.0, λ done. ap assembled done ∙ both.1))

-- one that went through, whatever is told of it
pub steps_told : {T U E : Type 0} {a b : State} {x : T} {F : World → Type 0} {f : World → World}
    (y : U) → Steps {T = T} {E = E} a b (Ok x) F f → Steps {T = U} {E = E} a b (Ok y) F f
steps_told y it = record {
  endures = it.endures;
  kept = it.kept;
  went = it.went;
  tables = it.tables;
  turns = it.turns;
}

-- a change, as another that makes the same of each office
pub alters_as : {T E : Type 0} {a b : State} {result : Result T E} {f g : World → World}
    → Alters a b result f → ((w : World) → f w ≡ g w) → Alters a b result g
alters_as {a = a} {result = result} it same = record {
  keeping = it.keeping;
  endures = it.endures;
  held = it.held;
  on = it.on;
  made = λ h. on_ok result (λ is. is ∙ same (world_in a)) (it.made h);
  kept = it.kept;
}
