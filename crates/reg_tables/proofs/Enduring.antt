-- What endures in a call goes on in the next.
use Rattle.std.proofs.Common.{◌≡◌, ap, ◌∙◌, inl, inr, arith}
use Rattle.sqlite.specs.Effect.{Database}
use Rattle.sqlite.specs.Tree.{Trees}
use Rattle.sqlite.specs.State.{State, Survives}
use Rattle.reg_tables.specs.Connection.{Endures, HoldsOn, Stays, Works}
use Rattle.reg_tables.specs.Lasting.{Lasts}

pub endures_lasting : (old new : State) → Lasts old new → Endures old new
endures_lasting old new it = record {
  clean = λ clean. let less = it.clean in omega arith;
  faults = it.counts;
  stays_open = λ clean none was. elim (it.closes clean was) [
    | inl still ↦ still
    | inr more ↦ absurd (omega (arith, more, none))
  ];
}

pub endures_in : (old new : State) (Commits : Trees → Type 0) → Survives old new Commits
    → Endures old new
endures_in old new Commits it =
    endures_lasting old new (record { clean = it.clean; counts = it.counts; closes = it.closes })

pub endures_still : (s : State) → Endures s s
endures_still s = record { clean = λ clean. clean; faults = omega arith; stays_open = λ _ _ still. still }

pub endures_then : (a b c : State) → Endures a b → Endures b c → Endures a c
endures_then a b c p q = record {
  clean = λ clean. p.clean (q.clean clean);
  faults = let low = p.faults in let high = q.faults in omega arith;
  stays_open = λ clean none was.
      let high = q.faults in
      q.stays_open clean none (p.stays_open (q.clean clean) (omega arith) was);
}

-- where the definitions of the tables are kept, the premise goes on
pub holds_on : (old new : State) → Endures old new
    → (Works new → new.now.schema ≡ old.now.schema) → HoldsOn old new
holds_on old new endures kept clean none held =
    let works : Works new = record {
      clean = clean;
      is_open = endures.stays_open clean none held.works.is_open;
    } in
    record { works = works; tables = kept works ∙ held.tables }

-- so it does where the tables stay as they were
pub stays_on : (old new : State) → Endures old new → Stays old new → HoldsOn old new
stays_on old new endures stays =
    holds_on old new endures (λ works. ap (λ (d : Database). d.schema) (stays.unchanged works))

pub holds_then : (a b c : State) → Endures b c → HoldsOn a b → HoldsOn b c → HoldsOn a c
holds_then a b c endures p q clean none held =
    let less = endures.faults in
    q clean none (p (endures.clean clean) (omega (arith, none, less)) held)
