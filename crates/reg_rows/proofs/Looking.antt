-- A call that only looks at the tables leaves an office's rows.
use Rattle.std.proofs.Common.{◌≡◌, sym, subst, refl, ap, Ok, Err}
use Rattle.std.specs.Prelude.{Result, IfOk, IsErr}
use Rattle.std.proofs.lemmas.Result.{IfOk-from_err, IfOk-weaker}
use Rattle.sqlite.specs.Effect.{Database}
use Rattle.sqlite.specs.State.{State}
use Rattle.reg_core.specs.World.{World}
use Rattle.reg_tables.specs.Connection.{Endures, Holds, IsIdle, Stays}
use Rattle.reg_rows.specs.Calls.{IsKeeping, Looks, LooksAt, LooksIn}
use Rattle.reg_tables.proofs.Enduring.{endures_still, endures_then, holds_then, stays_on}
use Rattle.reg_tables.proofs.RestLemmas.{stays_held, stays_same, stays_then}
use Rattle.reg_statements.specs.Content.{AreTied, IsStored, assembled, parts_of}
use Rattle.reg_statements.specs.Parts.{Parts}

pub keeps_on : (old new : State) → IsKeeping old → IsIdle new → Stays old new → IsKeeping new
keeps_on old new keeping idle stays = record {
  idle = idle;
  stored = λ h. subst IsStored (sym (stays_same stays h)) (keeping.stored (stays_held stays h));
}

pub looks : {W T E : Type 0} {seen : Database → W} {old new : State} {result : Result T E}
    {Gives : W → T → Type 0} → IsKeeping old → IsIdle new → Endures old new → Stays old new
    → (Holds new → IfOk result (Gives (seen old.now))) → LooksAt seen old new result Gives
looks {old = old} {new = new} keeping idle endures stays value = record {
  keeping = keeps_on old new keeping idle stays;
  endures = endures;
  stays = stays;
  on = stays_on old new endures stays;
  value = value;
}

-- what a call shows is told of another result, and of what else is seen
pub looks_by : {W V T U E F : Type 0} {seen : Database → W} {shown : Database → V} {old new : State}
    {result : Result T E} {told : Result U F} {G : W → T → Type 0} {H : V → U → Type 0}
    → LooksAt seen old new result G
    → (Holds new → IfOk result (G (seen old.now)) → IfOk told (H (shown old.now)))
    → LooksAt shown old new told H
looks_by it tells = record {
  keeping = it.keeping;
  endures = it.endures;
  stays = it.stays;
  on = it.on;
  value = λ h. tells h (it.value h);
}

-- what is so of the parts is so of the office, and of what a later step makes of it or gives up
pub looks_if : {T U E F : Type 0} {old new : State} {x : T} {result : Result U E}
    {G : Parts → T → Type 0} {H : World → U → Type 0} → LooksIn {E = F} old new (Ok x) G
    → ((p : Parts) → G p x → IfOk result (H (assembled p))) → Looks old new result H
looks_if {old = old} it gives = looks_by it (λ h. gives (parts_of old.now))

-- what is told of a call tells more of it
pub looks_so : {W T E : Type 0} {seen : Database → W} {old new : State} {result : Result T E}
    {F G : W → T → Type 0} → LooksAt seen old new result F → ((w : W) (x : T) → F w x → G w x)
    → LooksAt seen old new result G
looks_so {seen = seen} {old = old} {result = result} it tells =
    looks_by it (λ h. IfOk-weaker result _ _ (tells (seen old.now)))

-- and of what is made of it
pub looks_told : {W T U E : Type 0} {seen : Database → W} {old new : State} {x : T} {y : U}
    {F : W → T → Type 0} {G : W → U → Type 0} → LooksAt {E = E} seen old new (Ok x) F
    → ((w : W) → F w x → G w y) → LooksAt {E = E} seen old new (Ok y) G
looks_told {seen = seen} {old = old} it gives = looks_by it (λ h. gives (seen old.now))

-- and so of the office
pub looks_made : {T U E : Type 0} {old new : State} {x : T} {y : U} {F : Parts → T → Type 0}
    {G : World → U → Type 0} → LooksIn {E = E} old new (Ok x) F
    → ((p : Parts) → F p x → G (assembled p) y) → Looks {E = E} old new (Ok y) G
looks_made {old = old} it gives = looks_by it (λ h. gives (parts_of old.now))

-- and so of the office, by what the rows of its parts owe to one another
pub looks_tied : {T U E : Type 0} {old new : State} {x : T} {y : U} {F : Parts → T → Type 0}
    {G : World → U → Type 0} → IsKeeping old → LooksIn {E = E} old new (Ok x) F
    → ((p : Parts) → AreTied p → F p x → G (assembled p) y) → Looks {E = E} old new (Ok y) G
looks_tied {old = old} keeping it gives =
    looks_by it (λ h is.
    gives (parts_of old.now) (keeping.stored (stays_held it.stays h)).kept.tied is)

-- a call that does nothing looks
pub looks_still : {W T E : Type 0} {seen : Database → W} {s : State} {x : T}
    {Gives : W → T → Type 0} → IsKeeping s → ((w : W) → Gives w x)
    → LooksAt {E = E} seen s s (Ok x) Gives
looks_still {seen = seen} {s = s} keeping gives =
    looks keeping keeping.idle (endures_still s)
    (record { worked = λ h. h; unchanged = λ h. refl })
    (λ h. gives (seen s.now))

-- two calls that look, one after the other, look as one, of whatever comes of the second
looks_both : {W T U V E : Type 0} {seen : Database → W} {a b c : State} {x : T}
    {told : Result U E} {result : Result V E} {F : W → T → Type 0} {G : W → U → Type 0}
    {H : W → V → Type 0} → LooksAt {E = E} seen a b (Ok x) F → LooksAt seen b c told G
    → ((w : W) → F w x → IfOk told (G w) → IfOk result (H w)) → LooksAt seen a c result H
looks_both {seen = seen} {a = a} {b = b} {c = c} {told = told} {G = G} first second joins = record {
  keeping = second.keeping;
  endures = endures_then a b c first.endures second.endures;
  stays = stays_then a b c first.stays second.stays;
  on = holds_then a b c second.endures first.on second.on;
  value = λ h.
      let held = stays_held second.stays h in
      let same : seen b.now ≡ seen a.now = ap seen (stays_same first.stays held) in
      joins (seen a.now) (first.value held) (subst (λ w. IfOk told (G w)) same (second.value h));
}

-- of a value that both tell of
pub looks_then : {W T U V E : Type 0} {seen : Database → W} {a b c : State} {x : T} {y : U} {z : V}
    {F : W → T → Type 0} {G : W → U → Type 0} {H : W → V → Type 0}
    → LooksAt {E = E} seen a b (Ok x) F → LooksAt {E = E} seen b c (Ok y) G
    → ((w : W) → F w x → G w y → H w z) → LooksAt {E = E} seen a c (Ok z) H
looks_then first second joins = looks_both first second joins

-- and so of the office, by what the rows of its parts owe to one another
pub looks_joined : {T U V E : Type 0} {a b c : State} {x : T} {y : U} {z : V}
    {F : Parts → T → Type 0} {G : Parts → U → Type 0} {H : World → V → Type 0} → IsKeeping a
    → LooksIn {E = E} a b (Ok x) F → LooksIn {E = E} b c (Ok y) G
    → ((p : Parts) → AreTied p → F p x → G p y → H (assembled p) z) → Looks {E = E} a c (Ok z) H
looks_joined {E = E} {a = a} {c = c} {x = x} {y = y} {F = F} {G = G} keeping first second joins =
    let both : LooksIn {E = E} a c (Ok (tt {0})) (λ p u. F p x × G p y) =
    looks_then first second (λ p is told. (is, told)) in
    looks_by both (λ h told.
    let was = keeping.stored (stays_held both.stays h) in
    joins (parts_of a.now) was.kept.tied told.0 told.1)

-- and where the second was given up, nothing is told
pub looks_failed : {W T U V E : Type 0} {seen : Database → W} {a b c : State} {first : Result T E}
    {second : Result U E} {result : Result V E} {F : W → T → Type 0} {G : W → U → Type 0}
    {H : W → V → Type 0} → LooksAt seen a b first F → LooksAt seen b c second G → IsErr result
    → LooksAt seen a c result H
looks_failed {seen = seen} {a = a} {b = b} {c = c} {result = result} {H = H} before after failed =
    record {
      keeping = after.keeping;
      endures = endures_then a b c before.endures after.endures;
      stays = stays_then a b c before.stays after.stays;
      on = holds_then a b c after.endures before.on after.on;
      value = λ h. IfOk-from_err result (H (seen a.now)) failed;
    }

-- two facts of one result
pub with_both : {T E : Type 0} (result : Result T E) (F G H : T → Type 0) → IfOk result F
    → IfOk result G → ((x : T) → F x → G x → H x) → IfOk result H
with_both (Ok x) F G H f g both = both x f g
with_both (Err e) F G H f g both = tt
