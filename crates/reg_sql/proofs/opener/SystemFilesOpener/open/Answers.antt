use Rattle.std.proofs.Common.{◌≡◌, ◌⊎◌, ℕ, Bool, List, Option, None, Some, cond, refl, sym, ap, ap₂, subst, ◌∙◌}
use Rattle.std.specs.Prelude.{IfSome, IsTrue}
use Rattle.sqlite.specs.Effect.{Database}
use Rattle.sqlite.specs.Files.{AreFoundIn, FailsToOpenFiles, IsCleanLeft, file_state, image_of}
use Rattle.sqlite.specs.Opening.{is_open_error}
use Rattle.sqlite.specs.Start.{FindsIn}
use Rattle.sqlite.specs.State.{State, IsLive, Opens}
use Rattle.sqlite.specs.declared.error.Error.{Error}
use Rattle.sqlite.specs.declared.error.Error.TheVariants.{SqliteFailure}
use Rattle.sqlite.specs.declared.error.ErrorCode.TheVariants.{CannotOpen, DatabaseBusy, OutOfMemory}
use Rattle.sqlite.specs.declared.file.Leftover.{Leftover}
use Rattle.sqlite_disk.specs.Events.{Event, replay}
use Rattle.sqlite_disk.specs.declared.Disk as disk
use Rattle.sqlite_disk.specs.declared.Files.{Files}
use Rattle.sqlite_wal.specs.Files.{image_at}
use Rattle.sqlite_wal.specs.Recovery.{Image}
use Rattle.reg_sql.specs.Opening.{IsFoundIn, IsUnopened}
use Rattle.reg_sql.proofs.opener.SystemFilesOpener.open.Goals as goal

-- what a connection shows first is what is found in its files
found_first : (image : Image) (s : State) → Opens s × IsLive s → FindsIn image s
    → IsFoundIn image s.now
found_first image s store finds = record {
  holds = λ trees holds. ap (λ (db : Database). db.trees) store.0.clean ∙ finds.holds trees holds;
  reads = subst (λ (db : Database). AreFoundIn image db.trees) (sym store.0.clean) finds.reads;
  sound = (store.1 store.0.is_open).0;
}

-- ---- Where there is no office

abbrev image : List ℕ → List ℕ → Image
image log db = record { log = log; db = db }

abbrev seen : List ℕ → List ℕ → Bool → List Event → List ℕ
seen log db is_log history = (replay (cond is_log log db) history).seen

if_some : {X : Type 0} {P Q : X → Type 0} (o : Option X) → ((x : X) → P x → Q x) → IfSome o P
    → IfSome o Q
if_some None f p = tt
if_some (Some x) f p = f x p

unopened : {D : Type 0} {g : disk.Ghosts D} (held : Image) (e : Error)
    (left : Option (Leftover D g)) → IsTrue (is_open_error e)
    → (left ≡ None → (e ≡ SqliteFailure CannotOpen)
    ⊎ ((e ≡ SqliteFailure OutOfMemory) ⊎ (e ≡ SqliteFailure DatabaseBusy)))
    → IfSome left (λ l. (files : Files D) × (image_of g files ≡ held)
    × (IsCleanLeft l → FailsToOpenFiles files l e))
    → IsUnopened held left e
unopened held e None named none some = none refl
unopened held e (Some l) named none some =
    (named, λ clean. record { files = some.0; held = some.1; cause = some.2 clean })

pub returns-in-Ok : goal.returns-in-Ok
returns-in-Ok g c = λ clean.
    let s = file_state c.in-Ok.conn in
    let store = c.in-Ok.ensures.opened clean in
    record {
      autocommit = store.0.autocommit;
      settled = store.0.clean;
      is_open = store.0.is_open;
      found = found_first (image_at g.T.Start) s store (c.in-Ok.ensures.found clean);
    }

pub returns-in-Err : goal.returns-in-Err
returns-in-Err g c =
    let failed = c.in-Err.ensures in
    unopened (image_at g.T.Start) c.in-Err.error c.in-Err.left failed.named failed.unopened
    (if_some c.in-Err.left (λ l it.
    let same = ap₂ image (ap₂ (seen g.T.Start.log g.T.Start.db) it.1.0 it.1.1)
    (ap₂ (seen g.T.Start.log g.T.Start.db) it.2.0 it.2.1) in
    (it.0, same, λ clean. (it.3 clean).0)) failed.cause)
