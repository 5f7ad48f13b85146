use Rattle.std.proofs.Common.{ap, subst, sym, ◌∙◌}
use Rattle.sqlite.specs.Effect.{Database}
use Rattle.sqlite.specs.Files.{AreFoundIn, Finds, IsOpened, file_state, image_of}
use Rattle.sqlite.specs.Held.{Held}
use Rattle.sqlite_disk.specs.declared.Disk as disk
use Rattle.sqlite_disk.specs.declared.Files.{Files}
use Rattle.sqlite_store.specs.declared.store.FileStore.{FileStore}
use Rattle.reg_sql.specs.Opening.{IsFoundFirst}
use Rattle.reg_sql.proofs.copier.connect.Goals as goal

-- what a connection shows first is what is found in its files
found_first : {D : Type 0} {g : disk.Ghosts D} (files : Files D) (c : Held (FileStore D g))
    → IsOpened c → Finds files c → IsFoundFirst (image_of g files) (file_state c)
found_first {g = g} files c store found = record {
  autocommit = store.0.autocommit;
  settled = store.0.clean;
  is_open = store.0.is_open;
  found = record {
    holds = λ trees holds. ap (λ (db : Database). db.trees) store.0.clean ∙ found.holds trees holds;
    reads = subst (λ (db : Database). AreFoundIn (image_of g files) db.trees) (sym store.0.clean)
        found.reads;
    sound = (store.1 store.0.is_open).0;
  };
}

pub returns-in-Ok-clause-copies : goal.returns-in-Ok-clause-copies
returns-in-Ok-clause-copies c = λ clean. (
  c.args.files,
  found_first c.args.files c.in-Ok.conn (c.in-Ok.ensures.opened clean) (c.in-Ok.ensures.found clean),
)

pub returns-in-Ok-clause-reads : goal.returns-in-Ok-clause-reads
returns-in-Ok-clause-reads c = λ clean.
    found_first c.args.files c.in-Ok.conn (c.in-Ok.ensures.opened clean) (c.in-Ok.ensures.found clean)
