use Rattle.std.proofs.Common.{◌≡◌, map}
use Rattle.std.specs.Prelude.{All}
use Rattle.std.specs.BTreeMap.{IsOrdered}
use Rattle.std.specs.Map.Iter.{deref_pair}
use Rattle.reg_maps.specs.Maps.{text_cmp}
use Rattle.reg_maps.specs.Groups.{rows_in}
use Rattle.reg_store.specs.Lists.File.{advice_world}
use Rattle.reg_store.proofs.WaitingFiles.{files_of}
use Rattle.reg_store.proofs.lists.file.waiting_in.Given as goal

abbrev pub invariant-loop-account : goal.invariant-loop-account
invariant-loop-account l = record {
  listed : l.files.items
      ≡ files_of (advice_world l.panels l.opinions) (rows_in (map deref_pair l.yielded));
  ordered : All (λ e. IsOrdered text_cmp e.1) (map deref_pair l.yielded);
}
