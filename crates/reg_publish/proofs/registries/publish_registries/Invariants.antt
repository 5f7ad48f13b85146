use Rattle.std.proofs.Common.{List, take}
use Rattle.std.specs.List.{flat_map}
use Rattle.std.specs.Option.{option_copied}
use Rattle.reg_history.specs.Overview.{IsOverview}
use Rattle.reg_changes.specs.declared.change.HistoryRecord.{HistoryRecord}
use Rattle.reg_site.specs.Site.{page_files}
use Rattle.reg_publish.specs.Folder.{PlacesSummed}
use Rattle.reg_publish.specs.Told.{pages_of}
use Rattle.reg_publish.proofs.registries.publish_registries.Given as goal

abbrev pub invariant-loop-told : goal.invariant-loop-told
invariant-loop-told g l =
    (records : List HistoryRecord) → IsOverview l.overview records
    → PlacesSummed g.F.Folder.Puts l.fn.folder l.folder l.fn.sums l.sums
    (flat_map (page_files (option_copied l.notes) records) (pages_of (take l.told-index l.pages)))
