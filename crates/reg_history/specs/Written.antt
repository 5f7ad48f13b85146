-- The histories that this program writes.
use Rattle.std.specs.Prelude.{◌≡◌, true, List, ◌∷◌}
use Rattle.std.specs.List.{All}
use Rattle.csv.specs.Records.{AllText}
use Rattle.reg_history.specs.Chain.{chained, change_fields}
use Rattle.reg_changes.specs.declared.change.HistoryRecord.{HistoryRecord}

-- each field of the record is a text, in UTF-8
abbrev pub IsText : HistoryRecord → Type 0
IsText r = AllText (r.moment ∷ change_fields r.change)

-- each record is of texts, and none is earlier than the one before it
pub record CanBeWritten (records : List HistoryRecord) : Type 0 where
  pub texts : All IsText records
  pub in_order : (chained records).in_order ≡ true
