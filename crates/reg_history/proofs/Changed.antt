-- When a registry was last changed.
use Rattle.std.proofs.Common.{◌≡◌, ℕ, ◌+◌, ◌<◌, List, [], ◌∷◌, ◌++◌, length, take, get_or, refl, sym, ap, ◌∙◌, if◌then◌else◌}
use Rattle.std.specs.Str.{bytes_eq}
use Rattle.reg_print.proofs.PrintedTokens.{one_more}
use Rattle.reg_changes.specs.Recorded.{changed_after, registry_of}
use Rattle.reg_changes.specs.declared.change.HistoryRecord.{HistoryRecord}

-- by these records and one more
pub changed_last : (name known : List ℕ) (records : List HistoryRecord) (r : HistoryRecord)
    → (if bytes_eq (registry_of r.change) name then r.moment else changed_after name known records)
    ≡ changed_after name known (records ++ r ∷ [])
changed_last name known [] r = refl
changed_last name known (x ∷ records) r =
    changed_last name (if bytes_eq (registry_of x.change) name then x.moment else known) records r

pub changed_more : (name known : List ℕ) (records : List HistoryRecord) (i : ℕ) (r : HistoryRecord)
    → i < length records → r ≡ get_or records i r
    → (if bytes_eq (registry_of r.change) name then r.moment
    else changed_after name known (take i records))
    ≡ changed_after name known (take (i + 1) records)
changed_more name known records i r h is =
    changed_last name known (take i records) r
    ∙ ap (changed_after name known) (sym (one_more records i r h is))
