-- What is shown of a history.
use Rattle.std.specs.Prelude.{◌≡◌, ℕ, ◌-◌, List, [], ◌∷◌, ◌++◌, Some, length, map, drop, slice_get, unwrap_or}
use Rattle.std.specs.BTreeMap.{BTreeMap, Updates, get}
use Rattle.reg_maps.specs.Maps.{text_cmp}
use Rattle.reg_history.specs.Chain.{chained, next_digest, next_line, record_of}
use Rattle.reg_changes.specs.Recorded.{last_changed, registry_of}
use Rattle.reg_history.specs.declared.chain.RecordLine.{RecordLine}
use Rattle.reg_changes.specs.declared.change.PublishedChange.{PublishedChange}
use Rattle.reg_changes.specs.declared.change.HistoryRecord.{HistoryRecord}
use Rattle.reg_history.specs.declared.overview.Overview.{Overview}
use Rattle.reg_history.specs.declared.overview.Tied.{Tied}

-- a change that was published at a moment, with its digest
abbrev pub tied : List ℕ → PublishedChange → List ℕ → Tied
tied moment change digest = record { row = record_of moment change; digest = digest }

-- when a registry was last changed, by its name; nothing where that is not known
abbrev pub moment_by : BTreeMap (List ℕ) (List ℕ) → List ℕ → List ℕ
moment_by changed name = unwrap_or (get text_cmp changed name) []

-- the last 200 of a list
abbrev pub last_of : {X : Type 0} → List X → List X
last_of xs = drop (length xs - 200) xs

-- This is shown of a history with these records.
pub record IsOverview (o : Overview) (records : List HistoryRecord) : Type 0 where
  pub counted : o.count ≡ length (chained records).digests
  pub first : o.first ≡ slice_get (chained records).digests 0
  pub last : o.last ≡ slice_get (chained records).digests (length (chained records).digests - 1)
  pub rows : map (λ t. t.row) o.recent.items ≡ last_of records
  pub digests : map (λ t. t.digest) o.recent.items ≡ last_of (chained records).digests
  pub changed : (name : List ℕ) → moment_by o.changed name ≡ last_changed records name

-- ---- One record more

-- it is noted when the registry of a change was changed
abbrev pub Notes : BTreeMap (List ℕ) (List ℕ) → BTreeMap (List ℕ) (List ℕ) → List ℕ → PublishedChange → Type 0
Notes changed changed' moment change = Updates text_cmp changed changed' (registry_of change) (Some moment)

-- a record came to what is shown, with this line
pub record AddsToOverview (o : Overview) (records : List HistoryRecord) (r : HistoryRecord)
    (l : RecordLine) : Type 0 where
  pub grown : IsOverview o (records ++ r ∷ [])
  pub line : l.bytes.items ≡ next_line (chained records).digests r
  pub digest : l.digest ≡ next_digest (chained records).digests r
