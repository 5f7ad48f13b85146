-- The last changes that a history has.
use Rattle.std.specs.Prelude.{ℕ, ◌+◌, ◌-◌, Bool, ◌&&◌, not, nat_eq, if◌then◌else◌, List, [], ◌∷◌, ◌++◌, codes, drop, filter, length, reverse, slice_get, unwrap_or, take}
use Rattle.std.specs.List.{starts_with}
use Rattle.std.specs.Str.{bytes_eq, is_utf8}
use Rattle.reg_history.specs.Chain.{chained}
use Rattle.reg_changes.specs.Recorded.{change_word, description_of, registry_of, value_of}
use Rattle.reg_changes.specs.declared.change.Class.{Class}
use Rattle.reg_changes.specs.declared.change.Class.TheVariants as class
use Rattle.reg_changes.specs.declared.change.HistoryRecord.{HistoryRecord}
use Rattle.reg_changes.specs.declared.change.PublishedChange.{PublishedChange}
use Rattle.reg_changes.specs.declared.change.PublishedChange.TheVariants.{Made, Term}
use Rattle.reg_ranges.specs.Texts.{read_text}
use Rattle.reg_site.specs.Changes.{Changed, urn}

-- bytes as a text; none where they are not UTF-8, as no digest is
abbrev pub text_of : List ℕ → List ℕ
text_of bytes = unwrap_or (read_text is_utf8 bytes) []

-- ---- What a change did, in words

-- what is done when a subject of this class is first published
abbrev pub made_words : Class → List ℕ
made_words class.Range = codes "registry defined"
made_words class.Entry = codes "assigned"
made_words class.Prefix = codes "prefix added"
made_words class.Block = codes "block assigned"

-- how an early allocation stands now, which is held or not
abbrev pub early_words : List ℕ → List ℕ
early_words [] = codes "now until "
early_words (b ∷ held) = codes "now held"

-- how an entry stands now, by its expiry and whether it is held
abbrev pub term_words : List ℕ → List ℕ → List ℕ
term_words [] held = codes "now permanent"
term_words (d ∷ expires) held = early_words held

abbrev pub words_of : PublishedChange → List ℕ
words_of (Made fact) = made_words fact.subject.class
words_of (Term registry value standing) = term_words standing.expires standing.held

-- the day until which an entry stands that is not held
abbrev pub until_day : List ℕ → List ℕ → List ℕ
until_day expires [] = expires
until_day expires (b ∷ held) = []

abbrev pub until_of : PublishedChange → List ℕ
until_of (Made fact) = []
until_of (Term registry value standing) = until_day standing.expires standing.held

-- ---- Moments

-- the first bytes of a moment
abbrev pub front_of : ℕ → List ℕ → List ℕ
front_of count moment = text_of (take count moment)

-- the day of a moment, as YYYY-MM-DD
abbrev pub day_part : List ℕ → List ℕ
day_part moment = front_of 10 moment

-- the month of a moment, as YYYY-MM
abbrev pub month_part : List ℕ → List ℕ
month_part moment = front_of 7 moment

-- ---- The records

-- a range of a new registry
abbrev pub is_range : Changed → Bool
is_range c = bytes_eq c.kind (codes "range")

-- Each registry has one range that begins at 0, and is published with all its ranges. That one is shown as
-- the registry, and the others are not.
abbrev pub with_registry : Changed → Changed
with_registry c =
    if is_range c && starts_with nat_eq c.value (codes "0")
    then record c { register = []; kind = codes "registry"; value = c.register; description = [] }
    else c

-- a record as texts, by its number and its digest
abbrev pub changed : ℕ → HistoryRecord → List ℕ → Changed
changed number r digest = with_registry (record {
  number = number;
  moment = r.moment;
  month = month_part r.moment;
  register = registry_of r.change;
  kind = change_word r.change;
  words = words_of r.change;
  until = until_of r.change;
  value = value_of r.change;
  description = description_of r.change;
  digest = text_of digest;
})

-- records that have numbers from this one on, with their digests
abbrev pub numbered : ℕ → List HistoryRecord → List (List ℕ) → List Changed
numbered number [] digests = []
numbered number (r ∷ records) [] = []
numbered number (r ∷ records) (digest ∷ digests) =
    changed number r digest ∷ numbered (number + 1) records digests

-- the last 200 records with these digests, of which the last one comes first
abbrev pub last_records : List HistoryRecord → List (List ℕ) → List Changed
last_records records digests =
    let before = length records - 200 in
    reverse (numbered (before + 1) (drop before records) (drop before digests))

-- those of them that are shown: all but ranges
abbrev pub last_changes : List HistoryRecord → List (List ℕ) → List Changed
last_changes records digests = filter (λ c. not (is_range c)) (last_records records digests)

-- the same of a history
abbrev pub recent : List HistoryRecord → List Changed
recent records = last_changes records (chained records).digests

-- The id of a feed, by the digest of the first record: it is the same for good.
abbrev pub feed_id : List ℕ → List ℕ
feed_id digest = urn (text_of digest ++ codes "#changes")

abbrev pub first_digest : List (List ℕ) → List ℕ
first_digest digests = unwrap_or (slice_get digests 0) []
