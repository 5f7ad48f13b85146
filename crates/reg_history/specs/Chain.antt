-- The records of a history as a text, each of which is tied to all before it.
use Rattle.std.specs.Prelude.{◌≡◌, ◌≤◌, Some, ℕ, ◌+◌, ◌-◌, Bool, true, ◌&&◌, List, [], ◌∷◌, ◌++◌, length, map, codes, slice_get, unwrap_or}
use Rattle.std.specs.Fmt.{decimal}
use Rattle.std.specs.Ordering.{is_le}
use Rattle.csv.specs.Writing.{default_writer, row_body}
use Rattle.hex.specs.Hex.{encode_lower}
use Rattle.sha2.specs.Sha256.{sha256}
use Rattle.reg_maps.specs.Maps.{text_cmp}
use Rattle.reg_changes.specs.Replay.{Said, nothing, replay}
use Rattle.reg_changes.specs.Words.{class_word}
use Rattle.reg_changes.specs.declared.change.PublishedChange.{PublishedChange}
use Rattle.reg_changes.specs.declared.change.PublishedChange.TheVariants.{Made, Term}
use Rattle.reg_changes.specs.declared.change.HistoryRecord.{HistoryRecord}

-- ---- One record

-- a change that was published at a moment
abbrev pub record_of : List ℕ → PublishedChange → HistoryRecord
record_of moment change = record { moment = moment; change = change }

-- the fields of a change
abbrev pub change_fields : PublishedChange → List (List ℕ)
change_fields (Made fact) =
    fact.subject.registry ∷ class_word fact.subject.class ∷ fact.subject.value
    ∷ fact.details.description ∷ fact.details.policy ∷ fact.details.first
    ∷ fact.details.standing.expires ∷ fact.details.standing.held ∷ fact.details.assignee ∷ []
change_fields (Term registry value standing) =
    registry ∷ codes "term" ∷ value ∷ [] ∷ [] ∷ [] ∷ standing.expires ∷ standing.held ∷ [] ∷ []

-- the fields of a record before its digest
abbrev pub record_fields : List ℕ → HistoryRecord → List (List ℕ)
record_fields number r = number ∷ r.moment ∷ change_fields r.change

-- the bytes of a record of these fields, up to and including the comma before its digest
abbrev pub front_of : List (List ℕ) → List ℕ
front_of fields = row_body default_writer fields ++ codes ","

-- its digest: of the digits of the record before, and these bytes
abbrev pub digest_of : List ℕ → List (List ℕ) → List ℕ
digest_of before fields = encode_lower (sha256 (before ++ front_of fields))

-- all its bytes
abbrev pub line_of : List ℕ → List (List ℕ) → List ℕ
line_of before fields = front_of fields ++ (digest_of before fields ++ codes "\n")

-- the same of a record of this number
abbrev pub front : ℕ → HistoryRecord → List ℕ
front number r = front_of (record_fields (decimal number) r)

abbrev pub digest : List ℕ → ℕ → HistoryRecord → List ℕ
digest before number r = digest_of before (record_fields (decimal number) r)

abbrev pub line : List ℕ → ℕ → HistoryRecord → List ℕ
line before number r = line_of before (record_fields (decimal number) r)

-- changes that are published at a moment
abbrev pub at : List ℕ → List PublishedChange → List HistoryRecord
at moment changes = map (record_of moment) changes

-- ---- All records

-- a history so far: its text, the digest of each record, and the moment of the last
pub record Chained : Type 0 where
  pub text : List ℕ
  pub digests : List (List ℕ)
  pub moment : List ℕ
  -- whether no moment is earlier than that of the record before it
  pub in_order : Bool

-- the last digest; nothing where there is none
abbrev pub last_digest : List (List ℕ) → List ℕ
last_digest digests = unwrap_or (slice_get digests (length digests - 1)) []

-- the number of the record that comes next
abbrev pub next_number : List (List ℕ) → ℕ
next_number digests = length digests + 1

-- what the next record adds to the text
abbrev pub next_line : List (List ℕ) → HistoryRecord → List ℕ
next_line digests r = line (last_digest digests) (next_number digests) r

abbrev pub next_digest : List (List ℕ) → HistoryRecord → List ℕ
next_digest digests r = digest (last_digest digests) (next_number digests) r

-- one record more
abbrev pub with_record : Chained → HistoryRecord → Chained
with_record c r = record {
  text = c.text ++ next_line c.digests r;
  digests = c.digests ++ next_digest c.digests r ∷ [];
  moment = r.moment;
  in_order = c.in_order && is_le (text_cmp c.moment r.moment);
}

-- records, one after the other
abbrev pub chain_from : Chained → List HistoryRecord → Chained
chain_from c [] = c
chain_from c (r ∷ rs) = chain_from (with_record c r) rs

-- the record of the columns
abbrev pub header_line : List ℕ
header_line =
    codes "Number,Moment,Register,Change,Value,Description,Policy,First,Expires,Held,Assignee,Digest\n"

-- a history without a record
abbrev pub begun : Chained
begun = record { text = header_line; digests = []; moment = []; in_order = true }

-- a history with these records
abbrev pub chained : List HistoryRecord → Chained
chained records = chain_from begun records

-- what its records say
abbrev pub says : List HistoryRecord → Said
says records = replay nothing (map (λ r. r.change) records)

-- the record of this number has this digest
abbrev pub HasDigest : List (List ℕ) → ℕ → List ℕ → Type 0
HasDigest digests number digest =
    (1 ≤ number) × (number ≤ length digests) × (slice_get digests (number - 1) ≡ Some digest)
