-- What a folder has of earlier publications.
use Rattle.std.specs.Prelude.{◌≡◌, ◌⊎◌, ⊤, ℕ, List, [], ◌∷◌, ◌++◌, codes, Option, Some, None, option_map, option_and_then}
use Rattle.std.specs.Option.{option_or}
use Rattle.reg_history.specs.Chain.{HasDigest, chained, header_line}
use Rattle.reg_changes.specs.declared.change.HistoryRecord.{HistoryRecord}
use Rattle.reg_print.specs.Comparing.{behind, until}
use Rattle.reg_ranges.specs.Numbers.{read_number}

-- ---- The record that an index names

-- a record by its number and its digest
abbrev pub Named : Type 0
Named = ℕ × List ℕ

-- what stands in a text behind the first place of this front
abbrev pub behind_first : List ℕ → List ℕ → Option (List ℕ)
behind_first front [] = None
behind_first front (b ∷ text) = option_or (behind front (b ∷ text)) (behind_first front text)

-- a digest up to its quote (34), where what follows it in an index stands there
abbrev pub digest_in : List ℕ → Option (List ℕ)
digest_in text =
    option_and_then (λ parts. option_map (λ _. parts.0) (behind (codes "\",\"registers\":[") parts.1))
    (until 34 text)

-- by the digits of its number and what stands behind them
abbrev pub named_by : List ℕ × List ℕ → Option Named
named_by parts =
    option_and_then
    (λ number. option_map (λ digest. (number, digest))
    (option_and_then digest_in (behind (codes ",\"digest\":\"") parts.1)))
    (read_number parts.0)

-- The record that an index for programs names behind the first `"changes":` in it: its number up to a
-- comma (44), and its digest. None where it is not written so.
abbrev pub named_record : List ℕ → Option Named
named_record text =
    option_and_then named_by
    (option_and_then (until 44) (behind_first (codes "\"changes\":") text))

-- An index names this record: at the first place where it can, it has the number and the digest as the
-- index for programs does.
pub record NamesRecord (text : List ℕ) (number : ℕ) (digest : List ℕ) : Type 0 where
  pub before : List ℕ
  pub digits : List ℕ
  pub after : List ℕ
  pub whole : text ≡ before ++ (codes "\"changes\":" ++ (digits ++ (codes ",\"digest\":\"" ++ (digest
      ++ (codes "\",\"registers\":[" ++ after)))))
  pub read : read_number digits ≡ Some number
  pub first : named_record text ≡ Some (number, digest)

-- a history has the record, or none was named yet
abbrev pub HasRecord : List (List ℕ) → ℕ → List ℕ → Type 0
HasRecord digests number digest =
    HasDigest digests number digest ⊎ ((number ≡ 0) × (digest ≡ []))

-- the index, if there is one, names a record that a history has
abbrev pub IsTied : Option (List ℕ) → List (List ℕ) → Type 0
IsTied None digests = ⊤
IsTied (Some text) digests =
    (number : ℕ) × (digest : List ℕ) × NamesRecord text number digest × HasRecord digests number digest

-- ---- The history that is there

-- the text of the history that is there; of one without a record, where none is
abbrev pub text_there : Option (List ℕ) → List ℕ
text_there None = header_line
text_there (Some text) = text

-- By what is there, these are the records of the history: its text is theirs, and the record that the
-- index names is among them.
pub record IsEarlier (changes index : Option (List ℕ)) (records : List HistoryRecord) : Type 0 where
  pub text : (chained records).text ≡ text_there changes
  pub tied : IsTied index (chained records).digests
