-- The record that an index names.
use Rattle.std.specs.Prelude.{◌≡◌, ◌⊎◌, ℕ, List, [], Option, Some, None, codes, if◌then◌else◌, option_and_then, string_bytes}
use Rattle.std.specs.Str.{is_utf8}
use Rattle.serde_json.specs.Data.{Data}
use Rattle.serde_json.specs.Read.{read}
use Rattle.serde_json.specs.Find.{get, as_number, as_str, as_u64}
use Rattle.reg_history.specs.Chain.{HasDigest}
use Rattle.reg_verify.specs.declared.index.Named.{Named}

-- how many changes there are, and the digits of the digest of the last one
abbrev pub NamedRecord : Type 0
NamedRecord = ℕ × List ℕ

abbrev pub record_of : Named → NamedRecord
record_of named = (named.changes, string_bytes named.digest)

-- the members `changes` and `digest` of a value of JSON
abbrev pub changes_in : Data → Option ℕ
changes_in json = option_and_then as_u64 (option_and_then as_number (get (codes "changes") json))

abbrev pub digest_in : Data → Option (List ℕ)
digest_in json = option_and_then as_str (get (codes "digest") json)

abbrev pub named_by : Option ℕ → Option (List ℕ) → Option NamedRecord
named_by (Some changes) (Some digest) = Some (changes, digest)
named_by (Some changes) None = None
named_by None digest = None

abbrev pub named_in : Data → Option NamedRecord
named_in json = named_by (changes_in json) (digest_in json)

-- the record that the bytes of an index name, as JSON (RFC 8259)
unfoldable pub named_record : List ℕ → Option NamedRecord
named_record bytes = if is_utf8 bytes then option_and_then named_in (read bytes) else None

-- A history with these digests has this record: no change and no digest, or the digest of that number.
abbrev pub IsInHistory : List (List ℕ) → NamedRecord → Type 0
IsInHistory digests named =
    ((named.0 ≡ 0) × (named.1 ≡ [])) ⊎ HasDigest digests named.0 named.1
