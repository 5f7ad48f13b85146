-- How far a reader of the records of a history has come.
use Rattle.std.specs.Prelude.{◌≡◌, ℕ, List, [], ◌∷◌, ◌++◌, Some}
use Rattle.std.specs.Borrow.{Bor}
use Rattle.std.specs.Str.{IsUtf8}
use Rattle.csv.specs.Machine.{next_record}
use Rattle.csv.specs.Reading.{Ready, default_config, reader_config, reader_state, reader_trim, source_of, strip_bom}
use Rattle.csv.specs.declared.parser.State.TheVariants as st
use Rattle.csv.specs.declared.reader.Trim.TheVariants as trim
use Rattle.reg_history.specs.Chain.{record_fields}
use Rattle.reg_changes.specs.declared.change.HistoryRecord.{HistoryRecord}
use Rattle.reg_history.specs.declared.reading.Records.{Records}

-- this text comes next; it may have lost a byte order mark
pub record IsAt (records : Records) (text : List ℕ) : Type 0 where
  pub trim : reader_trim records.reader ≡ trim.None
  pub ready : Ready records.reader
  pub config : reader_config records.reader ≡ default_config
  pub state : reader_state records.reader ≡ st.StartRecord
  pub source : strip_bom text ≡ text
      → source_of (λ (s : Bor (List ℕ)). Some s.now) records.reader ≡ Some text

-- a text begins with the fields of the record, after some number and before some digest
pub record BeginsWithRow (text : List ℕ) (r : HistoryRecord) (rest : List ℕ) : Type 0 where
  pub number : List ℕ
  pub digest : List ℕ
  pub row : next_record default_config st.StartRecord [] [] text
      ≡ Some (record_fields number r ++ digest ∷ [], st.StartRecord, rest)
  pub utf8 : IsUtf8 number
  pub plain : strip_bom text ≡ text
