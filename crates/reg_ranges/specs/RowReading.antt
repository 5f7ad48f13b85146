-- How far a reader of CSV records has come.
use Rattle.std.specs.Prelude.{◌≡◌, ℕ, ◌<◌, List, Some}
use Rattle.std.specs.Borrow.{Bor}
use Rattle.csv.specs.Reading.{Ready, Reached, default_config, owned_rows_left, owned_rows_reader, reader_config, reader_state, reader_trim, records, source_of, strip_bom}
use Rattle.csv.specs.declared.iter.ByteRecordsIntoIter.{ByteRecordsIntoIter}
use Rattle.csv.specs.declared.parser.State.TheVariants as st
use Rattle.csv.specs.declared.reader.Trim.TheVariants as trim

-- the records that CSV's defaults make of a text, after a byte order mark
abbrev pub text_rows : List ℕ → List (List (List ℕ))
text_rows text = records default_config (strip_bom text)

-- the reader has read these records of the text
pub record HasRead (text : List ℕ) (rows : List (List (List ℕ)))
    (it : ByteRecordsIntoIter (Bor (List ℕ))) : Type 0 where
  pub trim : reader_trim (owned_rows_reader it) ≡ trim.None
  pub ready : Ready (owned_rows_reader it)
  pub left : 0 < owned_rows_left it
  pub config : reader_config (owned_rows_reader it) ≡ default_config
  pub rest : List ℕ
  pub source : source_of (λ s. Some s.now) (owned_rows_reader it) ≡ Some rest
  pub reached : Reached default_config st.StartRecord (strip_bom text) rows
      (reader_state (owned_rows_reader it)) rest
