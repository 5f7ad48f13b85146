-- What a writer of CSV has written.
use Rattle.std.specs.Prelude.{◌≡◌, ℕ, List, [], ◌∷◌, ◌++◌, Option, Some, false}
use Rattle.csv.specs.Writing.{default_writer, writer_setup, fields_written, has_written, text_written}
use Rattle.csv.specs.declared.writer.Writer.{Writer}
use Rattle.reg_print.specs.Listing.{csv_text}

-- These records, each to its end, and nothing else. `contents` is what lies below the writer.
pub record HasWritten {W : Type 0} (contents : W → Option (List ℕ)) (writer : Writer W)
    (records : List (List (List ℕ))) : Type 0 where
  pub text : text_written contents writer ≡ Some (csv_text records)
  pub fields : fields_written writer ≡ 0
  pub wrote : has_written writer ≡ false
  pub setup : writer_setup writer ≡ default_writer

-- one record more, whatever was written before
abbrev pub Adds : {W : Type 0} → (W → Option (List ℕ)) → Writer W → Writer W → List (List ℕ)
    → Type 0
Adds contents old new fields =
    (records : List (List (List ℕ))) → HasWritten contents old records
    → HasWritten contents new (records ++ fields ∷ [])
