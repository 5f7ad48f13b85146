-- What is printed of capabilities.
use Rattle.std.specs.Prelude.{◌≡◌, ◌∷◌, ◌++◌, ◌*ℤ◌, ℕ, [], pos, List, Option, take, codes}
use Rattle.std.specs.List.{AllZip}
use Rattle.std.specs.List.Sorted.{IsPermutation, IsSortedByKey}
use Rattle.csv.specs.declared.writer.Writer.{Writer}
use Rattle.jiff.specs.Types.{DateTime}
use Rattle.jiff.specs.Names.{iso_datetime_text}
use Rattle.jiff.specs.Words.{civil_nanos}
use Rattle.reg_maps.specs.Maps.{pair_cmp, text_cmp}
use Rattle.reg_core.specs.World.{World}
use Rattle.reg_core.specs.CapRows.{cap_rows}
use Rattle.reg_core.specs.declared.capability.CapRow.{CapRow}
use Rattle.reg_print.specs.Listing.{csv_text}
use Rattle.reg_print.specs.Records.{Adds}
use Rattle.reg_core.specs.Capability.{kind_word}
use Rattle.reg_program.specs.Printing.{Prints}

-- ---- One capability

-- what a clock at UTC shows then, as RFC 3339 writes it
abbrev pub IsEnd : ℕ → List ℕ → Type 0
IsEnd until text = (shown : DateTime) × (civil_nanos shown ≡ pos until *ℤ pos 1_000_000_000)
    × (text ≡ iso_datetime_text shown ++ codes "Z")

abbrev pub header : List (List ℕ)
header = codes "Account" ∷ codes "Kind" ∷ codes "Until" ∷ codes "Digest" ∷ []

-- the account, the word of the kind, the end, and the first digits of the digest
abbrev pub IsRecord : CapRow → List (List ℕ) → Type 0
IsRecord row fields = (end : List ℕ) × IsEnd row.cap.until end
    × (fields ≡ row.cap.account ∷ kind_word row.cap.kind ∷ end ∷ take 12 row.digest ∷ [])

-- a writer is given the record of a capability, and no more
abbrev pub AddsTokenRow : {W : Type 0} → (W → Option (List ℕ)) → Writer W → Writer W → CapRow → Type 0
AddsTokenRow contents old new row =
    (fields : List (List ℕ)) × IsRecord row fields × Adds contents old new fields

-- ---- All of them

-- the header, and the record of each, in this order
pub record HasRecords (rows : List CapRow) (text : List ℕ) : Type 0 where
  pub records : List (List (List ℕ))
  pub each : AllZip IsRecord rows records
  pub whole : text ≡ csv_text (header ∷ records)

-- by account and then by digest
abbrev pub place : CapRow → List ℕ × List ℕ
place row = (row.cap.account, row.digest)

-- all of them, by account and then by digest
pub record IsTokenTable (rows : List CapRow) (text : List ℕ) : Type 0 where
  pub ordered : List CapRow
  pub same : IsPermutation rows ordered
  pub in_order : IsSortedByKey place (pair_cmp text_cmp text_cmp) ordered
  pub printed : HasRecords ordered text

-- all capabilities are printed, and nothing has changed
abbrev pub IsListed : Option (List ℕ) → Option (List ℕ) → World → World → Type 0
IsListed had has old new = (new ≡ old) × Prints had has (IsTokenTable (cap_rows old.caps))
