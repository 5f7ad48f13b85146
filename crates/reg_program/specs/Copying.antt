-- The job that copies an office.
use Rattle.std.specs.Prelude.{◌≡◌, ◌⊎◌, ◌++◌, ℕ, ℤ, List, Option, codes, length}
use Rattle.std.specs.Fmt.{decimal, signed_decimal}
use Rattle.std.specs.Io.KnownBytes.{Appends}
use Rattle.reg_core.specs.Request.{request_rows}
use Rattle.reg_core.specs.World.{World}
use Rattle.reg_source.specs.Disk.{DiskStep, FileNames, IsLeft, replaces}
use Rattle.reg_program.specs.Undone.{IsOfPrinting}
use Rattle.reg_program.specs.declared.faults.Undone.{Undone}

-- how many requests there are
abbrev pub requests_in : World → ℕ
requests_in w = length (request_rows w.requests)

-- a line with the version of a copy, and how many requests it has
abbrev pub copied_line : ℤ → ℕ → List ℕ
copied_line version requests =
    codes "copied version " ++ (signed_decimal version ++ (codes ", "
    ++ (decimal requests ++ codes " requests\n")))

-- a copy of this version, with so many requests, was made as `Copied` says, and the line tells both
abbrev pub PrintsCopied : (ℤ → ℕ → Type 0) → Option (List ℕ) → Option (List ℕ) → Type 0
PrintsCopied Copied had has =
    (version : ℤ) × (requests : ℕ) × Copied version requests
    × Appends had has (copied_line version requests)

-- Why there is no copy, or no line of it: nothing was done; or the place was not taken, or its folder
-- was not synchronised; or the copy is there whole, and only printing failed.
abbrev pub IsUncopied : FileNames → List ℕ → List DiskStep → List DiskStep → Undone → Type 0
IsUncopied names bytes old new why =
    (new ≡ old) ⊎ (IsLeft names bytes old new
    ⊎ ((new ≡ old ++ replaces names bytes) × IsOfPrinting why))
