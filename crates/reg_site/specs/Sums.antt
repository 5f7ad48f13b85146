-- The sums of all files, as sha256sum reads them.
use Rattle.std.specs.Prelude.{ℕ, List, [], ◌∷◌, ◌++◌, codes}
use Rattle.std.specs.BTreeMap.{insert_entry}
use Rattle.std.specs.List.{flat_map}
use Rattle.hex.specs.Hex.{encode_lower}
use Rattle.sha2.specs.Sha256.{sha256}
use Rattle.reg_maps.specs.Maps.{text_cmp}
use Rattle.reg_site.specs.declared.sums.Sums.{Sums}

-- files: the place of each, from the folder of the site on, and its bytes
abbrev pub Files : Type 0
Files = List (List ℕ × List ℕ)

-- the digest of some bytes: their SHA-256 in lower-case hexadecimal
abbrev pub digest : List ℕ → List ℕ
digest bytes = encode_lower (sha256 bytes)

-- the places of files by name, each with the digest of its bytes
abbrev pub SumLines : Type 0
SumLines = List (List ℕ × List ℕ)

-- one file more
abbrev pub with_sum : SumLines → List ℕ → List ℕ → SumLines
with_sum entries path bytes = insert_entry text_cmp entries path (digest bytes)

abbrev pub with_sums : SumLines → Files → SumLines
with_sums entries [] = entries
with_sums entries (file ∷ files) = with_sums (with_sum entries file.0 file.1) files

-- the same as the code has them
abbrev pub entries_of : Sums → SumLines
entries_of sums = sums.digests.entries

-- a line of a file: its digest, two spaces and its place
abbrev pub sum_line : List ℕ → List ℕ → List ℕ
sum_line path sum = sum ++ (codes "  " ++ (path ++ codes "\n"))

abbrev pub lines_of : SumLines → List ℕ
lines_of entries = flat_map (λ e. sum_line e.0 e.1) entries

-- the lines of these files by name
abbrev pub sums_text : Files → List ℕ
sums_text files = lines_of (with_sums [] files)
