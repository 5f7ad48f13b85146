-- What is published in a folder.
use Rattle.std.specs.Prelude.{◌≡◌, ℕ, List, [], ◌∷◌}
use Rattle.reg_site.specs.Sums.{SumLines, Files, entries_of, with_sum}
use Rattle.reg_site.specs.declared.sums.Sums.{Sums}

-- files are published in a folder, one after the other, and nothing else is done there
abbrev pub Places : {F : Type 0} → (F → F → List ℕ → List ℕ → Type 0) → F → F → Files → Type 0
Places Puts folder folder' [] = folder' ≡ folder
Places {F} Puts folder folder' (file ∷ files) =
    (next : F) × Puts folder next file.0 file.1 × Places Puts next folder' files

-- a file is published, and its sum is added
abbrev pub PutsSummed : {F : Type 0} → (F → F → List ℕ → List ℕ → Type 0) → F × SumLines → F × SumLines
    → List ℕ → List ℕ → Type 0
PutsSummed Puts before after path bytes =
    Puts before.0 after.0 path bytes × (after.1 ≡ with_sum before.1 path bytes)

-- files are published, and their sums are added
pub record PlacesSummed {F : Type 0} (Puts : F → F → List ℕ → List ℕ → Type 0) (folder folder' : F)
    (sums sums' : Sums) (files : Files) : Type 0 where
  pub placed : Places (PutsSummed Puts) (folder, entries_of sums) (folder', entries_of sums') files
