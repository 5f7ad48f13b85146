-- What is done to a disk, and how a file of it takes a place.
use Rattle.std.specs.Prelude.{◌≡◌, ◌⊎◌, ℕ, List, [], ◌∷◌, ◌++◌, ⊤, codes, Result, Ok, Err}
use Rattle.reg_site.specs.Files.{folder_of, path_of}
use Rattle.reg_site.specs.declared.files.File.{File}

-- ---- Steps

-- a step, by the names of the files that it is about
pub data DiskStep : Type 0 where
  -- no file has this name any more, if one had it
  Removed : List ℕ → DiskStep
  -- a new file has this name; its bytes may be any
  Created : List ℕ → DiskStep
  -- that file has just these bytes, and keeps them where the machine stops
  Kept : List ℕ → List ℕ → DiskStep
  -- a file has another name, in place of the one that had it
  Renamed : List ℕ → List ℕ → DiskStep
  -- the names in this folder stay as they are where the machine stops
  NamesKept : List ℕ → DiskStep

-- after the steps so far came one more; where it failed, none
abbrev pub DoesOneStep : {T E : Type 0} → Result T E → List DiskStep → List DiskStep → DiskStep → Type 0
DoesOneStep (Ok x) old new step = new ≡ old ++ step ∷ []
DoesOneStep (Err e) old new step = new ≡ old

-- ---- A file that takes a place

-- by these names: where it is to be, where it is made, and the folder of both
pub record FileNames : Type 0 where
  pub place : List ℕ
  pub beside : List ℕ
  pub folder : List ℕ

-- those of a file of a site, in a folder at this path
abbrev pub names_of : List ℕ → File → FileNames
names_of path file = record {
  place = path ++ (codes "/" ++ path_of file);
  beside = path ++ (codes "/" ++ (folder_of file ++ codes ".new"));
  folder = path ++ (codes "/" ++ folder_of file);
}

-- those of a file of this name, in a folder at this path
abbrev pub names_within : List ℕ → List ℕ → FileNames
names_within folder name = record {
  place = folder ++ (codes "/" ++ name);
  beside = folder ++ (codes "/." ++ (name ++ codes ".new"));
  folder = folder;
}

-- a new file beside the place
abbrev pub begins : FileNames → List DiskStep
begins names = Removed names.beside ∷ Created names.beside ∷ []

-- it is written whole, synchronised, and then takes the place by a renaming
abbrev pub takes_place : FileNames → List ℕ → List DiskStep
takes_place names bytes =
    Removed names.beside ∷ Created names.beside ∷ Kept names.beside bytes
    ∷ Renamed names.beside names.place ∷ []

-- and then its folder is synchronised
abbrev pub replaces : FileNames → List ℕ → List DiskStep
replaces names bytes = takes_place names bytes ++ NamesKept names.folder ∷ []

-- steps are about the file beside the place alone
abbrev pub IsBeside : List ℕ → DiskStep → Type 0
IsBeside beside (Removed name) = name ≡ beside
IsBeside beside (Created name) = name ≡ beside
IsBeside beside (Kept name bytes) = name ≡ beside
IsBeside beside (Renamed from to) = ⊥
IsBeside beside (NamesKept folder) = ⊥

abbrev pub AreBeside : List ℕ → List DiskStep → Type 0
AreBeside beside [] = ⊤
AreBeside beside (step ∷ steps) = IsBeside beside step × AreBeside beside steps

-- nothing was done but to the file beside the place
pub record StaysBeside (beside : List ℕ) (old new : List DiskStep) : Type 0 where
  pub steps : List DiskStep
  pub done : new ≡ old ++ steps
  pub beside_alone : AreBeside beside steps

-- A file is published: the one that is there has its bytes, and nothing was done; or it was written
-- whole, synchronised, renamed, and its folder synchronised, and nothing else was done.
abbrev pub IsPut : FileNames → List ℕ → List ℕ → List DiskStep → List DiskStep → Type 0
IsPut names held bytes old new =
    ((held ≡ bytes) × (new ≡ old)) ⊎ (new ≡ old ++ replaces names bytes)

-- A file is not yet published: nothing was done but to the file beside its place; or it is there
-- whole, and only its folder was not synchronised.
abbrev pub IsStopped : FileNames → List ℕ → List DiskStep → List DiskStep → Type 0
IsStopped names bytes old new =
    StaysBeside names.beside old new ⊎ (new ≡ old ++ takes_place names bytes)

-- then what is beside its place was removed
abbrev pub IsLeft : FileNames → List ℕ → List DiskStep → List DiskStep → Type 0
IsLeft names bytes old new =
    StaysBeside names.beside old new
    ⊎ (new ≡ old ++ (takes_place names bytes ++ Removed names.beside ∷ []))

-- ---- In a folder at a path

-- some file of a site has this place there, and is published
abbrev pub PutsIn : {D : Type 0} → (D → List ℕ → List ℕ) → (D → List DiskStep) → List ℕ → D → D
    → List ℕ → List ℕ → Type 0
PutsIn held done path disk disk' place bytes =
    (file : File) × (place ≡ path_of file)
    × IsPut (names_of path file) (held disk (names_of path file).place) bytes (done disk) (done disk')

-- or it could not be published
abbrev pub LeavesIn : {D : Type 0} → (D → List DiskStep) → List ℕ → D → D → List ℕ → List ℕ → Type 0
LeavesIn done path disk disk' place bytes =
    (file : File) × (place ≡ path_of file)
    × IsLeft (names_of path file) bytes (done disk) (done disk')
