-- The files of a published folder that are verified.
use Rattle.std.specs.Prelude.{ℕ, List, ◌++◌, codes}
use Rattle.reg_verify.specs.declared.part.FolderPart.{FolderPart}
use Rattle.reg_verify.specs.declared.part.FolderPart.TheVariants as part

abbrev pub registry_place : List ℕ → List ℕ
registry_place name = codes "registries/" ++ (name ++ codes ".json")

abbrev pub listing_place : List ℕ → List ℕ
listing_place name = codes "registries/" ++ (name ++ codes ".csv")

-- the place of a file, from the folder on
abbrev pub place_of : FolderPart → List ℕ
place_of part.History = codes "changes.csv"
place_of part.Index = codes "index.json"
place_of (part.Registry name) = registry_place name
place_of (part.Listing name) = listing_place name
place_of part.Pool = codes "pool.json"
place_of part.Blocks = codes "blocks.csv"
