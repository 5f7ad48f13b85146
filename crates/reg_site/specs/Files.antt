-- The files of a site, and their places.
use Rattle.std.specs.Prelude.{ℕ, List, [], ◌++◌, codes}
use Rattle.reg_blocks.specs.declared.size.Size.{Size}
use Rattle.reg_blocks.specs.declared.size.Size.TheVariants.{MaL, MaM, MaS}
use Rattle.reg_site.specs.declared.files.File.{File}
use Rattle.reg_site.specs.declared.files.File.TheVariants.{RegistryPage, RegistryCsv, RegistryTree, RegistryRecords, BlocksPage, BlocksListing, Assignments, Pool, Style, Changes, ChangesPage, ChangesFeed, Index, IndexTree, Sums}

-- the folder of a file, with the slash after it; none is nothing
abbrev pub folder_of : File → List ℕ
folder_of (RegistryPage name) = codes "registries/"
folder_of (RegistryCsv name) = codes "registries/"
folder_of (RegistryTree name) = codes "registries/"
folder_of (RegistryRecords name) = codes "registries/"
folder_of BlocksPage = []
folder_of BlocksListing = []
folder_of (Assignments size) = []
folder_of Pool = []
folder_of Style = []
folder_of Changes = []
folder_of ChangesPage = []
folder_of ChangesFeed = []
folder_of Index = []
folder_of IndexTree = []
folder_of Sums = []

-- IEEE's names of its files
abbrev pub assignments_name : Size → List ℕ
assignments_name MaL = codes "oui"
assignments_name MaM = codes "mam"
assignments_name MaS = codes "oui36"

-- the name of a file before its dot
abbrev pub stem_of : File → List ℕ
stem_of (RegistryPage name) = name
stem_of (RegistryCsv name) = name
stem_of (RegistryTree name) = name
stem_of (RegistryRecords name) = name
stem_of BlocksPage = codes "blocks"
stem_of BlocksListing = codes "blocks"
stem_of (Assignments size) = assignments_name size
stem_of Pool = codes "pool"
stem_of Style = codes "style"
stem_of Changes = codes "changes"
stem_of ChangesPage = codes "changes"
stem_of ChangesFeed = codes "changes"
stem_of Index = codes "index"
stem_of IndexTree = codes "index"
stem_of Sums = codes "SHA256SUMS"

-- the name of a file from its dot on; the sums have none
abbrev pub suffix_of : File → List ℕ
suffix_of (RegistryPage name) = codes ".html"
suffix_of (RegistryCsv name) = codes ".csv"
suffix_of (RegistryTree name) = codes ".json"
suffix_of (RegistryRecords name) = codes ".xml"
suffix_of BlocksPage = codes ".html"
suffix_of BlocksListing = codes ".csv"
suffix_of (Assignments size) = codes ".csv"
suffix_of Pool = codes ".json"
suffix_of Style = codes ".css"
suffix_of Changes = codes ".csv"
suffix_of ChangesPage = codes ".html"
suffix_of ChangesFeed = codes ".atom"
suffix_of Index = codes ".html"
suffix_of IndexTree = codes ".json"
suffix_of Sums = []

-- the place of a file, from the folder of the site on
abbrev pub path_of : File → List ℕ
path_of file = folder_of file ++ (stem_of file ++ suffix_of file)
