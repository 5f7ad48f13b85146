-- What an office that is served is asked, and what its answers tell.
use Rattle.std.specs.Prelude.{◌≡◌, ◌++◌, ℕ, List, codes}
use Rattle.reg_print.specs.declared.answer.Format.{Format}
use Rattle.reg_print.specs.declared.answer.Format.TheVariants.{Csv, Json}
use Rattle.reg_core.specs.declared.command.PublicCommand.{PublicCommand}
use Rattle.reg_core.specs.declared.command.PublicCommand.TheVariants.{Registries, Registry, RegistryCsv, PoolList, BlocksCsv}
use Rattle.reg_core.specs.declared.holding.Listed.{Listed}
use Rattle.reg_core.specs.declared.page.Page.{Page}
use Rattle.reg_core.specs.declared.told.Told.{Told}
use Rattle.reg_core.specs.declared.told.Told.TheVariants as tells

-- the path at which an office answers a command, and the format of the answer
abbrev pub path_of : PublicCommand → List ℕ
path_of Registries = codes "/registries"
path_of (Registry name) = codes "/registries/" ++ name
path_of (RegistryCsv name) = codes "/listings/registries/" ++ name
path_of PoolList = codes "/pool"
path_of BlocksCsv = codes "/listings/blocks"

abbrev pub format_of : PublicCommand → Format
format_of Registries = Json
format_of (Registry name) = Json
format_of (RegistryCsv name) = Csv
format_of PoolList = Json
format_of BlocksCsv = Csv

-- the bytes of the request for a command, without a token (RFC 9112)
abbrev pub asking_text : PublicCommand → List ℕ
asking_text command =
    codes "GET " ++ (path_of command
    ++ codes " HTTP/1.1\r\nHost: 127.0.0.1\r\nConnection: close\r\n\r\n")

-- this is told by an answer to this command; the listing of a registry is not read
abbrev pub IsToldBy : PublicCommand → Told → Type 0
IsToldBy Registries told = (names : List (List ℕ)) × (told ≡ tells.Names names)
IsToldBy (Registry name) told = (page : Page) × (told ≡ tells.Page page) × (page.name ≡ name)
IsToldBy (RegistryCsv name) told = ⊥
IsToldBy PoolList told = (prefixes : List ℕ) × (told ≡ tells.Pool prefixes)
IsToldBy BlocksCsv told = (rows : List Listed) × (told ≡ tells.Blocks rows)
