-- The laws of the published site.
use Rattle.std.specs.Prelude.{◌≡◌, ◌⊎◌, ℕ, true, List, [], ◌++◌, codes, Option}
use Rattle.std.specs.List.{AllByRecursion}
use Rattle.reg_blocks.specs.Block.{SizedPrefix}
use Rattle.reg_blocks.specs.Digits.{block_text}
use Rattle.reg_blocks.specs.Size.{word_of}
use Rattle.reg_early.specs.Moment.{is_in_clock, utc_day}
use Rattle.reg_core.specs.Answer.{told}
use Rattle.reg_core.specs.Holding.{listed_row, masked}
use Rattle.reg_core.specs.Names.{is_name}
use Rattle.reg_core.specs.View.{Published, View, published}
use Rattle.reg_core.specs.World.{World}
use Rattle.reg_core.specs.declared.command.Command.TheVariants.{Public}
use Rattle.reg_core.specs.declared.command.PublicCommand.{PublicCommand}
use Rattle.reg_core.specs.declared.command.PublicCommand.TheVariants.{Registry, RegistryCsv}
use Rattle.reg_core.specs.declared.holding.Holder.{Holder}
use Rattle.reg_core.specs.declared.holding.Listed.{Listed}
use Rattle.reg_core.specs.declared.page.Page.{Page}
use Rattle.reg_core.specs.declared.reply.Reply.TheVariants.{Accepted}
use Rattle.reg_core.specs.declared.told.Told.TheVariants as tells
use Rattle.reg_history.specs.Chain.{chained}
use Rattle.reg_changes.specs.declared.change.HistoryRecord.{HistoryRecord}
use Rattle.reg_pages.specs.Notes.{desk, entry_thing}
use Rattle.reg_pages.specs.declared.notes.Notes.{Notes}
use Rattle.reg_pages.specs.Blocks.{block_row, row_by}
use Rattle.reg_pages.specs.Noted.{noted_in}
use Rattle.reg_site.specs.Site.{blocks_at, pages_at, prefixes_at, site, site_files, steady_files, told_to_all}

-- ---- The same registers, the same bytes

-- two offices that publish the same registers publish the same site at a moment, with the same notes and
-- the same history, whatever else they hold
abbrev pub SameRegistersSameSite : Type 0
SameRegistersSameSite =
    (notes : Option Notes) (records : List HistoryRecord) (w v : World) (moment : ℕ)
    → published w ≡ published v
    → site notes records (published w) moment ≡ site notes records (published v) moment

-- what a site is made of is what each caller is told, whoever it is
abbrev pub SitesAreOfAnswers : Type 0
SitesAreOfAnswers =
    (v : View) (moment : ℕ) (command : PublicCommand) → is_in_clock moment ≡ true
    → told_to_all v.published moment command ≡ told v moment (Public command)

-- a registry that is told is listed as the same page
abbrev pub ListingsAreOfPages : Type 0
ListingsAreOfPages =
    (p : Published) (moment : ℕ) (name : List ℕ) (page : Page)
    → told_to_all p moment (Registry name) ≡ Accepted (tells.Page page)
    → told_to_all p moment (RegistryCsv name) ≡ Accepted (tells.Sheet page)

-- At two moments of a day all files are the same but the first page, the index for programs, and the
-- sums, where the history is the same.
abbrev pub MomentsStandOnTheIndex : Type 0
MomentsStandOnTheIndex =
    (notes : Option Notes) (records : List HistoryRecord) (p : Published) (m n : ℕ) → utc_day m ≡ utc_day n
    → steady_files notes (chained records).text records (chained records).digests (pages_at p m)
    (prefixes_at p m) (blocks_at p m)
    ≡ steady_files notes (chained records).text records (chained records).digests (pages_at p n)
    (prefixes_at p n) (blocks_at p n)

-- ---- Places

-- A place in the folder of a site, or in `registries` there: a name of letters, digits and dashes, a
-- dot, and such a name.
pub record IsNamedInside (path : List ℕ) : Type 0 where
  pub folder : List ℕ
  pub stem : List ℕ
  pub extension : List ℕ
  pub whole : path ≡ folder ++ (stem ++ (codes "." ++ extension))
  pub here : (folder ≡ []) ⊎ (folder ≡ codes "registries/")
  pub named : is_name stem ≡ true
  pub typed : is_name extension ≡ true

-- that, or the one name without a dot
abbrev pub PathStaysInside : List ℕ → Type 0
PathStaysInside path = IsNamedInside path ⊎ (path ≡ codes "SHA256SUMS")

-- no file leaves the folder of the site, where the registries have names of their form
abbrev pub FilesStayInside : Type 0
FilesStayInside =
    (notes : Option Notes) (records : List HistoryRecord) (pages : List Page) (prefixes : List ℕ)
    (rows : List Listed) (moment : ℕ) → AllByRecursion (λ page. is_name page.name ≡ true) pages
    → AllByRecursion (λ file. PathStaysInside file.0)
    (site_files notes records pages prefixes rows moment)

-- ---- Private holders

-- of a private holder a page says the word that it is private, and nothing else
abbrev pub PrivateHoldersAreUnpublished : Type 0
PrivateHoldersAreUnpublished =
    (block : SizedPrefix) (h : Holder) → h.private ≡ true
    → block_row (listed_row block (masked h))
    ≡ row_by (word_of block.size) (block_text block) (codes "Private") []

-- ---- Notes

-- two offices' notes say the same about a registry, and about each of its entries
pub record AgreeOnPage (a b : Option Notes) (page : Page) : Type 0 where
  pub registry : noted_in a page.name ≡ noted_in b page.name
  pub entries : AllByRecursion
      (λ e. noted_in a (entry_thing page.name e.value) ≡ noted_in b (entry_thing page.name e.value))
      page.entries

-- they say the same about the authority and its desk, and about each registry that is published and its
-- entries
pub record AgreeOnPublished (a b : Option Notes) (p : Published) (moment : ℕ) : Type 0 where
  pub authority : noted_in a [] ≡ noted_in b []
  pub of_desk : noted_in a desk ≡ noted_in b desk
  pub pages : AllByRecursion (AgreeOnPage a b) (pages_at p moment)

-- A note on a value without an entry has no effect on any byte of any file: notes that say the same about
-- the authority, its desk, the registries and the entries that are published give the same site.
abbrev pub NotesOnNothingAreHidden : Type 0
NotesOnNothingAreHidden =
    (a b : Option Notes) (records : List HistoryRecord) (p : Published) (moment : ℕ)
    → AgreeOnPublished a b p moment → site a records p moment ≡ site b records p moment
