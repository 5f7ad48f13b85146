-- A site: its files with their bytes, by what anybody is told at a moment, by notes, and by a history.
use Rattle.std.specs.Prelude.{ℕ, List, [], ◌∷◌, ◌++◌, map, filter_map, length, codes, unwrap_or, Option, Some, None}
use Rattle.std.specs.List.{flat_map}
use Rattle.reg_early.specs.Moment.{utc_day}
use Rattle.reg_blocks.specs.declared.size.Size.TheVariants.{MaL, MaM, MaS}
use Rattle.reg_core.specs.Answer.{public_answer, reply_of}
use Rattle.reg_core.specs.View.{Published}
use Rattle.reg_core.specs.declared.command.PublicCommand.{PublicCommand}
use Rattle.reg_core.specs.declared.command.PublicCommand.TheVariants.{Registries, Registry, PoolList, BlocksCsv}
use Rattle.reg_core.specs.declared.told.Told.{Told}
use Rattle.reg_core.specs.declared.told.Told.TheVariants as tells
use Rattle.reg_core.specs.declared.holding.Listed.{Listed}
use Rattle.reg_core.specs.declared.page.Page.{Page}
use Rattle.reg_core.specs.declared.reply.Reply.{Reply}
use Rattle.reg_core.specs.declared.reply.Reply.TheVariants.{Accepted, Refused}
use Rattle.reg_history.specs.Chain.{chained, last_digest}
use Rattle.reg_history.specs.Moment.{moment_text}
use Rattle.reg_changes.specs.Recorded.{last_changed}
use Rattle.reg_changes.specs.declared.change.HistoryRecord.{HistoryRecord}
use Rattle.reg_pages.specs.declared.note.Note.{Note}
use Rattle.reg_pages.specs.declared.notes.Notes.{Notes}
use Rattle.reg_print.specs.Answer.{body_text}
use Rattle.reg_print.specs.declared.answer.Answer.TheVariants as answer
use Rattle.reg_pages.specs.Blocks.{assignments_text, blocks_page}
use Rattle.reg_site.specs.Changes.{changes_feed, changes_page}
use Rattle.reg_site.specs.Files.{path_of}
use Rattle.reg_site.specs.Index.{index_page}
use Rattle.reg_site.specs.IndexTree.{IndexRow, index_tree}
use Rattle.reg_pages.specs.Markup.{Markup}
use Rattle.reg_pages.specs.Noted.{apply_lines, noted_in}
use Rattle.reg_pages.specs.Notes.{authority}
use Rattle.reg_site.specs.Recent.{day_part, feed_id, first_digest, last_changes, text_of}
use Rattle.reg_site.specs.Records.{records_text, title_of}
use Rattle.reg_site.specs.Registry.{registry_page}
use Rattle.reg_site.specs.Summary.{summary}
use Rattle.reg_site.specs.Sums.{Files, sums_text}
use Rattle.reg_site.specs.declared.style.TheConstants.{STYLE}
use Rattle.reg_site.specs.declared.files.File.{File}
use Rattle.reg_site.specs.declared.files.File.TheVariants as file

-- ---- What an office answers anybody

-- what anybody is told at a moment of the clock
abbrev pub told_to_all : Published → ℕ → PublicCommand → Reply
told_to_all p moment command = reply_of (public_answer p (utc_day moment) command)

-- the registry that is told, if one is
abbrev pub page_in : Reply → Option Page
page_in (Accepted (tells.Page page)) = Some page
page_in (Accepted _) = None
page_in (Refused refusal) = None

-- the blocks that are told, if they are
abbrev pub blocks_in : Reply → Option (List Listed)
blocks_in (Accepted (tells.Blocks rows)) = Some rows
blocks_in (Accepted _) = None
blocks_in (Refused refusal) = None

-- the prefixes of the pool that are told, if they are
abbrev pub pool_in : Reply → Option (List ℕ)
pool_in (Accepted (tells.Pool prefixes)) = Some prefixes
pool_in (Accepted _) = None
pool_in (Refused refusal) = None

-- the names that are told
abbrev pub names_in : Reply → List (List ℕ)
names_in (Accepted (tells.Names names)) = names
names_in (Accepted _) = []
names_in (Refused refusal) = []

-- all registries that are told, by name
abbrev pub pages_at : Published → ℕ → List Page
pages_at p moment =
    filter_map (λ name. page_in (told_to_all p moment (Registry name)))
    (names_in (told_to_all p moment Registries))

-- the prefixes of the pool, and the blocks
abbrev pub prefixes_at : Published → ℕ → List ℕ
prefixes_at p moment = unwrap_or (pool_in (told_to_all p moment PoolList)) []

abbrev pub blocks_at : Published → ℕ → List Listed
blocks_at p moment = unwrap_or (blocks_in (told_to_all p moment BlocksCsv)) []

-- ---- The files

-- a file with its bytes
abbrev pub one_file : File → List ℕ → Files
one_file f bytes = (path_of f, bytes) ∷ []

-- the very bytes of an accepted answer
abbrev pub told_text : Told → List ℕ
told_text told = body_text (answer.Reply (Accepted told))

-- the title of a site, by what is noted about the authority
abbrev pub site_title : Option Note → List ℕ
site_title authority = title_of authority (codes "Registries")

-- the files of a registry: its page, its listing and its JSON as an office answers them, and its XML
abbrev pub page_files : Option Notes → List HistoryRecord → Page → Files
page_files notes records page =
    (path_of (file.RegistryPage page.name), registry_page notes (last_changed records page.name) page)
    ∷ (path_of (file.RegistryCsv page.name), told_text (tells.Sheet page))
    ∷ (path_of (file.RegistryTree page.name), told_text (tells.Page page))
    ∷ (
      path_of (file.RegistryRecords page.name),
      records_text notes (day_part (last_changed records page.name)) page,
    )
    ∷ []

-- the files of the blocks, with these lines about where to apply
abbrev pub block_files : Markup → List Listed → Files
block_files lines rows =
    (path_of file.BlocksPage, blocks_page lines rows)
    ∷ (path_of file.BlocksListing, told_text (tells.Blocks rows))
    ∷ (path_of (file.Assignments MaL), assignments_text MaL rows)
    ∷ (path_of (file.Assignments MaM), assignments_text MaM rows)
    ∷ (path_of (file.Assignments MaS), assignments_text MaS rows)
    ∷ []

-- the pool, and how pages look
abbrev pub pool_files : List ℕ → Files
pool_files prefixes =
    (path_of file.Pool, told_text (tells.Pool prefixes)) ∷ (path_of file.Style, STYLE.now) ∷ []

-- the last changes of a history whose records have these digests, with these lines
abbrev pub change_files : Markup → Option Note → List HistoryRecord → List (List ℕ) → Files
change_files lines authority records digests =
    (path_of file.ChangesPage, changes_page lines (last_changes records digests))
    ∷ (
      path_of file.ChangesFeed,
      changes_feed (site_title authority) (feed_id (first_digest digests)) (last_changes records digests),
    )
    ∷ []

-- registries beside others, each with the moment of its last change
abbrev pub rows_by : List HistoryRecord → List Page → List IndexRow
rows_by records pages = map (λ page. (summary page, last_changed records page.name)) pages

-- the first page, and the index for programs
abbrev pub index_files : Option Notes → List (List ℕ) → List IndexRow → List ℕ → List Listed → ℕ → Files
index_files notes digests registers prefixes rows moment =
    (path_of file.Index, index_page notes registers prefixes rows moment)
    ∷ (
      path_of file.IndexTree,
      index_tree (site_title (noted_in notes authority)) (moment_text moment) (length digests)
          (text_of (last_digest digests)) registers,
    )
    ∷ []

-- ---- The site

-- the files that show what is published and what changed last
abbrev pub shown_files : Option Notes → List HistoryRecord → List (List ℕ) → List Page → List ℕ → List Listed
    → Files
shown_files notes records digests pages prefixes rows =
    flat_map (page_files notes records) pages
    ++ (block_files (apply_lines notes) rows
    ++ (pool_files prefixes
    ++ change_files (apply_lines notes) (noted_in notes authority) records digests))

-- the files on which no moment stands but those of the changes: the history first, and then those that
-- show what is published
abbrev pub steady_files : Option Notes → List ℕ → List HistoryRecord → List (List ℕ) → List Page → List ℕ
    → List Listed → Files
steady_files notes text records digests pages prefixes rows =
    one_file file.Changes text ++ shown_files notes records digests pages prefixes rows

-- all files but the sums
abbrev pub summed_files : Option Notes → List ℕ → List HistoryRecord → List (List ℕ) → List Page → List ℕ
    → List Listed → ℕ → Files
summed_files notes text records digests pages prefixes rows moment =
    steady_files notes text records digests pages prefixes rows
    ++ index_files notes digests (rows_by records pages) prefixes rows moment

-- these files, and then their sums
abbrev pub with_sums_file : Files → Files
with_sums_file files = files ++ one_file file.Sums (sums_text files)

-- all files of a site, in the order in which they are published, by the text and the digests of a history
abbrev pub files_by : Option Notes → List ℕ → List HistoryRecord → List (List ℕ) → List Page → List ℕ
    → List Listed → ℕ → Files
files_by notes text records digests pages prefixes rows moment =
    with_sums_file (summed_files notes text records digests pages prefixes rows moment)

-- the same by its records alone, which tell both
abbrev pub site_files : Option Notes → List HistoryRecord → List Page → List ℕ → List Listed → ℕ → Files
site_files notes records pages prefixes rows moment =
    files_by notes (chained records).text records (chained records).digests pages prefixes rows moment

-- the site of what is published, with these notes and this history
abbrev pub site : Option Notes → List HistoryRecord → Published → ℕ → Files
site notes records p moment =
    site_files notes records (pages_at p moment) (prefixes_at p moment) (blocks_at p moment) moment
