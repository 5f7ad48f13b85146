-- Laws of the published site.
use Rattle.std.proofs.Common.{◌≡◌, ◌⊎◌, ℕ, true, List, [], ◌∷◌, ◌++◌, codes, refl, ap, ◌∙◌, inl, inr, Option, Some, None}
use Rattle.std.specs.FinMap.{get}
use Rattle.std.specs.List.{AllByRecursion, flat_map}
use Rattle.reg_core.specs.Allowance.{◌>>=◌, or_refusal}
use Rattle.reg_core.specs.Answer.{Answer, reply_of, unchanged}
use Rattle.reg_core.specs.Names.{is_name}
use Rattle.reg_core.specs.Page.{page}
use Rattle.reg_core.specs.View.{Published}
use Rattle.reg_core.specs.declared.holding.Listed.{Listed}
use Rattle.reg_core.specs.declared.page.Page.{Page}
use Rattle.reg_core.specs.declared.refusal.Refusal.TheVariants as no
use Rattle.reg_core.specs.declared.reply.Reply.{Reply}
use Rattle.reg_core.specs.declared.reply.Reply.TheVariants.{Accepted, Refused}
use Rattle.reg_core.specs.declared.told.Told.TheVariants as tells
use Rattle.reg_early.specs.Moment.{utc_day}
use Rattle.reg_history.specs.Chain.{chained}
use Rattle.reg_changes.specs.declared.change.HistoryRecord.{HistoryRecord}
use Rattle.reg_pages.specs.declared.note.Note.{Note}
use Rattle.reg_pages.specs.declared.notes.Notes.{Notes}
use Rattle.reg_ranges.specs.Tables.{Table}
use Rattle.reg_site.specs.Laws.{FilesStayInside, ListingsAreOfPages, MomentsStandOnTheIndex, PrivateHoldersAreUnpublished, SameRegistersSameSite, SitesAreOfAnswers, PathStaysInside}
use Rattle.reg_site.specs.IndexTree.{IndexRow}
use Rattle.reg_pages.specs.Markup.{Markup}
use Rattle.reg_pages.specs.Noted.{apply_lines, noted_in}
use Rattle.reg_site.specs.Site.{block_files, change_files, index_files, one_file, page_files, pool_files, rows_by, site, steady_files, summed_files}
use Rattle.reg_site.specs.Sums.{sums_text}
use Rattle.reg_site.specs.declared.files.File.TheVariants as file

pub same_registers_same_site : SameRegistersSameSite
same_registers_same_site notes records w v moment h = ap (λ p. site notes records p moment) h

pub sites_are_of_answers : SitesAreOfAnswers
sites_are_of_answers v moment command h = rw h refl

-- ---- Anybody's commands

module _ (p : Published) (name : List ℕ) (today : ℕ) where
  -- the answer of a registry, and of its listing, by its table
  abbrev shown_by : Option Table → Answer
  shown_by t =
      or_refusal no.Registry t >>= (λ table. unchanged (tells.Page (page p name table today)))

  abbrev listed_by : Option Table → Answer
  listed_by t =
      or_refusal no.Registry t >>= (λ table. unchanged (tells.Sheet (page p name table today)))

-- a page that is told, as a listing
abbrev relisted : Reply → Reply
relisted (Accepted (tells.Page shown)) = Accepted (tells.Sheet shown)
relisted (Accepted other) = Accepted other
relisted (Refused refusal) = Refused refusal

relisted_by : (p : Published) (name : List ℕ) (today : ℕ) (t : Option Table)
    → reply_of (listed_by p name today t) ≡ relisted (reply_of (shown_by p name today t))
relisted_by p name today None = refl
relisted_by p name today (Some table) = refl

-- a registry that is told is listed as the same page
pub listings_are_of_pages : ListingsAreOfPages
listings_are_of_pages p moment name shown h =
    relisted_by p name (utc_day moment) (get p.registries name) ∙ ap relisted h

-- ---- Moments

pub moments_stand_on_the_index : MomentsStandOnTheIndex
moments_stand_on_the_index notes records p m n e = rw e refl

-- ---- Places

abbrev Inside : List ℕ × List ℕ → Type 0
Inside file = PathStaysInside file.0

abbrev IsFolder : List ℕ → Type 0
IsFolder folder = (folder ≡ []) ⊎ (folder ≡ codes "registries/")

pub all-append : {X : Type 0} (P : X → Type 0) (xs ys : List X) → AllByRecursion P xs
    → AllByRecursion P ys → AllByRecursion P (xs ++ ys)
all-append P [] ys hx hy = hy
all-append P (x ∷ xs) ys hx hy = (hx.0, all-append P xs ys hx.1 hy)

named_inside : (folder stem extension : List ℕ) → IsFolder folder → is_name stem ≡ true
    → is_name extension ≡ true → PathStaysInside (folder ++ (stem ++ (codes "." ++ extension)))
named_inside folder stem extension here h typed = inl (record {
  folder = folder;
  stem = stem;
  extension = extension;
  whole = refl;
  here = here;
  named = h;
  typed = typed;
})

in_registries : (name extension : List ℕ) → is_name name ≡ true → is_name extension ≡ true
    → PathStaysInside (codes "registries/" ++ (name ++ (codes "." ++ extension)))
in_registries name extension h typed =
    named_inside (codes "registries/") name extension (inr refl) h typed

on_top : (stem extension : List ℕ) → is_name stem ≡ true → is_name extension ≡ true
    → PathStaysInside (stem ++ (codes "." ++ extension))
on_top stem extension h typed = named_inside [] stem extension (inl refl) h typed

pages_inside : (notes : Option Notes) (records : List HistoryRecord) (pages : List Page)
    → AllByRecursion (λ page. is_name page.name ≡ true) pages
    → AllByRecursion Inside (flat_map (page_files notes records) pages)
pages_inside notes records [] h = tt
pages_inside notes records (page ∷ pages) h =
    let name = page.name in (
      in_registries name (codes "html") h.0 refl,
      (
        in_registries name (codes "csv") h.0 refl,
        (
          in_registries name (codes "json") h.0 refl,
          (in_registries name (codes "xml") h.0 refl, pages_inside notes records pages h.1),
        ),
      ),
    )

blocks_inside : (lines : Markup) (rows : List Listed)
    → AllByRecursion Inside (block_files lines rows)
blocks_inside lines rows = (
  on_top (codes "blocks") (codes "html") refl refl,
  (
    on_top (codes "blocks") (codes "csv") refl refl,
    (
      on_top (codes "oui") (codes "csv") refl refl,
      (
        on_top (codes "mam") (codes "csv") refl refl,
        (on_top (codes "oui36") (codes "csv") refl refl, tt),
      ),
    ),
  ),
)

pool_inside : (prefixes : List ℕ) → AllByRecursion Inside (pool_files prefixes)
pool_inside prefixes = (
  on_top (codes "pool") (codes "json") refl refl,
  (on_top (codes "style") (codes "css") refl refl, tt),
)

changes_inside : (lines : Markup) (authority : Option Note) (records : List HistoryRecord)
    (digests : List (List ℕ)) → AllByRecursion Inside (change_files lines authority records digests)
changes_inside lines authority records digests = (
  on_top (codes "changes") (codes "html") refl refl,
  (on_top (codes "changes") (codes "atom") refl refl, tt),
)

index_inside : (notes : Option Notes) (digests : List (List ℕ)) (registers : List IndexRow)
    (prefixes : List ℕ) (rows : List Listed) (moment : ℕ)
    → AllByRecursion Inside (index_files notes digests registers prefixes rows moment)
index_inside notes digests registers prefixes rows moment = (
  on_top (codes "index") (codes "html") refl refl,
  (on_top (codes "index") (codes "json") refl refl, tt),
)

pub files_stay_inside : FilesStayInside
files_stay_inside notes records pages prefixes rows moment h =
    let authority = noted_in notes [] in
    let lines = apply_lines notes in
    let text = (chained records).text in
    let digests = (chained records).digests in
    let changed = change_files lines authority records digests in
    let pooled = pool_files prefixes ++ changed in
    let given = block_files lines rows ++ pooled in
    let told = flat_map (page_files notes records) pages ++ given in
    let indexed = index_files notes digests (rows_by records pages) prefixes rows moment in
    all-append Inside
    (steady_files notes text records digests pages prefixes rows ++ indexed)
    (one_file file.Sums (sums_text (summed_files notes text records digests pages prefixes rows moment)))
    (all-append Inside (steady_files notes text records digests pages prefixes rows) indexed (
      on_top (codes "changes") (codes "csv") refl refl,
      all-append Inside (flat_map (page_files notes records) pages) given
          (pages_inside notes records pages h)
          (all-append Inside (block_files lines rows) pooled (blocks_inside lines rows)
          (all-append Inside (pool_files prefixes) changed (pool_inside prefixes)
          (changes_inside lines authority records digests))),
    )
    (index_inside notes digests (rows_by records pages) prefixes rows moment))
    (inr refl, tt)

pub private_holders_are_hidden : PrivateHoldersAreUnpublished
private_holders_are_hidden block h private = rw private refl
