-- The page of the blocks that were given, and IEEE's files of them.
use Rattle.std.specs.Prelude.{ℕ, ◌/◌, ◌^◌, Bool, true, false, ◌==◌, if◌then◌else◌, List, [], ◌∷◌, ◌++◌, drop, filter, unwrap_or, Option, Some, None, option_map, codes}
use Rattle.reg_blocks.specs.Block.{SizedPrefix, first_address}
use Rattle.reg_blocks.specs.Digits.{block_text, prefix_text}
use Rattle.reg_blocks.specs.Size.{word_of}
use Rattle.reg_blocks.specs.declared.size.Size.{Size}
use Rattle.reg_blocks.specs.declared.size.Size.TheVariants.{MaL, MaM, MaS}
use Rattle.reg_core.specs.declared.holding.Listed.{Listed}
use Rattle.reg_print.specs.BlockListing.{block_header, block_listing_text}
use Rattle.reg_pages.specs.Document.{document, link, page, page_start, plain}
use Rattle.reg_pages.specs.Markup.{Markup, nothing, text, beside, all_of, markup_then}
use Rattle.reg_pages.specs.Table.{below_rows, cell, group, head_cell, row_of, table, table_start}
use Rattle.reg_pages.specs.Noted.{apply_lines}
use Rattle.reg_pages.specs.declared.blocks.BlocksPage.{BlocksPage}
use Rattle.reg_pages.specs.declared.portions.Next.{Next}
use Rattle.reg_pages.specs.declared.portions.Next.TheVariants as next

-- ---- IEEE's files

-- the two sizes are the same
abbrev pub same_size : Size → Size → Bool
same_size MaL MaL = true
same_size MaM MaM = true
same_size MaS MaS = true
same_size _ _ = false

-- the rows of one size
abbrev pub rows_of : Size → List Listed → List Listed
rows_of size rows = filter (λ r. same_size r.block.size size) rows

-- the form in which IEEE publishes MA-L, MA-M and MA-S
abbrev pub assignments_text : Size → List Listed → List ℕ
assignments_text size rows = block_listing_text (rows_of size rows)

-- ---- The page

-- a block as a row, which is found by b and its digits: its size, its digits, which head it, and its holder
abbrev pub row_by : List ℕ → List ℕ → List ℕ → List ℕ → Markup
row_by size digits organization address =
    row_of (codes "b" ++ digits)
    (beside (cell size)
    (beside (head_cell (codes "b" ++ digits) digits) (beside (cell organization) (cell address))))

-- the fields of a row of the listing
abbrev pub block_row : Listed → Markup
block_row r =
    row_by (word_of r.block.size) (block_text r.block) (unwrap_or r.organization (codes "Private"))
    (unwrap_or r.address [])

-- the first 24 bits of the addresses of a block
abbrev pub prefix_of : SizedPrefix → ℕ
prefix_of block = first_address block / 2 ^ 24

abbrev pub is_prefix : Option ℕ → ℕ → Bool
is_prefix None prefix = false
is_prefix (Some before) prefix = before == prefix

-- a prefix as a row that heads its blocks, unless it is the one before
abbrev pub prefix_row : Option ℕ → ℕ → Markup
prefix_row before prefix =
    if is_prefix before prefix then nothing else group (prefix_text prefix) (codes "4")

-- a block behind one of this prefix
abbrev pub row_behind : Option ℕ → Listed → Markup
row_behind before r = beside (prefix_row before (prefix_of r.block)) (block_row r)

-- the same of blocks in turn
abbrev pub block_rows : Option ℕ → List Listed → Markup
block_rows before [] = nothing
block_rows before (r ∷ more) = beside (row_behind before r) (block_rows (Some (prefix_of r.block)) more)

abbrev pub blocks_table : List Listed → Markup
blocks_table rows =
    table (codes "blocks") (codes "Blocks of MAC addresses") block_header (block_rows None rows)

-- links to the first page, and to the blocks in other forms; and how the block of an address is found
abbrev pub intro : Markup
intro =
    beside
    (plain (codes "p")
    (all_of
    (link (codes "index.html") (codes "All registries") ∷ text (codes " ")
    ∷ link (codes "blocks.csv") (codes "CSV") ∷ text (codes " ")
    ∷ link (codes "oui.csv") (codes "MA-L") ∷ text (codes " ")
    ∷ link (codes "mam.csv") (codes "MA-M") ∷ text (codes " ")
    ∷ link (codes "oui36.csv") (codes "MA-S") ∷ [])))
    (plain (codes "p")
    (all_of
    (text (codes "To find a MAC address, write its digits in capitals, without separators, as 001A2B018123.")
    ∷ text (codes " The first 6 are its prefix. Put # and these 6 behind the address of this page,")
    ∷ text (codes " as in blocks.html#001A2B, to see the blocks of this prefix. The MAC address is in")
    ∷ text (codes " the block whose digits it begins with: 6 digits for MA-L, 7 for MA-M, 9 for MA-S.") ∷ [])))

-- that there are no blocks, where there are none
abbrev pub no_blocks : List Listed → Markup
no_blocks [] = plain (codes "p") (text (codes "No blocks have been assigned yet."))
no_blocks (row ∷ more) = nothing

-- the page of these blocks, with these lines about where to apply
abbrev pub blocks_markup : Markup → List Listed → Markup
blocks_markup lines rows =
    page (codes "style.css") (codes "changes.atom") (codes "Blocks")
    (all_of (intro ∷ lines ∷ no_blocks rows ∷ blocks_table rows ∷ []))

unfoldable pub blocks_page : Markup → List Listed → List ℕ
blocks_page lines rows = document (blocks_markup lines rows)

-- ---- The same in portions

-- what stands on the page above these rows, and then the rest
abbrev pub above_rows : Markup → List Listed → List ℕ → List ℕ
above_rows lines rows rest =
    page_start (codes "style.css") (codes "changes.atom") (codes "Blocks")
    (markup_then intro
    (markup_then lines
    (markup_then (no_blocks rows)
    (table_start (codes "blocks") (codes "Blocks of MAC addresses") block_header rest))))

-- these rows behind one of this prefix, and what stands below them
abbrev pub rows_left : Option ℕ → List Listed → List ℕ
rows_left before rows = markup_then (block_rows before rows) below_rows

abbrev pub lines_of : BlocksPage → Markup
lines_of p = apply_lines (option_map (λ n. n.now) p.notes)

-- what is left of the page by what is given next
abbrev pub left_from : BlocksPage → Next → List ℕ
left_from p next.Above = blocks_page (lines_of p) p.rows.now
left_from p (next.Row place) = rows_left p.before (drop place p.rows.now)
left_from p next.Nothing = []

-- the bytes of the page that are still to be given
abbrev pub page_left : BlocksPage → List ℕ
page_left p = left_from p p.next
