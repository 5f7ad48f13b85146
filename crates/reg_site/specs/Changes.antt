-- The last changes of the registers, as a page and as a feed (RFC 4287). The last change is the first here.
use Rattle.std.specs.Prelude.{ℕ, List, [], ◌∷◌, ◌++◌, take, map, codes, if◌then◌else◌}
use Rattle.std.specs.Fmt.{decimal}
use Rattle.std.specs.Str.{bytes_eq}
use Rattle.reg_pages.specs.Document.{attribute, document, link, page, plain}
use Rattle.reg_pages.specs.Markup.{Attribute, Markup, nothing, text, element, beside, all_of, markup_then, opening_then}
use Rattle.reg_pages.specs.Table.{cell, group, head_cell, row_of, table}
use Rattle.reg_site.specs.declared.changes.ChangeRow.{ChangeRow}

-- ---- A change

-- a change of the registers, as texts
pub record Changed : Type 0 where
  pub number : ℕ
  pub moment : List ℕ
  pub month : List ℕ
  pub register : List ℕ
  pub kind : List ℕ
  -- what was done, and the day that these words want
  pub words : List ℕ
  pub until : List ℕ
  pub value : List ℕ
  pub description : List ℕ
  pub digest : List ℕ

-- a change that the code has, without where its texts lie in memory
abbrev pub shown : ChangeRow → Changed
shown c = record {
  number = c.number;
  moment = c.moment.now;
  month = c.month.now;
  register = c.register.now;
  kind = c.kind.now;
  words = c.words.now;
  until = c.until.now;
  value = c.value.now;
  description = c.description.now;
  digest = c.digest.now;
}

-- ---- Where a change is

-- Where what was changed is shown, from the folder of the site on: a new register on its page, an entry
-- there too, a block on the page of the blocks, and a prefix on the first page.
abbrev pub place_of : Changed → List ℕ
place_of c =
    if bytes_eq c.kind (codes "registry") then codes "registries/" ++ (c.value ++ codes ".html")
    else if bytes_eq c.kind (codes "block") then codes "blocks.html#b" ++ c.value
    else if bytes_eq c.kind (codes "prefix") then codes "index.html"
    else codes "registries/" ++ (c.register ++ (codes ".html#v" ++ c.value))

-- ---- The page

-- a change as a row, found by c and its number
abbrev pub change_row : Changed → Markup
change_row c =
    row_of (codes "c" ++ decimal c.number)
    (beside (head_cell (codes "c" ++ decimal c.number) (decimal c.number))
    (beside (cell c.moment)
    (beside (cell c.register)
    (beside (plain (codes "td") (beside (text c.words) (text c.until)))
    (beside (plain (codes "td") (link (place_of c) c.value)) (cell c.description))))))

-- a month as a row that heads its changes, unless it is the one before
abbrev pub month_row : List ℕ → List ℕ → Markup
month_row before month = if bytes_eq before month then nothing else group month (codes "6")

-- a change behind one of this month
abbrev pub row_behind : List ℕ → Changed → Markup
row_behind before c = beside (month_row before c.month) (change_row c)

-- the same of changes in turn
abbrev pub change_rows : List ℕ → List Changed → Markup
change_rows before [] = nothing
change_rows before (c ∷ more) = beside (row_behind before c) (change_rows c.month more)

abbrev pub change_columns : List (List ℕ)
change_columns =
    codes "Number" ∷ codes "Date (UTC)" ∷ codes "Registry" ∷ codes "Change" ∷ codes "Value"
    ∷ codes "Description" ∷ []

abbrev pub changes_table : List Changed → Markup
changes_table changes =
    table (codes "changes") (codes "Latest changes") change_columns (change_rows [] changes)

-- changes as a table, or that there are none
abbrev pub changes_shown : List Changed → Markup
changes_shown [] = plain (codes "p") (text (codes "Nothing has been changed yet."))
changes_shown (c ∷ more) = changes_table (c ∷ more)

abbrev pub change_links : Markup
change_links =
    plain (codes "p")
    (all_of
    (link (codes "index.html") (codes "All registries") ∷ text (codes " ")
    ∷ link (codes "changes.csv") (codes "CSV") ∷ text (codes " ")
    ∷ link (codes "changes.atom") (codes "Atom") ∷ []))

-- the page of the last 200 changes, with these lines about where to apply
abbrev pub changes_markup : Markup → List Changed → Markup
changes_markup lines changes =
    page (codes "style.css") (codes "changes.atom") (codes "Changes")
    (all_of (change_links ∷ lines ∷ changes_shown (take 200 changes) ∷ []))

unfoldable pub changes_page : Markup → List Changed → List ℕ
changes_page lines changes = document (changes_markup lines changes)

-- ---- The feed

-- an id made of a digest
abbrev pub urn : List ℕ → List ℕ
urn digest = codes "urn:sha256:" ++ digest

-- the register in a title, before what was changed of it; nothing where it is empty
abbrev pub register_part : List ℕ → Markup
register_part [] = nothing
register_part (b ∷ more) = beside (text (b ∷ more)) (text (codes " "))

-- the title of a change: what was changed, and what was done
abbrev pub change_title : Changed → Markup
change_title c =
    plain (codes "title")
    (beside (register_part c.register)
    (beside (text c.value) (beside (text (codes ": ")) (beside (text c.words) (text c.until)))))

-- A change as an entry of the feed. Its id is its digest, which no other change has.
abbrev pub change_entry : Changed → Markup
change_entry c =
    beside
    (plain (codes "entry")
    (beside (change_title c)
    (beside (plain (codes "id") (text (urn c.digest)))
    (beside (plain (codes "updated") (text c.moment))
    (beside (element (codes "link") (attribute (codes "href") (place_of c) ∷ []) nothing)
    (plain (codes "summary") (text c.description)))))))
    (text (codes "\n"))

-- when the last change was
abbrev pub last_moment : List Changed → List ℕ
last_moment [] = codes "1970-01-01T00:00:00Z"
last_moment (c ∷ more) = c.moment

abbrev pub feed_attributes : List Attribute
feed_attributes = attribute (codes "xmlns") (codes "http://www.w3.org/2005/Atom") ∷ []

-- the head of a feed, by its title, its id and when it was last changed
abbrev pub feed_head : List ℕ → List ℕ → List ℕ → Markup
feed_head title id moment =
    all_of
    (plain (codes "title") (text title) ∷ plain (codes "id") (text id)
    ∷ plain (codes "updated") (text moment)
    ∷ plain (codes "author") (plain (codes "name") (text title))
    ∷ element (codes "link") (attribute (codes "href") (codes "changes.html") ∷ []) nothing
    ∷ text (codes "\n") ∷ [])

-- the bytes of the feed of the last 100 changes, by its title and its id
unfoldable pub changes_feed : List ℕ → List ℕ → List Changed → List ℕ
changes_feed title id changes =
    codes "<?xml version=\"1.0\" encoding=\"UTF-8\"?>\n"
    ++ markup_then
    (element (codes "feed") feed_attributes
    (beside (feed_head title id (last_moment changes))
    (all_of (map change_entry (take 100 changes)))))
    (codes "\n")

-- the same up to the end of its head, and then the rest
abbrev pub feed_start : List ℕ → List ℕ → List ℕ → List ℕ → List ℕ
feed_start title id moment rest =
    codes "<?xml version=\"1.0\" encoding=\"UTF-8\"?>\n"
    ++ opening_then (codes "feed") feed_attributes (markup_then (feed_head title id moment) rest)
