-- A picture of a registry's values, and its legend in words.
use Rattle.std.specs.Prelude.{◌≤◌, ℕ, Bool, true, false, ◌+◌, ◌-◌, ◌*◌, ◌/◌, ◌==◌, ◌&&◌, ◌||◌, min, max, nat_lt, nat_le, List, [], ◌∷◌, ◌++◌, length, map, codes, if◌then◌else◌}
use Rattle.std.specs.Fmt.{decimal}
use Rattle.reg_core.specs.declared.entry.PageEntry.{PageEntry}
use Rattle.reg_early.specs.declared.term.Status.{Status}
use Rattle.reg_early.specs.declared.term.Status.TheVariants as status
use Rattle.reg_pages.specs.Document.{attribute, plain}
use Rattle.reg_pages.specs.Markup.{Attribute, Markup, nothing, text, element, beside, all_of}
use Rattle.reg_site.specs.Summary.{rest_of}
use Rattle.reg_site.specs.declared.bar.PartKind.{PartKind}
use Rattle.reg_site.specs.declared.bar.PartKind.TheVariants.{Assigned, Temporary, Expired, Free as FreeKind, SetAside as SetAsideKind, Reserved as ReservedKind}
use Rattle.reg_site.specs.declared.bar.PicturePart.{PicturePart}
use Rattle.reg_site.specs.declared.summary.Rest.{Rest}
use Rattle.reg_site.specs.declared.summary.Rest.TheVariants.{Free, SetAside, Reserved}
use Rattle.reg_site.specs.declared.summary.RangeShare.{RangeShare}
use Rattle.reg_site.specs.declared.summary.Summary.{Summary}

-- ---- Kinds

-- the two kinds are the same
abbrev pub same_kind : PartKind → PartKind → Bool
same_kind Assigned Assigned = true
same_kind Temporary Temporary = true
same_kind Expired Expired = true
same_kind FreeKind FreeKind = true
same_kind SetAsideKind SetAsideKind = true
same_kind ReservedKind ReservedKind = true
same_kind _ _ = false

-- the kind of an entry, by its status
abbrev pub kind_of_status : Status → PartKind
kind_of_status status.Assigned = Assigned
kind_of_status status.Temporary = Temporary
kind_of_status status.Expired = Expired

-- the kind of values without an entry
abbrev pub kind_of_rest : Rest → PartKind
kind_of_rest Free = FreeKind
kind_of_rest SetAside = SetAsideKind
kind_of_rest Reserved = ReservedKind

-- the class of a kind, by which the style sheet knows it
abbrev pub kind_class : PartKind → List ℕ
kind_class Assigned = codes "assigned"
kind_class Temporary = codes "temporary"
kind_class Expired = codes "expired"
kind_class FreeKind = codes "free"
kind_class SetAsideKind = codes "aside"
kind_class ReservedKind = codes "reserved"

-- Where a part begins, from above, and how high it is. No two kinds are alike, so they can be told
-- apart without their colours.
abbrev pub kind_top : PartKind → List ℕ
kind_top Assigned = codes "0"
kind_top Temporary = codes "0"
kind_top Expired = codes "18"
kind_top FreeKind = codes "2"
kind_top SetAsideKind = codes "8"
kind_top ReservedKind = codes "11"

-- how high a part of a kind is
abbrev pub kind_height : PartKind → List ℕ
kind_height Assigned = codes "24"
kind_height Temporary = codes "12"
kind_height Expired = codes "6"
kind_height FreeKind = codes "20"
kind_height SetAsideKind = codes "8"
kind_height ReservedKind = codes "2"

-- ---- Cells

-- how many cells a picture has that has as many values as these: one for each, and 400 at most
abbrev pub cell_count : ℕ → ℕ
cell_count most = min (most + 1) 400

-- the cell in which a number of values ends, of which the largest is the first
abbrev pub end_of : ℕ → ℕ → ℕ
end_of most n = min n (most + 1) * cell_count most / (most + 1)

-- the cell of a value
abbrev pub cell_of : ℕ → ℕ → ℕ
cell_of most value = end_of most (min value most)

-- ---- Parts

-- a range, as long as it has values
abbrev pub share_part : ℕ → RangeShare → PicturePart
share_part most s =
    record {
      kind = kind_of_rest (rest_of s.treatment);
      start = cell_of most s.values.lo;
      end = end_of most (s.values.hi + 1);
    }

-- an entry, where its value is: one cell
abbrev pub entry_part : ℕ → PageEntry → PicturePart
entry_part most e =
    record {
      kind = kind_of_status e.status;
      start = cell_of most e.value;
      end = cell_of most e.value + 1;
    }

-- Whether a part is not shown apart from the one before it: it lies in the same cell, or it is of the
-- same kind and its neighbour.
abbrev pub joins : PicturePart → PicturePart → Bool
joins last next =
    nat_lt next.start last.end || (same_kind last.kind next.kind && next.start == last.end)

-- the part that two parts make
abbrev pub joined : PicturePart → PicturePart → PicturePart
joined last next = record {
  kind = last.kind;
  start = last.start;
  end = max last.end next.end;
}

-- parts in order, of which each is merged with those that it joins
abbrev pub merged : PicturePart → List PicturePart → List PicturePart
merged last [] = last ∷ []
merged last (next ∷ more) =
    if joins last next then merged (joined last next) more else last ∷ merged next more

-- the same of all parts
abbrev pub merged_all : List PicturePart → List PicturePart
merged_all [] = []
merged_all (first ∷ more) = merged first more

-- the parts of entries, where they are
abbrev pub entry_parts : ℕ → List PageEntry → List PicturePart
entry_parts most entries = merged_all (map (entry_part most) entries)

-- ---- The picture

-- a rectangle, by its class, where it begins, from the left and from above, and how long and high it is
abbrev pub rect : List ℕ → ℕ → List ℕ → ℕ → List ℕ → Markup
rect class start top long height =
    element (codes "rect")
    (attribute (codes "class") class ∷ attribute (codes "x") (decimal start)
    ∷ attribute (codes "y") top ∷ attribute (codes "width") (decimal long)
    ∷ attribute (codes "height") height ∷ [])
    nothing

-- a part of the picture
abbrev pub part : PicturePart → Markup
part p =
    rect (kind_class p.kind) p.start (kind_top p.kind) (p.end - p.start) (kind_height p.kind)

-- the ranges, and above them the entries
abbrev pub parts : Summary → List PageEntry → Markup
parts s entries =
    beside (all_of (map (λ share. part (share_part s.max share)) s.shares))
    (all_of (map part (entry_parts s.max entries)))

-- what a picture shows of its cells
abbrev pub view : ℕ → List ℕ
view cells = codes "0 0 " ++ (decimal cells ++ codes " 24")

-- the attributes of a picture, by what it shows of its cells
abbrev pub picture_attributes : List ℕ → List Attribute
picture_attributes shown =
    attribute (codes "viewBox") shown ∷ attribute (codes "preserveAspectRatio") (codes "none")
    ∷ attribute (codes "role") (codes "img")
    ∷ attribute (codes "aria-label") (codes "The values in proportion, as told below") ∷ []

-- the picture of a registry's values
abbrev pub picture : Summary → List PageEntry → Markup
picture s entries =
    element (codes "svg") (picture_attributes (view (cell_count s.max))) (parts s entries)

-- ---- The legend

-- a word with a number, as an item of a class
abbrev pub item : List ℕ → List ℕ → ℕ → Markup
item class word n =
    element (codes "li") (attribute (codes "class") class ∷ [])
    (beside (text word) (beside (text (codes ": ")) (text (decimal n))))

-- the same of a kind
abbrev pub counted : PartKind → List ℕ → ℕ → Markup
counted kind word n = item (kind_class kind) word n

-- how many values there are of each kind
abbrev pub legend : Summary → Markup
legend s =
    plain (codes "ul")
    (all_of
    (counted Assigned (codes "Assigned") s.assigned
    ∷ counted Temporary (codes "Temporary") s.temporary
    ∷ counted Expired (codes "Expired") s.expired
    ∷ counted FreeKind (codes "Free") s.free
    ∷ counted SetAsideKind (codes "Set aside by policy") s.set_aside
    ∷ counted ReservedKind (codes "Reserved") s.reserved ∷ []))

-- a picture of a registry's values, with its legend
abbrev pub bar : Summary → List PageEntry → Markup
bar s entries =
    plain (codes "figure")
    (beside (picture s entries) (plain (codes "figcaption") (legend s)))

-- ---- The law

-- whether a part covers a cell
abbrev pub covers : ℕ → PicturePart → Bool
covers cell p = nat_le p.start cell && nat_lt cell p.end

-- The picture of entries has at most 400 parts.
abbrev pub PicturesAreShort : Type 0
PicturesAreShort = (most : ℕ) (entries : List PageEntry) → length (entry_parts most entries) ≤ 400
