-- The listing of a registry in portions.
use Rattle.std.specs.Prelude.{ℕ, List, [], ◌∷◌, drop, map}
use Rattle.reg_print.specs.Listing.{ListedRow, csv_text, header, row_fields, row_view}
use Rattle.reg_pages.specs.declared.portions.Next.{Next}
use Rattle.reg_pages.specs.declared.portions.Next.TheVariants as next
use Rattle.reg_site.specs.declared.listing.RegistryCsv.{RegistryCsv}

-- the records of these rows
abbrev pub records : List ListedRow → List (List (List ℕ))
records rows = map row_fields rows

-- what is left of a listing by what is given next
abbrev pub left_from : RegistryCsv → Next → List ℕ
left_from listing next.Above = csv_text (header ∷ records (map row_view listing.rows.items))
left_from listing (next.Row place) = csv_text (records (map row_view (drop place listing.rows.items)))
left_from listing next.Nothing = []

-- the bytes of a listing that are still to be given
abbrev pub listing_left : RegistryCsv → List ℕ
listing_left listing = left_from listing listing.next
