use Rattle.std.proofs.Common.{◌≡◌, ◌+◌, ◌<◌, ◌∷◌, ◌++◌, ◌∙◌, [], length, get_or, ap, sym, rules}
use Rattle.reg_print.specs.Listing.{csv_text, header, row_fields, row_view}
use Rattle.reg_print.proofs.ListingText.{record_some}
use Rattle.reg_site.specs.Listing.{left_from}
use Rattle.reg_pages.specs.Portions.{after}
use Rattle.reg_pages.specs.declared.portions.Next.TheVariants as next
use Rattle.reg_pages.proofs.Portioned.{after_row, gives_bytes}
use Rattle.reg_site.proofs.Portioned.{listing_parts, record_of_row}
use Rattle.reg_site.proofs.listing.RegistryCsvPortions.push_next.Goals as goal
use Rattle.reg_site.proofs.listing.RegistryCsvPortions.push_next.Goals.{in-Above+in_ok-push_header-in-Above, in-Row+in-Some+in_ok-push_record-in-Some}

pub returns : goal.returns
returns c =
    let listing = c.args.self.now in
    let old = c.args.out.now.items in
    let rows = listing.rows.items in
    let long : c.len.result ≡ length rows = search rules in
    let after_now : c.after-self.result ≡ after listing.next (length rows) =
    c.after-self.ensures ∙ ap (after listing.next) long in
    elim c.match-self.branch [
      | in-Above+in_ok-push_header-in-Above w ↦
          let then : c.after-self.result ≡ next.Row 0 =
          after_now ∙ ap (λ n. after n (length rows)) w.in-Above.is in
          gives_bytes (csv_text (header ∷ []))
          (ap (λ o. o.items) w.out-is ∙ w.in_ok-push_header-in-Above.ensures)
          (record_some header)
          (ap (left_from listing) w.in-Above.is ∙ listing_parts rows
          ∙ ap (λ n. csv_text (header ∷ []) ++ left_from listing n) (sym then))
      | in-Row+in-Some+in_ok-push_record-in-Some w ↦
          let place = w.in-Row.place in
          let row = w.in-Some.row.now in
          let inside : place < length rows = search rules in
          let is : row ≡ get_or rows place row = search rules in
          let then : c.after-self.result ≡ next.Row (place + 1) =
          after_now ∙ ap (λ n. after n (length rows)) w.in-Row.is
          ∙ after_row place (length rows) inside in
          let piece = csv_text (row_fields (row_view row) ∷ []) in
          gives_bytes piece
          (ap (λ o. o.items) w.out-is ∙ w.in_ok-push_record-in-Some.ensures)
          (record_some (row_fields (row_view row)))
          (ap (left_from listing) w.in-Row.is ∙ record_of_row rows place row inside is
          ∙ ap (λ n. piece ++ left_from listing n) (sym then))
    ]
