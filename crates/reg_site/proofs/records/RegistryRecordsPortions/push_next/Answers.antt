use Rattle.std.proofs.Common.{◌≡◌, ◌+◌, ◌<◌, ◌≤◌, ◌++◌, ◌∙◌, length, get_or, map, ap, sym, append-nil, rules}
use Rattle.std.proofs.lemmas.List.{drop_all}
use Rattle.reg_print.specs.Listing.{row_view}
use Rattle.reg_pages.specs.Markup.{markup_then}
use Rattle.reg_pages.specs.Portions.{after}
use Rattle.reg_site.specs.Records.{above_records, below_records, left_from, notes_of, record_of, records_after, title_of}
use Rattle.reg_pages.specs.Noted.{noted_in}
use Rattle.reg_pages.specs.declared.portions.Next.TheVariants as next
use Rattle.reg_pages.proofs.Portioned.{after_last, after_row, at_place, gives}
use Rattle.reg_site.proofs.Portioned.{above_records_some, below_records_some, record_some, records_parts}
use Rattle.reg_site.proofs.records.RegistryRecordsPortions.push_next.Goals as goal
use Rattle.reg_site.proofs.records.RegistryRecordsPortions.push_next.Goals.{in-Above+in_ok-push_above-in-Above, in-Row+in-None+in_ok-push-in-None, in-Row+in-Some+in_ok-push_record-in-Some}

pub returns : goal.returns
returns c =
    let html = c.args.self.now in
    let page = html.page.now in
    let notes = notes_of html in
    let day = html.day.now in
    let title = title_of (noted_in notes page.name) page.name in
    let rows = html.rows.items in
    let long : c.len.result ≡ length rows = search rules in
    let after_now : c.after-self.result ≡ after html.next (length rows) =
    c.after-self.ensures ∙ ap (after html.next) long in
    elim c.match-self.branch [
      | in-Above+in_ok-push_above-in-Above w ↦
          let then : c.after-self.result ≡ next.Row 0 =
          after_now ∙ ap (λ n. after n (length rows)) w.in-Above.is in
          gives (rw (sym w.out-is) at w.in_ok-push_above-in-Above.ensures)
          (above_records_some page.name title day page.table.ranges)
          (ap (left_from html) w.in-Above.is
          ∙ records_parts notes page.name day page.table.ranges (map row_view rows)
          ∙ ap (λ n. above_records page.name title day page.table.ranges (left_from html n)) (sym then))
      | in-Row+in-Some+in_ok-push_record-in-Some w ↦
          let place = w.in-Row.place in
          let row = w.in-Some.row.now in
          let inside : place < length rows = search rules in
          let is : row ≡ get_or rows place row = search rules in
          let then : c.after-self.result ≡ next.Row (place + 1) =
          after_now ∙ ap (λ n. after n (length rows)) w.in-Row.is
          ∙ after_row place (length rows) inside in
          gives (rw (sym w.out-is, w.as_str.ensures.text) at w.in_ok-push_record-in-Some.ensures.bytes) (record_some notes page.name (row_view row))
          (ap (left_from html) w.in-Row.is
          ∙ ap (λ left. records_after notes page.name (map row_view left)) (at_place rows place row inside is)
          ∙ ap (λ n. markup_then (record_of notes page.name (row_view row)) (left_from html n)) (sym then))
      | in-Row+in-None+in_ok-push-in-None w ↦
          let place = w.in-Row.place in
          let gone : length rows ≤ place = search rules in
          let then : c.after-self.result ≡ next.Nothing =
          after_now ∙ ap (λ n. after n (length rows)) w.in-Row.is
          ∙ after_last place (length rows) gone in
          gives (rw (sym w.out-is) at w.in_ok-push-in-None.ensures) below_records_some
          (ap (left_from html) w.in-Row.is
          ∙ ap (λ left. records_after notes page.name (map row_view left)) (drop_all place rows gone)
          ∙ sym (append-nil below_records)
          ∙ ap (λ n. below_records ++ left_from html n) (sym then))
    ]
