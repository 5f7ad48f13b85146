use Rattle.std.proofs.Common.{◌≡◌, ◌+◌, ◌<◌, ◌≤◌, ◌++◌, ◌∙◌, length, get_or, drop, map, ap, sym, append-nil, rules}
use Rattle.std.proofs.lemmas.List.{drop_all}
use Rattle.reg_print.specs.Listing.{row_view}
use Rattle.reg_pages.specs.Markup.{markup_then}
use Rattle.reg_pages.specs.Portions.{after}
use Rattle.reg_site.specs.Registry.{above_rows, left_from, noted_row, notes_of, rows_left}
use Rattle.reg_pages.specs.Noted.{note_of_row}
use Rattle.reg_site.specs.Summary.{summary}
use Rattle.reg_pages.specs.Table.{below_rows}
use Rattle.reg_pages.specs.declared.portions.Next.TheVariants as next
use Rattle.reg_pages.proofs.Portioned.{after_last, after_row, at_place, below_some, gives}
use Rattle.reg_site.proofs.Portioned.{above_some, page_parts, row_some}
use Rattle.reg_site.proofs.registry.RegistryPagePortions.push_next.Goals as goal
use Rattle.reg_site.proofs.registry.RegistryPagePortions.push_next.Goals.{in-Above+in_ok-push_above-in-Above, in-Row+in-None+in_ok-push_below-in-None, in-Row+in-Some+in_ok-push_entry-in-Some}

pub returns : goal.returns
returns c =
    let html = c.args.self.now in
    let page = html.page.now in
    let notes = notes_of html in
    let changed = html.changed.now in
    let rows = html.rows.items in
    let long : c.len.result ≡ length rows = search rules in
    let after_now : c.after-self.result ≡ after html.next (length rows) =
    c.after-self.ensures ∙ ap (after html.next) long in
    elim c.match-self.branch [
      | in-Above+in_ok-push_above-in-Above w ↦
          let then : c.after-self.result ≡ next.Row 0 =
          after_now ∙ ap (λ n. after n (length rows)) w.in-Above.is in
          gives (rw (sym w.out-is) at w.in_ok-push_above-in-Above.ensures)
          (above_some notes changed page.name (summary page) page.entries page.table.ranges)
          (ap (left_from html) w.in-Above.is
          ∙ page_parts notes changed page.name (summary page) page.entries page.table.ranges (map row_view rows)
          ∙ ap (λ n. above_rows notes changed page.name (summary page) page.entries page.table.ranges (left_from html n)) (sym then))
      | in-Row+in-Some+in_ok-push_entry-in-Some w ↦
          let place = w.in-Row.place in
          let row = w.in-Some.row.now in
          let inside : place < length rows = search rules in
          let is : row ≡ get_or rows place row = search rules in
          let then : c.after-self.result ≡ next.Row (place + 1) =
          after_now ∙ ap (λ n. after n (length rows)) w.in-Row.is
          ∙ after_row place (length rows) inside in
          let named = w.as_str.result.now in
          let left = rows_left notes page.name (map row_view (drop (place + 1) rows)) in
          gives (rw (sym w.out-is) at w.in_ok-push_entry-in-Some.ensures.bytes)
          (row_some (note_of_row notes named (row_view row)) (row_view row))
          (ap (left_from html) w.in-Row.is
          ∙ ap (λ left. rows_left notes page.name (map row_view left)) (at_place rows place row inside is)
          ∙ ap (λ name. markup_then (noted_row notes name (row_view row)) left) (sym w.as_str.ensures.text)
          ∙ ap (λ n. markup_then (noted_row notes named (row_view row)) (left_from html n)) (sym then))
      | in-Row+in-None+in_ok-push_below-in-None w ↦
          let place = w.in-Row.place in
          let gone : length rows ≤ place = search rules in
          let then : c.after-self.result ≡ next.Nothing =
          after_now ∙ ap (λ n. after n (length rows)) w.in-Row.is
          ∙ after_last place (length rows) gone in
          gives (rw (sym w.out-is) at w.in_ok-push_below-in-None.ensures) below_some
          (ap (left_from html) w.in-Row.is
          ∙ ap (λ left. rows_left notes page.name (map row_view left)) (drop_all place rows gone)
          ∙ sym (append-nil below_rows)
          ∙ ap (λ n. below_rows ++ left_from html n) (sym then))
    ]
