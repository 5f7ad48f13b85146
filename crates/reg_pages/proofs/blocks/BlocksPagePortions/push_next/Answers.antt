use Rattle.std.proofs.Common.{◌≡◌, ◌+◌, ◌<◌, ◌≤◌, ◌++◌, ◌∙◌, Some, length, get_or, drop, ap, sym, append-nil, rules}
use Rattle.std.proofs.lemmas.List.{drop_all}
use Rattle.reg_pages.specs.Blocks.{above_rows, left_from, lines_of, prefix_of, row_behind, rows_left}
use Rattle.reg_pages.specs.Markup.{markup_then}
use Rattle.reg_pages.specs.Portions.{after}
use Rattle.reg_pages.specs.Table.{below_rows}
use Rattle.reg_pages.specs.declared.portions.Next.TheVariants as next
use Rattle.reg_pages.proofs.Portioned.{after_last, after_row, at_place, below_some, blocks_above_some, blocks_parts, gives, row_some}
use Rattle.reg_pages.proofs.blocks.BlocksPagePortions.push_next.Goals as goal
use Rattle.reg_pages.proofs.blocks.BlocksPagePortions.push_next.Goals.{in-Above+in_ok-push_above-in-Above, in-Row+in-None+in_ok-push_below-in-None, in-Row+in-Some+in_ok-push_row-in-Some}

pub returns : goal.returns
returns c =
    let html = c.args.self.now in
    let rows = html.rows.now in
    let lines = lines_of html in
    elim c.match-self.branch [
      | in-Above+in_ok-push_above-in-Above w ↦
          let then : c.after-self.result ≡ next.Row 0 =
          c.after-self.ensures ∙ ap (λ n. after n (length rows)) w.in-Above.is in
          gives (rw (sym w.out-is) at w.in_ok-push_above-in-Above.ensures) (blocks_above_some lines rows)
          (ap (left_from html) w.in-Above.is ∙ blocks_parts lines rows
          ∙ ap (λ before. above_rows lines rows (rows_left before rows)) (sym w.before-is)
          ∙ ap (λ n. above_rows lines rows (left_from (record html { before = c.match-self.before }) n))
          (sym then))
      | in-Row+in-Some+in_ok-push_row-in-Some w ↦
          let place = w.in-Row.place in
          let row = w.in-Some.row.now in
          let left = drop (place + 1) rows in
          let inside : place < length rows = search rules in
          let is : row ≡ get_or rows place row = search rules in
          let then : c.after-self.result ≡ next.Row (place + 1) =
          c.after-self.ensures ∙ ap (λ n. after n (length rows)) w.in-Row.is
          ∙ after_row place (length rows) inside in
          let now : c.match-self.before ≡ Some (prefix_of row.block) =
          w.before-is ∙ ap Some w.prefix_of.ensures in
          gives (rw (sym w.out-is) at w.in_ok-push_row-in-Some.ensures.bytes) (row_some html.before row)
          (ap (left_from html) w.in-Row.is
          ∙ ap (rows_left html.before) (at_place rows place row inside is)
          ∙ ap (λ before. markup_then (row_behind html.before row) (rows_left before left)) (sym now)
          ∙ ap (λ n. markup_then (row_behind html.before row) (left_from (record html { before = c.match-self.before }) n))
          (sym then))
      | in-Row+in-None+in_ok-push_below-in-None w ↦
          let place = w.in-Row.place in
          let gone : length rows ≤ place = search rules in
          let then : c.after-self.result ≡ next.Nothing =
          c.after-self.ensures ∙ ap (λ n. after n (length rows)) w.in-Row.is
          ∙ after_last place (length rows) gone in
          gives (rw (sym w.out-is) at w.in_ok-push_below-in-None.ensures) below_some
          (ap (left_from html) w.in-Row.is
          ∙ ap (rows_left html.before) (drop_all place rows gone)
          ∙ sym (append-nil below_rows)
          ∙ ap (λ n. below_rows ++ left_from (record html { before = c.match-self.before }) n) (sym then))
    ]
