use Rattle.std.proofs.Common.{◌≡◌, ◌+◌, ◌<◌, ◌≤◌, ◌++◌, ◌∙◌, nat_lt, length, get_or, ap, sym, append-nil, rules}
use Rattle.reg_print.specs.Parts.{end_text, entry_text, front_text}
use Rattle.reg_print.proofs.ComparedTexts.{entry_some}
use Rattle.reg_pages.specs.Portions.{after}
use Rattle.reg_site.specs.Tree.{left_from}
use Rattle.reg_pages.specs.declared.portions.Next.TheVariants as next
use Rattle.reg_pages.proofs.Portioned.{after_last, after_row, gives_bytes}
use Rattle.reg_site.proofs.Portioned.{end_some, entries_none, entry_then, front_some, tree_parts}
use Rattle.reg_site.proofs.tree.RegistryTreePortions.push_next.Goals as goal
use Rattle.reg_site.proofs.tree.RegistryTreePortions.push_next.Goals.{in-Above+in_ok-extend_from_slice-in-Above, in-Row+in-None+in_ok-push_end-in-None, in-Row+in-Some+in_ok-push_entry-in-Some}

pub returns : goal.returns
returns c =
    let tree = c.args.self.now in
    let page = tree.page.now in
    let old = c.args.out.now.items in
    let entries = c.as_slice-entries.result.now in
    let same : entries ≡ page.entries = c.as_slice-entries.ensures in
    elim c.match-self.branch [
      | in-Above+in_ok-extend_from_slice-in-Above w ↦
          let then : c.after-self.result ≡ next.Row 0 =
          c.after-self.ensures ∙ ap (λ n. after n (length entries)) w.in-Above.is in
          gives_bytes front_text
          (ap (λ o. o.items) w.out-is ∙ w.in_ok-extend_from_slice-in-Above.ensures.items
          ∙ ap (λ t. old ++ t) w.front.ensures)
          front_some
          (ap (left_from tree) w.in-Above.is ∙ tree_parts page
          ∙ ap (λ n. front_text ++ left_from tree n) (sym then))
      | in-Row+in-Some+in_ok-push_entry-in-Some w ↦
          let place = w.in-Row.place in
          let entry = w.in-Some.entry.now in
          let inside : place < length entries = search rules in
          let is : entry ≡ get_or entries place entry = search rules in
          let piece = entry_text (nat_lt 0 place) entry in
          let then : c.after-self.result ≡ next.Row (place + 1) =
          c.after-self.ensures ∙ ap (λ n. after n (length entries)) w.in-Row.is
          ∙ after_row place (length entries) inside in
          gives_bytes piece
          (ap (λ o. o.items) w.out-is ∙ w.in_ok-push_entry-in-Some.ensures)
          (entry_some (nat_lt 0 place) entry)
          (ap (left_from tree) w.in-Row.is
          ∙ entry_then page place entry (rw same at inside) (rw same at is)
          ∙ ap (λ n. piece ++ left_from tree n) (sym then))
      | in-Row+in-None+in_ok-push_end-in-None w ↦
          let place = w.in-Row.place in
          let gone : length entries ≤ place = search rules in
          let then : c.after-self.result ≡ next.Nothing =
          c.after-self.ensures ∙ ap (λ n. after n (length entries)) w.in-Row.is
          ∙ after_last place (length entries) gone in
          gives_bytes (end_text page)
          (ap (λ o. o.items) w.out-is ∙ w.in_ok-push_end-in-None.ensures)
          (end_some page)
          (ap (left_from tree) w.in-Row.is
          ∙ entries_none page place (rw same at gone)
          ∙ sym (append-nil (end_text page))
          ∙ ap (λ n. end_text page ++ left_from tree n) (sym then))
    ]
