-- Which record comes next in a text.
use Rattle.std.proofs.Common.{◌≡◌, ◌≢◌, ℕ, ◌+◌, ◌<◌, ◌^◌, false, List, ◌++◌, length, sym, ap, subst, ◌∙◌}
use Rattle.std.specs.Prelude.{Option, Some, None}
use Rattle.std.specs.Ordering.{is_le}
use Rattle.reg_maps.specs.Maps.{text_cmp}
use Rattle.reg_changes.specs.declared.change.HistoryRecord.{HistoryRecord}
use Rattle.reg_history.specs.Chain.{chained, next_line}
use Rattle.reg_history.specs.History.{IsHistory, NoneComes}
use Rattle.reg_history.specs.Reading.{BeginsWithRow, IsAt}
use Rattle.reg_history.specs.Written.{IsText}
use Rattle.reg_history.specs.declared.history.History.{History}
use Rattle.reg_history.specs.declared.reading.Records.{Records}
use Rattle.reg_history.proofs.Readings.{begins_with_row}

-- what a reader gives next is the record that this program has written there, if there is one
abbrev pub GivesNext : Records → Option HistoryRecord → Type 0
GivesNext records next =
    (text : List ℕ) (r : HistoryRecord) (rest : List ℕ) → IsAt records text → BeginsWithRow text r rest
    → IsText r → next ≡ Some r

module _ (h : History) (before : List HistoryRecord) (is : IsHistory h before)
    (counts : length h.chain.digests.items + 1 < 2 ^ 64) (records : Records) (text : List ℕ)
    (here : IsAt records text) where
  pub row_of : (r : HistoryRecord) (rest : List ℕ)
      → text ≡ next_line (chained before).digests r ++ rest → BeginsWithRow text r rest
  row_of r rest e =
      begins_with_row (chained before).digests r text rest
      (subst (λ ds. length ds + 1 < 2 ^ 64) is.digests counts) e

  pub none_given : GivesNext records None → NoneComes before text
  none_given gives r rest is_text ordered e = cc (gives text r rest here (row_of r rest e) is_text)

  pub out_of_order : (next : HistoryRecord) → GivesNext records (Some next)
      → is_le (text_cmp h.moment next.moment) ≡ false → NoneComes before text
  out_of_order next gives late r rest is_text ordered e =
      let same : next ≡ r = cc (gives text r rest here (row_of r rest e) is_text) in
      cc (sym late ∙ ap (λ m. is_le (text_cmp m next.moment)) is.moment
      ∙ ap (λ (x : HistoryRecord). is_le (text_cmp (chained before).moment x.moment)) same ∙ ordered)

  pub other_line : (next : HistoryRecord) (line : List ℕ) → GivesNext records (Some next)
      → line ≡ next_line (chained before).digests next → ((rest : List ℕ) → text ≢ line ++ rest)
      → NoneComes before text
  other_line next line gives is_line other r rest is_text ordered e =
      let same : next ≡ r = cc (gives text r rest here (row_of r rest e) is_text) in
      other rest
      (e ∙ ap (λ (x : HistoryRecord). next_line (chained before).digests x ++ rest) (sym same)
      ∙ ap (λ l. l ++ rest) (sym is_line))
