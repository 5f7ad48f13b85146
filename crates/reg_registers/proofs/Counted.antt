-- Entries that are counted one registry after the other.
use Rattle.std.proofs.Common.{◌≡◌, ◌<◌, ◌+◌, ◌++◌, ℕ, List, [], ◌∷◌, ap, ◌∙◌, cond, take, get_or, add-one}
use Rattle.std.proofs.Common.{length, length-append}
use Rattle.std.specs.List.{flat_map}
use Rattle.std.proofs.Math.Seq.{take-suc}
use Rattle.std.proofs.lemmas.Grind.{flat_map-append}
use Rattle.std.proofs.lemmas.List.{append-nil}
use Rattle.std.proofs.lemmas.List.Sums.{sum_by-append}
use Rattle.reg_early.specs.Terms.{status_on}
use Rattle.reg_early.specs.declared.term.Status.TheVariants.{Temporary, Expired}
use Rattle.reg_core.specs.Page.{entry_rows}
use Rattle.reg_core.specs.View.{entries_of}
use Rattle.reg_core.specs.World.{World}
use Rattle.reg_core.specs.declared.entry.Entry.{Entry}
use Rattle.reg_core.specs.Counting.{entries_in, entry_counts, plus, same_status}

-- the counts of two lists together
counts-append : (today : ℕ) (a b : List Entry)
    → entry_counts today (a ++ b) ≡ plus (entry_counts today a) (entry_counts today b)
counts-append today a b = λ i. record {
  all = length-append a b i;
  temporary =
      sum_by-append (λ (e : Entry). cond (same_status (status_on e.term today) Temporary) 1 0) a b i;
  expired =
      sum_by-append (λ (e : Entry). cond (same_status (status_on e.term today) Expired) 1 0) a b i;
  held = sum_by-append (λ (e : Entry). cond e.term.held 1 0) a b i;
}

-- the entries of one registry more
pub counts-next : (today : ℕ) (names : List (List ℕ)) (i : ℕ) (name : List ℕ) (w : World)
    → i < length names → get_or names i name ≡ name
    → entry_counts today (entries_in (take (i + 1) names) w)
    ≡ plus (entry_counts today (entries_in (take i names) w))
    (entry_counts today (entry_rows (entries_of name w.entries)))
counts-next today names i name w inside here =
    let of : List ℕ → List Entry = λ n. entry_rows (entries_of n w.entries) in
    rw add-one
    (ap (λ ns. entry_counts today (flat_map of ns)) (take-suc names i name inside)
    ∙ ap (entry_counts today)
    (flat_map-append of (take i names) (get_or names i name ∷ [])
    ∙ ap (λ rows. flat_map of (take i names) ++ rows) (append-nil (of (get_or names i name)))
    ∙ ap (λ n. flat_map of (take i names) ++ of n) here)
    ∙ counts-append today (entries_in (take i names) w) (of name))
