-- Sameness of tables is an equivalence.
use Rattle.std.specs.Cmp.{IsEquivalence}
use Rattle.std.specs.Cmp.Lexicographic.{options_equiv}
use Rattle.std.proofs.lemmas.Cmp.{nat_eq_equiv, nat_list_eq_equiv, lists_equiv, on_equiv, and_equiv}
use Rattle.reg_ranges.specs.Words.{treatment_word}
use Rattle.reg_ranges.specs.Sameness.{same_range, same_table}

ranges_equiv : IsEquivalence same_range
ranges_equiv =
    and_equiv (on_equiv (λ r. r.lo) nat_eq_equiv) (and_equiv (on_equiv (λ r. r.hi) nat_eq_equiv)
    (and_equiv (on_equiv (λ r. treatment_word r.treatment) nat_list_eq_equiv)
    (on_equiv (λ r. r.note) (options_equiv nat_list_eq_equiv))))

-- sameness of tables is an equivalence
pub tables_equiv : IsEquivalence same_table
tables_equiv =
    and_equiv (on_equiv (λ t. t.max) nat_eq_equiv)
    (on_equiv (λ t. t.ranges) (lists_equiv ranges_equiv))
