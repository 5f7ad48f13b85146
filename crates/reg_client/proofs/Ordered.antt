-- Allocations that are sorted by a closure.
use Rattle.std.proofs.Common.{◌≡◌, ℕ, List}
use Rattle.std.specs.Ordering.{nat_cmp}
use Rattle.std.specs.List.Sorted.{IsSortedByKey}
use Rattle.std.specs.Fn.{Called, ComputesKey}
use Rattle.std.proofs.lemmas.Fn.{always_returns_same}
use denote.Param.Members.{Mut}
use denote.Ref.{Bor}
use Rattle.reg_maps.specs.Maps.{pair_cmp, text_cmp}
use Rattle.reg_client.specs.Table.{IsInDueOrder, due_place}
use Rattle.reg_client.specs.declared.allocation.DueAllocation.{DueAllocation}

-- by one that gives the place of each
pub in_due_order : {F : Type 0} {g : Mut F (Bor DueAllocation × Unit {0}) (ℕ × (List ℕ × ℕ))} {f : F}
    (due : List DueAllocation)
    → ((key : DueAllocation → ℕ × (List ℕ × ℕ)) → ComputesKey g key f
    → IsSortedByKey key (pair_cmp nat_cmp (pair_cmp text_cmp nat_cmp)) due)
    → ((a : Bor DueAllocation × Unit {0}) (r : ℕ × (List ℕ × ℕ)) (f' : F) → Called g f a r f'
    → (r ≡ due_place a.0.now) × (f' ≡ f))
    → IsInDueOrder due
in_due_order {g = g} {f = f} due sorted called =
    sorted due_place (always_returns_same g (λ a r. r ≡ due_place a.0.now) f called)
