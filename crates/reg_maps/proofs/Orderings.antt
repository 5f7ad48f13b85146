-- What the outcome of a comparison is, by tests of it.
use Rattle.std.proofs.Common.{◌≡◌, true, false, ◌&&◌, T, refl, sym, subst}
use Rattle.std.specs.declared.cmp.Ordering.{Ordering}
use Rattle.std.specs.declared.cmp.Ordering.TheVariants.{Less, Equal, Greater}
use Rattle.std.specs.Ordering.{is_lt, is_eq, ordering_then, ordering_reverse}

pub less : (r : Ordering) → T (is_lt r) → r ≡ Less
less Less h = refl
less Equal h = absurd h
less Greater h = absurd h

pub equal : (r : Ordering) → is_eq r ≡ true → r ≡ Equal
equal Less p = absurd (subst T (sym p) tt)
equal Equal p = refl
equal Greater p = absurd (subst T (sym p) tt)

-- what is less is no tie
pub not_eq_of_lt : (r : Ordering) → T (is_lt r) → is_eq r ≡ false
not_eq_of_lt Less p = refl
not_eq_of_lt Equal p = absurd p
not_eq_of_lt Greater p = absurd p

-- what is its own reverse is a tie
pub self_tie : (r : Ordering) → r ≡ ordering_reverse r → r ≡ Equal
self_tie Less e = absurd (subst (λ r. T (is_lt r)) e tt)
self_tie Equal e = refl
self_tie Greater e = absurd (subst (λ r. T (is_lt r)) (sym e) tt)

-- what is less by its first part is less
pub lt_then : (x y : Ordering) → T (is_lt x) → T (is_lt (ordering_then x y))
lt_then Less y h = tt
lt_then Equal y h = absurd h
lt_then Greater y h = absurd h

-- pairs tie where both parts do
pub tie : (x y : Ordering) → is_eq (ordering_then x y) ≡ (is_eq x && is_eq y)
tie Less y = refl
tie Equal y = refl
tie Greater y = refl
