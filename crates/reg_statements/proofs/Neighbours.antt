-- Where each value comes before the next, each comes before all after it.
use Rattle.std.proofs.Common.{◌≡◌, List, [], ◌∷◌, map}
use Rattle.std.specs.List.{AllByRecursion}
use Rattle.std.specs.List.Sorted.{IsStrictlySortedBy}
use Rattle.std.specs.declared.cmp.Ordering.{Ordering}
use Rattle.std.specs.declared.cmp.Ordering.TheVariants.{Less}
use Rattle.reg_maps.proofs.MapLaws.{IsKeyOrder}
use Rattle.reg_statements.specs.Loading.{IsAscending}

module _ {K T : Type 0} {R : K → K → Ordering} (o : IsKeyOrder R) (key : T → K) where
  after : (x y : K) → R x y ≡ Less → (zs : List K) → AllByRecursion (λ z. R y z ≡ Less) zs
      → AllByRecursion (λ z. R x z ≡ Less) zs
  after x y less [] all = tt
  after x y less (z ∷ zs) all = (o.total.trans x y z less all.0, after x y less zs all.1)

  pub strict : (xs : List T) → IsAscending (λ a b. R (key a) (key b)) xs
      → IsStrictlySortedBy R (map key xs)
  unfolding IsStrictlySortedBy
  strict [] up = tt
  strict (x ∷ []) up = (tt, tt)
  strict (x ∷ y ∷ more) up =
      let rest = strict (y ∷ more) up.1 in
      ((up.0, after (key x) (key y) up.0 (map key more) rest.0), rest)
