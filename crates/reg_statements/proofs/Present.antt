-- Whether a table has a row of a key.
use Rattle.std.proofs.Common.{◌≡◌, inl, inr, Bool, true, false, List, Option, None, IsSome}
use Rattle.std.proofs.Common.{refl, sym, subst}
use Rattle.std.proofs.lemmas.Bool.{both_ways}
use Rattle.std.specs.declared.cmp.Ordering.{Ordering}
use Rattle.std.specs.FinMap.{get}
use Rattle.sqlite_rules.specs.Lists.{Has}
use Rattle.sqlite_rules.proofs.ListLemmas.{has_filtered, has_kept}
use Rattle.reg_maps.specs.RowMaps.{held_in, IsTable, PassesAt}
use Rattle.reg_maps.proofs.MapLaws.{IsKeyOrder}
use Rattle.reg_maps.proofs.RowMaps.Alone.{alone_at}

module _ {A K X : Type 0} {R : K → K → Ordering} (o : IsKeyOrder R) {of : A → Option (K × X)}
    (test : A → Bool) (k : K) (at : PassesAt R of test k) (rows : List A) (table : IsTable R of rows)
  where
    -- where no row passes, the table holds nothing at the key
    pub none_held : ((row : A) → Has rows row → test row ≡ false)
        → get (held_in {R = R} of rows) k ≡ None
    none_held none = elim (alone_at o rows test k table at) [
      | inl empty ↦ empty.1
      | inr one ↦
          let kept = has_filtered test rows one.row
          (subst (λ l. Has l one.row) (sym one.alone) (inl refl)) in
          absurd (both_ways (test one.row) (none one.row kept.0) kept.1)
    ]

    -- where some row passes, it holds something
    pub some_held : (row : A) × Has rows row × (test row ≡ true)
        → IsSome (get (held_in {R = R} of rows) k)
    some_held passed = elim (alone_at o rows test k table at) [
      | inl empty ↦
          absurd (subst (λ l. Has l passed.0) empty.0 (has_kept test rows passed.0 passed.1 passed.2))
      | inr one ↦ subst IsSome (sym one.is) refl
    ]
