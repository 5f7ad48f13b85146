use Rattle.std.proofs.Common.{◌≡◌, ℕ, List, sym, subst, Contains}
use Rattle.reg_blocks.proofs.InsertedPrefixes.{IsPlace, place-from_search, not_there, IsPool-insert, AddsPrefix-insert}
use Rattle.reg_blocks.proofs.pool.Pool.add.Goals.{In-Err}
use Rattle.reg_blocks.proofs.pool.Pool.add.Goals as goal

module _ (c : In-Err) where
  -- where the prefix goes, as the search says that does not find it
  place : IsPlace c.self.inside.prefixes.items c.args.prefix c.in-Err.at
  place =
      place-from_search c.self.inside.prefixes.items c.deref.result.now c.args.prefix c.in-Err.at
      c.deref.ensures.value c.self.invariant.ascending c.in-Err.ensures.position

  -- so it is not in the pool
  absent : (pool : List ℕ) → c.self.inside.prefixes.items ≡ pool → ¬ Contains pool c.args.prefix
  absent pool is h =
      not_there c.self.inside.prefixes.items c.args.prefix c.in-Err.at place
      (subst (λ (xs : List ℕ). Contains xs c.args.prefix) (sym is) h)

pub returns-then-is_err-clause-there : goal.returns-then-is_err-clause-there
returns-then-is_err-clause-there c =
    let searched = (goal.at.returns-then-is_err-clause-there c).In-Err in
    ((λ e. cc), (λ h. absurd (absent searched _ c.self.view_is h.1)))

pub invariant_of-self-2 : goal.invariant_of-self-2
invariant_of-self-2 c =
    rw (c.insert.ensures.items, c.if-is_err.ensures.negation)
    (IsPool-insert c.self.inside.prefixes.items c.args.prefix c.in-Err.at
    (place (goal.at.invariant_of-self-2 c).In-Err) (sym c.if-not-is_pool_prefix.ensures)
    c.self.invariant)

pub returns-clause-there : goal.returns-clause-there
returns-clause-there c =
    let searched = (goal.at.returns-clause-there c).In-Err in
    ((λ e. cc), (λ h. absurd (absent searched _ c.self.view_is h.1)))

pub returns-clause-added : goal.returns-clause-added
returns-clause-added c e =
    rw (c.insert.ensures.items, c.if-is_err.ensures.negation, ← c.self.view_is)
    (AddsPrefix-insert c.self.inside.prefixes.items c.args.prefix c.in-Err.at)
