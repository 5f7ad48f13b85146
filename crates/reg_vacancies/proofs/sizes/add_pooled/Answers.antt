use Rattle.std.proofs.Common.{ap, ◌∙◌, inl, inr}
use Rattle.std.specs.BTreeMap.{is_at}
use Rattle.std.specs.BTreeSet.{contains}
use Rattle.std.specs.Ordering.{nat_cmp}
use Rattle.std.specs.Set.{remove_key}
use Rattle.reg_vacancies.proofs.Pooling.{adds_key, is_key, no_key, pooled_less, pooled_more, removed_inserted, was_new, was_there}
use Rattle.reg_vacancies.proofs.sizes.add_pooled.Goals as goal

pub returns-then-not-branch-clause-pool : goal.returns-then-not-branch-clause-pool
returns-then-not-branch-clause-pool c =
    adds_key c.args.prefixes.now c.insert.new.self c.args.prefix c.in_ok-insert.ensures.updates

pub returns-in-Ok-clause-pool : goal.returns-in-Ok-clause-pool
returns-in-Ok-clause-pool c =
    adds_key c.args.prefixes.now c.insert.new.self c.args.prefix c.in_ok-insert.ensures.updates

pub returns-then-not-branch-clause-ok : goal.returns-then-not-branch-clause-ok
returns-then-not-branch-clause-ok c = λ block.
    let there =
    (is_key c.args.prefixes.now c.args.prefix).0
    (was_there (contains nat_cmp c.args.prefixes.now c.args.prefix) c.in_ok-insert.field-0
    c.in_ok-insert.ensures.added c.if-not-branch.true) in (
      (λ free. inr free),
      (λ either. elim either [ inl (e, absent) ↦ absurd (absent there) | inr free ↦ free ]),
    )

pub returns-in-Ok-clause-pooled : goal.returns-in-Ok-clause-pooled
returns-in-Ok-clause-pooled c =
    pooled_more c.args.prefixes.now c.insert.new.self c.args.prefix c.in_ok-insert.ensures.updates
    c.args.large.now c.args.medium.now c.args.small.now c.add_places.new.large
    c.add_places.new.medium c.add_places.new.small c.requires.pooled c.in_ok-insert.ensures.keys
    c.in_ok-insert.ensures.ordered c.requires.form
    (λ block free. (rw c.from.ensures at c.in-Ok.ensures.ok block).0 free)

pub returns-in-Ok-clause-ok : goal.returns-in-Ok-clause-ok
returns-in-Ok-clause-ok c = λ block.
    let gains = rw c.from.ensures at c.in-Ok.ensures.ok block in (
      (λ free. elim (gains.0 free) [
        | inl e ↦ inl (
          e,
          no_key c.args.prefixes.now c.args.prefix (was_new (contains nat_cmp c.args.prefixes.now c.args.prefix) c.in_ok-insert.field-0
              c.in_ok-insert.ensures.added c.if-not-branch.false),
        )
        | inr was ↦ inr was
      ]),
      (λ either. elim either [ inl (e, none) ↦ gains.1 (inl e) | inr was ↦ gains.1 (inr was) ]),
    )

pub returns-in-Err-clause-err_pool : goal.returns-in-Err-clause-err_pool
returns-in-Err-clause-err_pool c =
    c.remove.ensures.keys
    ∙ ap (remove_key (is_at (nat_cmp c.args.prefix))) c.in_ok-insert.ensures.keys
    ∙ removed_inserted c.args.prefixes.now.keys c.args.prefix (was_new (contains nat_cmp c.args.prefixes.now c.args.prefix) c.in_ok-insert.field-0
    c.in_ok-insert.ensures.added c.if-not-branch.false)

pub returns-in-Err-clause-pooled : goal.returns-in-Err-clause-pooled
returns-in-Err-clause-pooled c =
    pooled_less c.args.prefixes.now c.remove.new.self c.args.large.now c.args.medium.now
    c.args.small.now c.add_places.new.large c.add_places.new.medium c.add_places.new.small
    (returns-in-Err-clause-err_pool c) (λ block free. (c.in-Err.ensures.err block).0 free)
    c.requires.pooled
