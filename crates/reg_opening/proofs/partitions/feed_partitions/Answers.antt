use Rattle.std.proofs.Common.{◌≡◌, inl, inr, length, map, rules, subst}
use Rattle.reg_maps.proofs.MapLaws.{text_keys}
use Rattle.reg_opening.specs.Feeding.{FeedsRows}
use Rattle.reg_opening.specs.Partitions.{partition_of, partition_row}
use Rattle.reg_statements.proofs.Neighbours.{strict}
use Rattle.reg_opening.proofs.SharedOut.{left_not_owned, made_of_all}
use Rattle.reg_opening.proofs.partitions.feed_partitions.Goals as goal

pub returns-then-not-is_empty-clause-fed : goal.returns-then-not-is_empty-clause-fed
returns-then-not-is_empty-clause-fed g c =
    let gs = c.args.registries.now in
    let rows = c.args.rows.now in
    let up = c.are_ascending-else-not-are_ascending.ensures.0 (search rules) in
    let some : ¬ (length c.in_ok-shares.left.now ≡ 0) = search rules in (
      up,
      inl (left_not_owned gs rows c.in_ok-shares.left.now c.in_ok-shares.ensures.both.1
          (strict text_keys (λ g. g.name) gs (c.are_ascending.ensures.0 (search rules))) up some),
    )

pub returns-in_ok-feed_all-in-Some-clause-fed : goal.returns-in_ok-feed_all-in-Some-clause-fed
returns-in_ok-feed_all-in-Some-clause-fed g c =
    let gs = c.args.registries.now in
    let made = made_of_all gs c.args.rows.now c.in_ok-shares.left.now c.in_ok-shares.shares.items
    c.in_ok-all.field-0 (strict text_keys (λ g. g.name) gs (c.are_ascending.ensures.0 (search rules)))
    c.in_ok-shares.ensures.both (search rules) c.in_ok-all.ensures.found in
    let items : c.in-Some.all.items ≡ map (partition_of c.args.rows.now) gs = rw c.in-Some.is at made.1 in (
      c.are_ascending-else-not-are_ascending.ensures.0 (search rules),
      (
        made.0,
        subst (λ ps. FeedsRows c.args.audit.now c.feed_all.new.audit (map partition_row ps)) items
            c.in_ok-feed_all-in-Some.ensures.feeds,
      ),
    )

pub returns-in-None-clause-fed : goal.returns-in-None-clause-fed
returns-in-None-clause-fed g c =
    let gs = c.args.registries.now in
    let made = made_of_all gs c.args.rows.now c.in_ok-shares.left.now c.in_ok-shares.shares.items
    c.in_ok-all.field-0 (strict text_keys (λ g. g.name) gs (c.are_ascending.ensures.0 (search rules)))
    c.in_ok-shares.ensures.both (search rules) c.in_ok-all.ensures.found in
    (c.are_ascending-else-not-are_ascending.ensures.0 (search rules), inr (rw c.in-None.is at made.1))
