use Rattle.std.proofs.Common.{◌≡◌, ◌+◌, ◌∷◌, [], ◌++◌, take, sym, ap, subst, ◌∙◌, ◌↔◌}
use Rattle.std.specs.Prelude.{Contains}
use Rattle.std.proofs.lemmas.List.{take_more, take_all}
use Rattle.reg_rows.proofs.PoolRowsListed.{one_more, same_prefixes}
use Rattle.reg_rows.proofs.pool.pool_of.Goals as goal

pub loop-prefix-preserved : goal.loop-prefix-preserved
loop-prefix-preserved c =
    let i = c.loop-prefix.prefix-index in
    let prefixes = c.args.prefixes.now in
    let prefix = c.prefix-item.result in
    let new = c.put_prefix.new.pool in
    let adds = rw c.number.ensures at c.in_ok-put_prefix.ensures in
    let longer : take (i + 1) prefixes ≡ take i prefixes ++ prefix ∷ [] =
    take_more prefixes i prefix c.loop-prefix-test.true
    ∙ ap (λ p. take i prefixes ++ p ∷ []) (sym c.prefix-item.is) in
    λ q. subst (λ xs. Contains new q ↔ Contains xs q) (sym longer)
    (one_more c.loop-prefix.pool new (take i prefixes) prefix adds c.loop-prefix.invariant q)

pub returns : goal.returns
returns c =
    let pool = c.loop-prefix.pool in
    let all = take_all c.loop-prefix.prefix-index c.args.prefixes.now c.loop-prefix-test.false in
    same_prefixes pool c.args.prefixes.now c.prefixes-prefixes.ensures.ascending c.requires
    (λ q. subst (λ xs. Contains pool q ↔ Contains xs q) all (c.loop-prefix.invariant q))
