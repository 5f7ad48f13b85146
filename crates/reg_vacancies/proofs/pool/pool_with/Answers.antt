use Rattle.std.proofs.Common.{◌≡◌, ◌∷◌, [], length, sym, ap, ◌∙◌, map, rules}
use Rattle.std.specs.Prelude.{Some}
use Rattle.std.specs.FinMap.{insert, keys}
use Rattle.std.specs.List.{slice_get}
use Rattle.std.specs.Map.Iter.{deref}
use Rattle.std.proofs.lemmas.List.{map-append}
use Rattle.std.proofs.lemmas.Map.Iter.{iter_end, iter_turn}
use Rattle.reg_vacancies.specs.Pool.{prefix_set}
use Rattle.reg_vacancies.proofs.PrefixSets.{keys-prefix_set, prefix_set-push, each_clear}
use Rattle.reg_vacancies.proofs.pool.pool_with.Goals as goal

pub put_prefix-requires : goal.put_prefix-requires
put_prefix-requires c =
    let at : slice_get c.args.prefixes.now.keys (length c.loop-prefix.yielded)
    ≡ Some c.in-Some.prefix.now = search (rules, iter_turn) in
    each_clear c.args.prefixes.now.keys (length c.loop-prefix.yielded) c.in-Some.prefix.now
    c.requires.clear at

pub loop-prefix-preserved : goal.loop-prefix-preserved
loop-prefix-preserved c =
    let prefix = c.in-Some.prefix.now in
    c.in_ok-put_prefix.ensures.ok
    ∙ ap (λ set. insert set prefix tt) c.loop-prefix.invariant
    ∙ sym (prefix_set-push (map deref c.loop-prefix.yielded) prefix)
    ∙ ap prefix_set (sym (map-append deref c.loop-prefix.yielded (c.in-Some.prefix ∷ [])))

pub returns : goal.returns
returns c =
    let all : map deref c.loop-prefix.yielded ≡ c.args.prefixes.now.keys =
    search (rules, iter_end) in
    sym (keys-prefix_set c.loop-prefix.pool c.prefixes-prefixes.ensures.ascending)
    ∙ ap keys (c.loop-prefix.invariant ∙ ap prefix_set all)
    ∙ keys-prefix_set c.args.prefixes.now.keys c.requires.ascending
