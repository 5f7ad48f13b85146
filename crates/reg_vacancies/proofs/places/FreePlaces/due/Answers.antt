use Rattle.std.proofs.Common.{sym, ap, ◌∙◌}
use Rattle.std.specs.FinMap.{keys}
use Rattle.std.proofs.Math.Logic.{∥∥₁_elim}
use Rattle.std.proofs.Props.{props}
use Rattle.reg_blocks.specs.Due.{block_due}
use Rattle.reg_vacancies.specs.PoolPlaces.{pool_of}
use Rattle.reg_vacancies.specs.Places.{places_in}
use Rattle.reg_vacancies.proofs.PrefixSets.{keys-prefix_set}
use Rattle.reg_vacancies.proofs.places.FreePlaces.due.Goals as goal

pub returns : goal.returns
unfolding places_in
returns c = λ blocks left.
    let places = c.args.self.now.places in
    let given = keys blocks in
    ∥∥₁_elim left (Prim.hlevel props) (λ follows.
    c.due.ensures.trial given follows
    ∙ sym (ap (λ pool. block_due pool given c.args.size)
    (keys-prefix_set (pool_of places) c.prefixes-prefixes.ensures.pool.ascending)))
