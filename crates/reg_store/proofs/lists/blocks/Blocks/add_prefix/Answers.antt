use Rattle.std.proofs.lemmas.Result.{on_err_weaker}
use Rattle.reg_store.specs.Lists.Holdings.{blocks_held}
use Rattle.reg_store.proofs.lists.blocks.Blocks.add_prefix.Goals as goal

pub invariant_of-self : goal.invariant_of-self
invariant_of-self c =
    let self = c.args.self.now in
    record { left = c.add_prefix.ensures.left (blocks_held self.holdings) self.left }

pub returns-clause-err : goal.returns-clause-err
returns-clause-err c =
    on_err_weaker c.add_prefix.result (λ same. same.pool) c.add_prefix.ensures.err
