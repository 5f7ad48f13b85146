use Rattle.std.proofs.Common.{subst}
use Rattle.reg_source.specs.Hashed.{FeedsHasher}
use Rattle.reg_source.proofs.Feeding.{taken_gathered}
use Rattle.reg_source.proofs.replacement.gather_hashed.Goals as goal

pub returns-clause-fed : goal.returns-clause-fed
returns-clause-fed g c =
    taken_gathered c.in_ok-more.more c.args.hasher.now c.update.new.self c.gather.new.gathered.items
    (g.P.Portions.rest c.args.bytes.now) (g.P.Portions.rest c.gather.new.bytes) c.in_ok-more.ensures
    (subst (FeedsHasher c.args.hasher.now c.update.new.self) c.as_slice.ensures.value c.update.ensures)
