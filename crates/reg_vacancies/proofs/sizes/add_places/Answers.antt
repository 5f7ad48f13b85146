use Rattle.std.proofs.Common.{◌+◌, ◌*◌, arith}
use Rattle.reg_blocks.specs.declared.size.Size.TheVariants.{MaL, MaM, MaS}
use Rattle.reg_vacancies.proofs.SizeSteps.{none_in}
use Rattle.reg_vacancies.proofs.sizes.add_places.Goals as goal

pub fill-requires-clause-absent : goal.fill-requires-clause-absent
fill-requires-clause-absent c =
    none_in MaL c.args.large.now c.args.medium.now c.args.small.now c.args.prefix c.args.prefix
    c.args.prefix c.requires.absent (omega arith) (omega arith)

pub add_smaller-requires-clause-no_medium : goal.add_smaller-requires-clause-no_medium
add_smaller-requires-clause-no_medium c =
    none_in MaM c.args.large.now c.args.medium.now c.args.small.now c.args.prefix
    (c.args.prefix * 16) (c.args.prefix * 16 + 15) c.requires.absent (omega arith) (omega arith)

pub add_smaller-requires-clause-no_small : goal.add_smaller-requires-clause-no_small
add_smaller-requires-clause-no_small c =
    none_in MaS c.args.large.now c.args.medium.now c.args.small.now c.args.prefix
    (c.args.prefix * 4096) (c.args.prefix * 4096 + 4095) c.requires.absent (omega arith)
    (omega arith)
