use Rattle.std.proofs.Common.{Ok}
use Rattle.reg_parse.specs.Route.{with_row, fits}
use Rattle.reg_parse.proofs.Routing.{inserted, fails_for_memory}
use Rattle.reg_parse.proofs.route.insert.Goals as goal
use Rattle.reg_parse.proofs.route.insert.Goals.{in-OutOfMemory, in_default-matches}

pub prove-unreachable-requires : goal.prove-unreachable-requires
unfolding fits
prove-unreachable-requires c =
    let gave = rw c.in-Err.is at c.insert.ensures in
    let memory =
    fails_for_memory _ c.args.methods c.args.router.now c.insert.new.self c.in-Err.error gave
    c.requires in
    elim c.match-matches.branch [
      | in-OutOfMemory w ↦ cc
      | in_default-matches w ↦
          w.in_default-matches.not-OutOfMemory memory
    ]

pub returns : goal.returns
unfolding with_row
returns c =
    let gave = rw c.in_default.is at c.insert.ensures in
    inserted _ c.args.methods c.args.router.now c.insert.new.self (Ok c.in_default.field-0) gave
