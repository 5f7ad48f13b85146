use Rattle.std.proofs.Common.{refl}
use Rattle.reg_parse.specs.Route.{methods_at}
use Rattle.reg_parse.proofs.route.Routes.at.Goals as goal

pub returns-in-Ok : goal.returns-in-Ok
unfolding methods_at
returns-in-Ok c = rw (← c.self.invariant, c.in-Ok.ensures.found) refl

pub returns-in-Err : goal.returns-in-Err
unfolding methods_at
returns-in-Err c = rw (← c.self.invariant, c.in-Err.ensures.missing) refl
