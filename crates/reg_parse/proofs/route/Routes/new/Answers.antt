use Rattle.std.proofs.Common.{refl}
use Rattle.matchit.proofs.OnLiterals.{matchit_on_literals}
use Rattle.reg_parse.specs.Route.{routes, with_row, fits}
use Rattle.reg_parse.proofs.route.Routes.new.Goals as goal

pub insert_all-requires : goal.insert_all-requires
unfolding matchit_on_literals with_row fits
insert_all-requires c = rw c.new-router.ensures refl

pub invariant_of-result : goal.invariant_of-result
unfolding routes
invariant_of-result c = rw (c.in_ok-insert_all.ensures, c.new-router.ensures) refl
