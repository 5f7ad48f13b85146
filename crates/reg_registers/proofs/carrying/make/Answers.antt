use Rattle.std.proofs.Common.{sym, subst}
use Rattle.reg_core.specs.WellKept.{CanApply}
use Rattle.reg_core.specs.World.{World}
use Rattle.reg_registers.proofs.Deeds.{makes_recorded}
use Rattle.reg_registers.proofs.carrying.make.Goals as goal

pub record-requires : goal.record-requires
record-requires g c = λ h.
    let found = c.in-Ok.ensures in
    let was = found.premise.before h in
    subst (λ (w : World). CanApply w c.args.change) (sym (found.same h))
    (c.requires was (g.met.K.Keeper.well_kept c.args.keeper.now was))

pub returns-in-Ok : goal.returns-in-Ok
returns-in-Ok g c =
    makes_recorded c.args.stamp c.args.change c.in-Ok.ensures c.as_slice.ensures c.record.ensures
