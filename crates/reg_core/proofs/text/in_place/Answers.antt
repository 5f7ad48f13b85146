use Rattle.reg_core.proofs.Places.{over_zeros}
use Rattle.reg_core.proofs.text.in_place.Goals as goal

pub returns : goal.returns
returns g c =
    over_zeros g.row.N c.args.bytes.now c.copy_from_slice.new.self c.copy_from_slice.ensures.after
