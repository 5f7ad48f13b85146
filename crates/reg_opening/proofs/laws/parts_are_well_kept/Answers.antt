use Rattle.reg_opening.proofs.AuditParts.{part_kept}
use Rattle.reg_opening.proofs.laws.parts_are_well_kept.Goals as goal

pub returns : goal.returns
returns c = part_kept
