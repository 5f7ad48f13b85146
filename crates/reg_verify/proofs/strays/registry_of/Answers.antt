use Rattle.reg_verify.proofs.StrayFiles.{of_tree}
use Rattle.reg_verify.proofs.strays.registry_of.Goals as goal

pub returns-in-Some : goal.returns-in-Some
returns-in-Some c = of_tree c.args.file.now c.in-Some.name.now c.in-Some.ensures
