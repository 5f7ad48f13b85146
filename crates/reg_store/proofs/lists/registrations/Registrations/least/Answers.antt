use Rattle.reg_store.specs.Lists.Registrations.{entries_held}
use Rattle.reg_store.proofs.lists.registrations.Registrations.least.Goals as goal

pub returns : goal.returns
returns c =
    let self = c.args.self.now in
    c.least.ensures (entries_held self) self.in_step
