use Rattle.std.proofs.Common.{rules}
use Rattle.std.proofs.lemmas.Fn.{filter_same}
use Rattle.reg_core.specs.CapRows.{is_of}
use Rattle.reg_registers.proofs.capabilities.those_of.Goals as goal

pub returns : goal.returns
returns c =
    filter_same _ (is_of c.args.account.now) _ (λ x b f' k. search rules) _ _
    c.retain.ensures.filtered
