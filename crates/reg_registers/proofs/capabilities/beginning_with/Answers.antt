use Rattle.std.proofs.Common.{rules}
use Rattle.std.proofs.lemmas.Fn.{filter_same}
use Rattle.reg_core.specs.CapRows.{begins_with}
use Rattle.reg_registers.proofs.capabilities.beginning_with.Goals as goal

pub returns : goal.returns
returns c =
    filter_same _ (begins_with c.args.digits.now) _ (λ x b f' k. search rules) _ _
    c.retain.ensures.filtered
