use Rattle.std.proofs.Common.{rules}
use Rattle.std.specs.List.{list_any}
use Rattle.std.proofs.lemmas.Fn.{filter_same}
use Rattle.reg_maps.specs.Maps.{same_text}
use Rattle.reg_core.specs.declared.capability.CapRow.{CapRow}
use Rattle.reg_registers.proofs.acts.those_at.Goals as goal

pub returns : goal.returns
returns c =
    filter_same _ (λ (row : CapRow). list_any (same_text row.digest) c.args.digests.now) _
    (λ x b f' k. search rules) _ _ c.retain.ensures.filtered
