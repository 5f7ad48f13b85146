use Rattle.std.proofs.Common.{ap, ◌∙◌}
use Rattle.std.specs.Prelude.{filter, map}
use Rattle.std.specs.List.{list_any}
use Rattle.reg_maps.specs.Maps.{same_text}
use Rattle.reg_core.specs.declared.capability.CapRow.{CapRow}
use Rattle.reg_registers.specs.Acts.{act_of_row}
use Rattle.reg_registers.proofs.Selected.{selects_made}
use Rattle.reg_registers.proofs.acts.revocations.Goals as goal

pub returns : goal.returns
returns g c =
    selects_made c.in_ok-rows.ensures (λ w found.
    c.in_ok-rows_went.ensures
    ∙ ap (map (act_of_row c.args.stamp))
    (c.those_at.ensures
    ∙ ap (filter (λ (row : CapRow). list_any (same_text row.digest) c.args.digests.now)) found))
