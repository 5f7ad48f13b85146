use Rattle.std.proofs.Common.{List, sym, ap, ◌∙◌}
use Rattle.reg_core.specs.declared.capability.CapRow.{CapRow}
use Rattle.reg_core.specs.declared.reply.Reply.TheVariants.{Accepted}
use Rattle.reg_core.specs.declared.told.Told.TheVariants.{Capabilities}
use Rattle.reg_registers.proofs.capabilities.list_all.Goals as goal

pub returns : goal.returns
returns g c =
    let rows = c.in_ok-by_account.ensures in
    (λ clerk. record {
      told = λ h.
          ap (λ (rows : List CapRow). Accepted (Capabilities rows))
          (sym (c.from_vec.ensures ∙ rows.value h));
      made = rows.same;
      refused = λ h. tt;
      kept = λ h. tt;
      premise = rows.premise;
      fault = tt;
    })
