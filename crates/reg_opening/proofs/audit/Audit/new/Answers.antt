use Rattle.std.proofs.Common.{true, refl, Some}
use Rattle.reg_core.proofs.Keeping.FirstWorlds.{first_worlds_kept}
use Rattle.reg_opening.specs.declared.audit.Audit.{Audit}
use Rattle.reg_opening.proofs.KeptRows.{keeps_none}
use Rattle.reg_opening.proofs.audit.Audit.new.Goals as goal

pub returns-clause-world : goal.returns-clause-world
returns-clause-world c =
    let audit : Audit = record {
      caps = c.new.result;
      registries = c.new-2.result;
      standings = c.new-3.result;
      prefixes = c.new-4.result;
      holders = c.new-5.result;
      requests = c.new-6.result;
      seats = c.new-7.result;
      links = c.new-8.result;
      free = Some c.new-9.result;
      well_kept = true;
    } in record {
      says = ((λ h. first_worlds_kept.0), (λ h. refl));
      keeps = λ h.
          keeps_none audit c.new.ensures.empty c.new-2.ensures.empty c.new-3.ensures.empty
          c.new-4.ensures.empty c.new-5.ensures.empty c.new-6.ensures.empty
          c.new-7.ensures.empty c.new-8.ensures.empty c.new-9.ensures;
    }
