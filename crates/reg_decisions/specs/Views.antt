-- What an ask is given, as the code has it.
use Rattle.reg_core.specs.Award.{Tenure, for_good, early, renewed, settled, AwardedEntry, NewHolding, Award, awarded_entry, new_holding, Allowance}
use Rattle.reg_decisions.specs.declared.award.Award.{Award as AwardRow}
use Rattle.reg_decisions.specs.declared.award.Award.TheVariants.{Entry as EntryRow, Block as BlockRow}
use Rattle.reg_decisions.specs.declared.award.AwardedEntry.{AwardedEntry as AwardedEntryRow}
use Rattle.reg_decisions.specs.declared.award.Tenure.{Tenure as TenureRow}
use Rattle.reg_decisions.specs.declared.award.Tenure.TheVariants as row
use Rattle.reg_decisions.specs.declared.award.NewHolding.{NewHolding as NewHoldingRow}
use Rattle.reg_decisions.specs.declared.allowance.Allowance.{Allowance as AllowanceRow}

-- the same of what the code has, which borrows its parts from the ask, the account and the rows
abbrev pub tenure_view : TenureRow → Tenure
tenure_view row.ForGood = for_good
tenure_view row.Early = early
tenure_view (row.Renewed term) = renewed term.now
tenure_view (row.Settled term) = settled term.now

abbrev pub entry_view : AwardedEntryRow → AwardedEntry
entry_view e =
    record {
      registry = e.registry.now;
      value = e.value;
      label = e.label.now;
      assignee = e.assignee.now;
      tenure = tenure_view e.tenure;
    }

abbrev pub holding_view : NewHoldingRow → NewHolding
holding_view h = record {
  block = h.block.now;
  holder = h.holder.now;
  organization = h.organization.now;
  address = h.address.now;
}

abbrev pub award_view : AwardRow → Award
award_view (EntryRow e) = awarded_entry (entry_view e)
award_view (BlockRow h) = new_holding (holding_view h)

abbrev pub allowance_view : AllowanceRow → Allowance
allowance_view a = record { award = award_view a.award; needs_advice = a.needs_advice }
