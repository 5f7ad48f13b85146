-- Carrying a decision out.
use Rattle.std.specs.Prelude.{ℕ, Result}
use Rattle.reg_core.specs.Advice.{is_advised}
use Rattle.reg_core.specs.Allowance.{ground_of}
use Rattle.reg_core.specs.Answer.{case_by}
use Rattle.reg_core.specs.Request.{case_of, request_row}
use Rattle.reg_core.specs.Rules.{approve_rule}
use Rattle.reg_core.specs.View.{Published}
use Rattle.reg_core.specs.WellKept.{CanApply}
use Rattle.reg_core.specs.World.{World}
use Rattle.reg_core.specs.declared.decide.Decision.{Decision}
use Rattle.reg_core.specs.declared.decide.Decision.TheVariants.{Make, Same}
use Rattle.reg_core.specs.declared.case_file.CaseFile.{CaseFile}
use Rattle.reg_core.specs.declared.refusal.Refusal.{Refusal}
use Rattle.reg_core.specs.declared.request.Request.{Request}

-- the change of a decision fits the world, if there is one
abbrev pub CanMake : World → Decision → Type 0
CanMake w (Make change) = CanApply w change
CanMake w Same = Unit {0}

-- a request's row after a decision about it
abbrev pub row_by : Decision → Request → Request
row_by decision row = request_row (row.account, row.reference) (case_by decision (case_of row))

-- what is decided of an approval, over the published registers and the request's file
abbrev pub approval_of : Published → CaseFile → ℕ → Result Decision Refusal
approval_of p file today =
    let row = file.request in
    approve_rule (ground_of p row.ask) (is_advised file.experts file.advice)
    (row.account, row.reference) row.ask today row.state
