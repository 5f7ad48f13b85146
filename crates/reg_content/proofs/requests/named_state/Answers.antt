use Rattle.std.proofs.Common.{ap}
use Rattle.sqlite.specs.Values.{bound_value}
use Rattle.reg_records.specs.Requests.Values.{state_values}
use Rattle.reg_records.proofs.RequestLaws.Steps.{◌⊕◌, one}
use Rattle.reg_records.proofs.RequestLaws.Written.{bound-each}
use Rattle.reg_content.proofs.requests.named_state.Goals as goal

pub returns : goal.returns
returns c =
    one (ap bound_value c.name_value.ensures)
    ⊕ one (ap bound_value c.name_value-2.ensures)
    ⊕ bound-each c.state_values.result 3 (state_values c.args.state.now) c.state_values.ensures
