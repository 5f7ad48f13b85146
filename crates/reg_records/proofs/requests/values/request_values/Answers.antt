use Rattle.std.proofs.Common.{◌∙◌, ap}
use Rattle.sqlite.specs.Values.{bound_value}
use Rattle.reg_records.specs.Requests.Values.{block_wanted_values, early_shown_values, shown_values, state_values, wanted_values}
use Rattle.reg_records.proofs.RequestLaws.Steps.{◌⊕◌, one}
use Rattle.reg_records.proofs.RequestLaws.Written.{bound-each, asked_columns}
use Rattle.reg_records.proofs.requests.values.request_values.Goals as goal

pub returns : goal.returns
returns c =
    let ask = c.args.request.now.ask in
    let state = c.args.request.now.state in
    let wanted = bound-each c.wanted_values.result 4 (wanted_values ask) c.wanted_values.ensures in
    let shown = bound-each c.shown_values.result 6 (shown_values ask) c.shown_values.ensures in
    let early =
    bound-each c.early_shown_values.result 6 (early_shown_values ask)
    c.early_shown_values.ensures in
    let block =
    bound-each c.block_wanted_values.result 3 (block_wanted_values ask)
    c.block_wanted_values.ensures in
    one (ap bound_value c.name_value.ensures)
    ⊕ one (ap bound_value c.name_value-2.ensures)
    ⊕ one (ap bound_value c.kind_value.ensures)
    ⊕ ((((wanted ⊕ shown) ⊕ early) ⊕ block) ∙ asked_columns ask)
    ⊕ bound-each c.state_values.result 3 (state_values state) c.state_values.ensures
