use Rattle.std.proofs.Common.{ap, sym, ◌∙◌, rules}
use Rattle.reg_maps.specs.Maps.{text_cmp}
use Rattle.reg_maps.specs.Groups.{pair_map}
use Rattle.reg_maps.proofs.FiniteMaps.InOrder.{text_group}
use Rattle.reg_core.specs.Request.{request_row, request_rows}
use Rattle.reg_store.proofs.lists.requests.own_rows.Goals as goal

pub returns : goal.returns
returns c =
    c.from_vec.ensures
    ∙ c.in_ok-list_group.ensures (λ name case. request_row name case)
    (λ reference case row made. search rules)
    ∙ ap request_rows
    (sym (text_group (pair_map text_cmp text_cmp c.args.requests.now) c.args.account.now))
