use Rattle.std.proofs.Common.{◌++◌, ap, sym, ◌∙◌, map, rules}
use Rattle.reg_maps.proofs.MapLaws.{text_keys}
use Rattle.reg_maps.proofs.FiniteMaps.InOrder.{entries-finite_map}
use Rattle.reg_core.specs.CapRows.{cap_row}
use Rattle.reg_store.proofs.lists.caps.caps_in.Goals as goal

pub returns : goal.returns
returns c =
    c.from_vec.ensures
    ∙ c.in_ok-push_rows.ensures cap_row (λ digest cap row made. search rules)
    ∙ ap (λ rows. rows ++ map (λ e. cap_row e.0 e.1) c.args.caps.now.entries)
    c.in_ok-rows.ensures.items
    ∙ sym (ap (λ es. map (λ e. cap_row e.0 e.1) es)
    (entries-finite_map text_keys c.args.caps.now c.len.ensures.ordered))
