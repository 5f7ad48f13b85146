use Rattle.std.proofs.Common.{◌++◌, List, ℕ, ap, sym, ◌∙◌, rules}
use Rattle.std.specs.Map.{keys_of}
use Rattle.reg_maps.proofs.MapLaws.{text_keys}
use Rattle.reg_maps.proofs.FiniteMaps.InOrder.{keys-finite_map}
use Rattle.reg_ranges.specs.Tables.{Table}
use Rattle.reg_store.proofs.lists.registries.names_in.Goals as goal

pub returns : goal.returns
returns c =
    c.from_vec.ensures
    ∙ c.in_ok-push_rows.ensures (λ (name : List ℕ) (table : Table). name)
    (λ name table copy made. search rules)
    ∙ ap (λ names. names ++ keys_of c.args.registries.now.entries) c.in_ok-names.ensures.items
    ∙ sym (keys-finite_map text_keys c.args.registries.now c.len.ensures.ordered)
