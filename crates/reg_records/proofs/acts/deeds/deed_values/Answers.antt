use Rattle.std.proofs.Common.{◌∙◌, ap}
use Rattle.sqlite.specs.Values.{bound_value}
use Rattle.sqlite.specs.declared.types.Value.TheVariants.{Text}
use Rattle.reg_core.specs.ActKind.{act_kind_word}
use Rattle.reg_records.specs.Deeds.{who_values}
use Rattle.reg_records.proofs.DeedLaws.{done_parts}
use Rattle.reg_records.proofs.RequestLaws.Steps.{◌⊕◌, one}
use Rattle.reg_records.proofs.RequestLaws.Written.{bound-each}
use Rattle.reg_records.proofs.acts.deeds.deed_values.Goals as goal

pub returns : goal.returns
returns c =
    let deed = c.args.deed.now in
    one (ap bound_value c.word_value.ensures
    ∙ ap (λ kind. Text (act_kind_word kind)) c.of.ensures)
    ⊕ ((bound-each c.who_values.result 4 (who_values deed) c.who_values.ensures
    ⊕ one c.registry_value.ensures ⊕ one c.value_value.ensures ⊕ one c.size_value.ensures)
    ∙ done_parts deed)
