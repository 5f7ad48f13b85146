use Rattle.reg_tables.specs.Schema.{office_schema}
use Rattle.reg_tables.proofs.DefineTexts.{all_defined, all_named}
use Rattle.reg_tables.proofs.MakeLemmas.{blank_made, on_ok}
use Rattle.reg_tables.proofs.make.make_all.Goals as goal

pub returns-clause-made : goal.returns-clause-made
returns-clause-made g c clean =
    on_ok c.make_each.result (λ makes. blank_made _ _ makes) (c.make_each.ensures.made clean)

pub returns-clause-gained : goal.returns-clause-gained
returns-clause-gained g c clean =
    on_ok c.make_each.result (λ gains. gains office_schema.tables all_defined all_named)
    (c.make_each.ensures.gained clean)
