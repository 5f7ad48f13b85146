use Rattle.std.proofs.lemmas.Result.{IfErr-weaker, IfOk-weaker}
use Rattle.reg_opening.specs.Rowids.{ordered_tables}
use Rattle.reg_opening.proofs.Causes.{cause_wider}
use Rattle.reg_opening.proofs.RowidStatements.{all_rowids, asks_rowids, plain_rowids, rowid_texts}
use Rattle.reg_opening.proofs.rowids.check_rowids.Goals as goal

pub check_each-requires-clause-plain : goal.check_each-requires-clause-plain
check_each-requires-clause-plain g c = plain_rowids rowid_texts ordered_tables all_rowids

pub returns-clause-keyed : goal.returns-clause-keyed
returns-clause-keyed g c h begins =
    IfOk-weaker c.check_each.result _ _ (λ done keys. keys ordered_tables all_rowids)
    (c.check_each.ensures.keyed h begins)

pub returns-clause-fault : goal.returns-clause-fault
returns-clause-fault g c =
    IfErr-weaker c.check_each.result _ _ (λ fault cause.
    cause_wider _ _ fault (λ sql rows shows.
    (asks_rowids rowid_texts ordered_tables all_rowids sql shows.0, shows.1)) cause)
    c.check_each.ensures.fault
