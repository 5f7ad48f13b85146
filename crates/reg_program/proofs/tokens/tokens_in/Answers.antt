use Rattle.std.proofs.Common.{List, subst, ◌∙◌}
use Rattle.std.proofs.lemmas.Result.{err_from_is_err_and}
use Rattle.reg_core.specs.declared.capability.CapRow.{CapRow}
use Rattle.reg_program.specs.Printing.{Prints}
use Rattle.reg_program.specs.Tokens.{IsTokenTable}
use Rattle.reg_program.proofs.Did.{ends_printing, fault_is_common, printing_is_common, stops}
use Rattle.reg_program.proofs.Results.{err_as}
use Rattle.reg_program.proofs.tokens.tokens_in.Goals as goal

pub returns-in_err-rows-clause-does : goal.returns-in_err-rows-clause-does
returns-in_err-rows-clause-does g c =
    let looked = c.in_err-rows in
    stops g.K.Keeper.world g.K.Keeper.Holds g.K.Keeper.Sound g.K.Keeper.FAILS c.args.office.now
    c.tokens.new.self _ _ _ looked.field-0.0 c.from_residual.ensures.1
    looked.ensures.premise looked.ensures.fault looked.ensures.same

pub returns-in_err-rows-clause-why : goal.returns-in_err-rows-clause-why
returns-in_err-rows-clause-why g c =
    let p = err_from_is_err_and c.from_residual.result c.from_residual.ensures.1 in
    rw (p.1, p.2) (fault_is_common c.in_err-rows.field-0.0)

pub returns-clause-does : goal.returns-clause-does
returns-clause-does g c =
    let given = c.in_ok-rows.ensures in
    let had = g.W.Write.contents c.args.output.now in
    let has = g.W.Write.contents c.print_rows.new.output in
    ends_printing g.K.Keeper.world g.K.Keeper.Holds g.K.Keeper.Sound g.K.Keeper.FAILS
    c.args.office.now c.tokens.new.self _ _ c.print_rows.result
    (Prints had has (IsTokenTable c.into_vec.result.items)) c.print_rows.ensures.ok
    c.print_rows.ensures.err given.premise
    (λ h printed. (
      given.same h,
      subst (λ (rows : List CapRow). Prints had has (IsTokenTable rows)) (c.into_vec.ensures ∙ given.value h)
          printed,
    ))
    (λ h why of. given.same h)

pub returns-clause-why : goal.returns-clause-why
returns-clause-why g c =
    err_as c.print_rows.result printing_is_common c.print_rows.ensures.err

pub returns-in_err-rows-clause-looks : goal.returns-in_err-rows-clause-looks
returns-in_err-rows-clause-looks g c = c.in_err-rows.ensures.same

pub returns-clause-looks : goal.returns-clause-looks
returns-clause-looks g c = c.in_ok-rows.ensures.same
