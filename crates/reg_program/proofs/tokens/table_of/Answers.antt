use Rattle.std.proofs.Common.{◌∷◌, [], ◌++◌}
use Rattle.std.proofs.lemmas.List.{take_all}
use Rattle.std.proofs.lemmas.Result.{IfOk-weaker}
use Rattle.reg_program.specs.Tokens.{IsRecord, header}
use Rattle.reg_program.proofs.Listed.{one_record_more}
use Rattle.reg_program.proofs.tokens.table_of.Goals as goal

pub loop-row-init : goal.loop-row-init
loop-row-init c = ([], tt, c.in_ok-write_header.ensures [] c.empty-writer.ensures)

pub loop-row-preserved : goal.loop-row-preserved
loop-row-preserved c =
    let i = c.loop-row.row-index in
    let so_far = c.loop-row.invariant in
    let more = c.in_ok-write_row.ensures in (
      so_far.0 ++ more.0 ∷ [],
      one_record_more IsRecord c.args.rows.now i c.row-item.result so_far.0 more.0 c.loop-row-test.true
          c.row-item.is so_far.1 more.1,
      more.2 (header ∷ so_far.0) so_far.2,
    )

pub returns : goal.returns
returns c =
    let rows = c.args.rows.now in
    let i = c.loop-row.row-index in
    let all = c.loop-row.invariant in
    let each = rw (take_all i rows c.loop-row-test.false) at all.1 in
    IfOk-weaker c.text_of.result _ _
    (λ text whole. record { records = all.0; each = each; whole = whole })
    (c.text_of.ensures (header ∷ all.0) all.2)
