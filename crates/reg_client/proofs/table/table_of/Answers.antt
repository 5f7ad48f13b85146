use Rattle.std.proofs.Common.{◌∷◌, [], Some, map, take, subst}
use Rattle.std.proofs.lemmas.List.{take_all}
use Rattle.reg_print.specs.Records.{HasWritten}
use Rattle.reg_print.proofs.WrittenRecords.{records_more}
use Rattle.reg_client.specs.Table.{due_fields, due_header, due_text}
use Rattle.reg_client.proofs.table.table_of.Goals as goal

pub loop-one-init : goal.loop-one-init
loop-one-init c = c.in_ok-write_header.ensures [] c.empty-writer.ensures

pub loop-one-preserved : goal.loop-one-preserved
loop-one-preserved c =
    let due = c.args.due.now in
    let i = c.loop-one.one-index in
    subst (λ records. HasWritten (λ v. Some v.items) c.write_row.new.writer records)
    (records_more due_fields due_header due i c.one-item.result c.loop-one-test.true c.one-item.is)
    (c.in_ok-write_row.ensures (due_header ∷ map due_fields (take i due)) c.loop-one.invariant)

-- all were written
pub returns : goal.returns
unfolding due_text
returns c =
    let due = c.args.due.now in
    let i = c.loop-one.one-index in
    rw (take_all i due c.loop-one-test.false) at
    (c.text_of.ensures (due_header ∷ map due_fields (take i due)) c.loop-one.invariant)
