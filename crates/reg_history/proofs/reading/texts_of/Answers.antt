use Rattle.std.proofs.Common.{arith}
use Rattle.csv.specs.Records.{fields_of}
use Rattle.reg_history.proofs.Rows.{has, missing, texts_are}
use Rattle.reg_history.proofs.reading.texts_of.Goals as goal

pub returns-in_err-text_at : goal.returns-in_err-text_at
returns-in_err-text_at c = λ number digest r e utf8 is.
    absurd
    (missing (fields_of c.args.row.now) number digest r e utf8 is 0 c.text_at.result (omega arith)
    c.text_at.ensures c.in_err-text_at.was)

pub returns-in_err-text_at-2 : goal.returns-in_err-text_at-2
returns-in_err-text_at-2 c = λ number digest r e utf8 is.
    absurd
    (missing (fields_of c.args.row.now) number digest r e utf8 is 1 c.text_at-2.result (omega arith)
    c.text_at-2.ensures c.in_err-text_at-2.was)

pub returns-in_err-text_at-3 : goal.returns-in_err-text_at-3
returns-in_err-text_at-3 c = λ number digest r e utf8 is.
    absurd
    (missing (fields_of c.args.row.now) number digest r e utf8 is 2 c.text_at-3.result (omega arith)
    c.text_at-3.ensures c.in_err-text_at-3.was)

pub returns-in_err-text_at-4 : goal.returns-in_err-text_at-4
returns-in_err-text_at-4 c = λ number digest r e utf8 is.
    absurd
    (missing (fields_of c.args.row.now) number digest r e utf8 is 3 c.text_at-4.result (omega arith)
    c.text_at-4.ensures c.in_err-text_at-4.was)

pub returns-in_err-text_at-5 : goal.returns-in_err-text_at-5
returns-in_err-text_at-5 c = λ number digest r e utf8 is.
    absurd
    (missing (fields_of c.args.row.now) number digest r e utf8 is 4 c.text_at-5.result (omega arith)
    c.text_at-5.ensures c.in_err-text_at-5.was)

pub returns-in_err-text_at-6 : goal.returns-in_err-text_at-6
returns-in_err-text_at-6 c = λ number digest r e utf8 is.
    absurd
    (missing (fields_of c.args.row.now) number digest r e utf8 is 5 c.text_at-6.result (omega arith)
    c.text_at-6.ensures c.in_err-text_at-6.was)

pub returns-in_err-text_at-7 : goal.returns-in_err-text_at-7
returns-in_err-text_at-7 c = λ number digest r e utf8 is.
    absurd
    (missing (fields_of c.args.row.now) number digest r e utf8 is 6 c.text_at-7.result (omega arith)
    c.text_at-7.ensures c.in_err-text_at-7.was)

pub returns-in_err-text_at-8 : goal.returns-in_err-text_at-8
returns-in_err-text_at-8 c = λ number digest r e utf8 is.
    absurd
    (missing (fields_of c.args.row.now) number digest r e utf8 is 7 c.text_at-8.result (omega arith)
    c.text_at-8.ensures c.in_err-text_at-8.was)

pub returns-in_err-text_at-9 : goal.returns-in_err-text_at-9
returns-in_err-text_at-9 c = λ number digest r e utf8 is.
    absurd
    (missing (fields_of c.args.row.now) number digest r e utf8 is 8 c.text_at-9.result (omega arith)
    c.text_at-9.ensures c.in_err-text_at-9.was)

pub returns-in_err-text_at-10 : goal.returns-in_err-text_at-10
returns-in_err-text_at-10 c = λ number digest r e utf8 is.
    absurd
    (missing (fields_of c.args.row.now) number digest r e utf8 is 9 c.text_at-10.result (omega arith)
    c.text_at-10.ensures c.in_err-text_at-10.was)

pub returns-in_err-text_at-11 : goal.returns-in_err-text_at-11
returns-in_err-text_at-11 c = λ number digest r e utf8 is.
    absurd
    (missing (fields_of c.args.row.now) number digest r e utf8 is 10 c.text_at-11.result (omega arith)
    c.text_at-11.ensures c.in_err-text_at-11.was)

pub returns : goal.returns
returns c = λ number digest r e utf8 is.
    let fields = fields_of c.args.row.now in
    texts_are number r.moment digest r.change
    c.in_ok-text_at.field-0.now c.in_ok-text_at-2.field-0.now c.in_ok-text_at-3.field-0.now c.in_ok-text_at-4.field-0.now c.in_ok-text_at-5.field-0.now c.in_ok-text_at-6.field-0.now c.in_ok-text_at-7.field-0.now c.in_ok-text_at-8.field-0.now c.in_ok-text_at-9.field-0.now c.in_ok-text_at-10.field-0.now c.in_ok-text_at-11.field-0.now
    (has fields number digest r e utf8 is 0 c.text_at.result c.in_ok-text_at.field-0 (omega arith)
    c.text_at.ensures c.in_ok-text_at.was)
    (has fields number digest r e utf8 is 1 c.text_at-2.result c.in_ok-text_at-2.field-0 (omega arith)
    c.text_at-2.ensures c.in_ok-text_at-2.was)
    (has fields number digest r e utf8 is 2 c.text_at-3.result c.in_ok-text_at-3.field-0 (omega arith)
    c.text_at-3.ensures c.in_ok-text_at-3.was)
    (has fields number digest r e utf8 is 3 c.text_at-4.result c.in_ok-text_at-4.field-0 (omega arith)
    c.text_at-4.ensures c.in_ok-text_at-4.was)
    (has fields number digest r e utf8 is 4 c.text_at-5.result c.in_ok-text_at-5.field-0 (omega arith)
    c.text_at-5.ensures c.in_ok-text_at-5.was)
    (has fields number digest r e utf8 is 5 c.text_at-6.result c.in_ok-text_at-6.field-0 (omega arith)
    c.text_at-6.ensures c.in_ok-text_at-6.was)
    (has fields number digest r e utf8 is 6 c.text_at-7.result c.in_ok-text_at-7.field-0 (omega arith)
    c.text_at-7.ensures c.in_ok-text_at-7.was)
    (has fields number digest r e utf8 is 7 c.text_at-8.result c.in_ok-text_at-8.field-0 (omega arith)
    c.text_at-8.ensures c.in_ok-text_at-8.was)
    (has fields number digest r e utf8 is 8 c.text_at-9.result c.in_ok-text_at-9.field-0 (omega arith)
    c.text_at-9.ensures c.in_ok-text_at-9.was)
    (has fields number digest r e utf8 is 9 c.text_at-10.result c.in_ok-text_at-10.field-0 (omega arith)
    c.text_at-10.ensures c.in_ok-text_at-10.was)
    (has fields number digest r e utf8 is 10 c.text_at-11.result c.in_ok-text_at-11.field-0 (omega arith)
    c.text_at-11.ensures c.in_ok-text_at-11.was)
