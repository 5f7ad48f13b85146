use Rattle.std.proofs.Common.{◌≡◌, ◌++◌, ◌∷◌, [], true, rules}
use Rattle.reg_statements.proofs.ReadLemmas.{now_unread, one_more, takes_one}
use Rattle.reg_statements.proofs.read.take_row.Goals as goal

pub returns-in_ok-take-in-Some-clause-taken : goal.returns-in_ok-take-in-Some-clause-taken
returns-in_ok-take-in-Some-clause-taken g c start rows before =
    let read : c.args.read ≡ true = search rules in
    let was = rw read at before in (
      was.0 ++ c.in-Some.value ∷ [],
      one_more g.T.Record.of rows c.args.row.now was.0 c.in-Some.value (search rules) was.1,
      takes_one g.K.Sink.Takes start c.args.sink.now c.take.new.self was.0 c.in-Some.value was.2
          (search rules),
    )

pub returns-in-None-clause-taken : goal.returns-in-None-clause-taken
returns-in-None-clause-taken g c start rows before =
    now_unread g.T.Record.of rows c.args.row.now (search rules)
