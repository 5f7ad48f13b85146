use Rattle.std.proofs.Common.{◌≡◌, true, false, Ok, arith, subst, sym}
use Rattle.std.proofs.lemmas.Bool.Decides.{nat_tests}
use Rattle.std.specs.Prelude.{nat_lt}
use Rattle.sqlite.specs.Held.{state}
use Rattle.reg_tables.specs.Version.{table_count}
use Rattle.reg_statements.proofs.ReadLemmas.{passed_on}
use Rattle.reg_opening.specs.Numbered.{ShowsNumbered}
use Rattle.reg_opening.proofs.Causes.{cause_wider}
use Rattle.reg_opening.proofs.FedTables.{feeds_nothing, feeds_part}
use Rattle.reg_opening.proofs.feed.VecPart.feed.Goals as goal

pub feed_table-requires-clause-plain : goal.feed_table-requires-clause-plain
feed_table-requires-clause-plain g c = c.all.ensures.selects.plain

pub returns-then-tables-slot-clause-feeds : goal.returns-then-tables-slot-clause-feeds
returns-then-tables-slot-clause-feeds g c =
    let lacks : nat_lt g.T.FedRow.table.slot (table_count c.args.reading.version) ≡ false =
    grind (arith, nat_tests) in
    feeds_nothing g.T.FedRow.table g.met.T.FedRow.defined g.T.Record.of g.met.T.FedRow.reads
    g.met.T.FedRow.behind g.met.T.FedRow.placed g.T.Fed.row_of g.T.FedRow.put g.T.FedRow.Before
    g.T.FedRow.IsTied g.met.T.FedRow.fed c.args.reading.version (state g.S.Store c.args.conn.now)
    c.args.feeder.now.audit lacks c.requires

pub returns-clause-feeds : goal.returns-clause-feeds
returns-clause-feeds g c =
    let old = state g.S.Store c.args.conn.now in
    let new = state g.S.Store c.feed_table.new.conn in
    let fed = c.in_ok-is_whole.ensures in
    let has : nat_lt g.T.FedRow.table.slot (table_count c.args.reading.version) ≡ true =
    grind (arith, nat_tests) in
    rw c.end.ensures.audit
    (feeds_part g.T.FedRow.table g.met.T.FedRow.defined g.T.Record.of g.met.T.FedRow.reads
    g.met.T.FedRow.behind g.met.T.FedRow.placed g.T.Fed.row_of g.T.FedRow.put g.T.FedRow.Before
    g.T.FedRow.IsTied g.met.T.FedRow.fed c.args.reading.version old new c.args.feeder.now.audit
    c.feed_table.new.feeder.audit _ c.all.ensures has (Ok c.in_ok-is_whole.is_whole) fed.idle
    fed.endures fed.stays fed.free fed.rows)

pub returns-in_err-is_whole-clause-fault : goal.returns-in_err-is_whole-clause-fault
returns-in_err-is_whole-clause-fault g c =
    passed_on _ c.from_residual.result c.in_err-is_whole.field-0.0 c.from_residual.ensures.1
    (cause_wider _ _ _
    (λ sql rows shows. (subst (ShowsNumbered g.T.FedRow.table) (sym shows.0) c.all.ensures, shows.1))
    c.in_err-is_whole.ensures.fault)
