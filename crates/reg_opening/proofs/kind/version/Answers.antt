use Rattle.std.proofs.Common.{inl}
use Rattle.sqlite.specs.Held.{state}
use Rattle.reg_tables.proofs.Statements.{office_version}
use Rattle.reg_tables.proofs.SelectBeside.{version_shown}
use Rattle.reg_statements.proofs.ReadLemmas.{passed_on}
use Rattle.reg_opening.proofs.Causes.{query_cause}
use Rattle.reg_opening.proofs.OpenLemmas.{version_read, version_unread}
use Rattle.reg_opening.proofs.kind.version.Goals as goal

pub load-requires-clause-plain : goal.load-requires-clause-plain
load-requires-clause-plain g c = office_version.plain

pub returns-in-Some-clause-version : goal.returns-in-Some-clause-version
returns-in-Some-clause-version g c works has =
    let old = state g.S.Store c.args.conn.now in
    let new = state g.S.Store c.load.new.conn in
    let loaded = c.in_ok-rows.ensures in
    let found = rw c.in-Some.is at (loaded.rows works) in
    let rows = old.now.trees has.table.tree in
    let shown = version_shown old has new found.0 found.1 in
    let read = version_read rows found.0 c.in-Some.rows.items shown found.2 in
    rw (c.only.ensures, c.as_slice.ensures.value) read

pub returns-in-None-clause-version : goal.returns-in-None-clause-version
returns-in-None-clause-version g c works has =
    let old = state g.S.Store c.args.conn.now in
    let new = state g.S.Store c.load.new.conn in
    let loaded = c.in_ok-rows.ensures in
    let found = rw c.in-None.is at (loaded.rows works) in
    let shown = version_shown old has new found.0 found.1 in
    version_unread (old.now.trees has.table.tree) found.0 shown found.2

pub returns-in_err-rows-clause-fault : goal.returns-in_err-rows-clause-fault
returns-in_err-rows-clause-fault g c =
    passed_on _ c.from_residual.result c.in_err-rows.field-0.0 c.from_residual.ensures.1
    (query_cause _ (state g.S.Store c.args.conn.now) c.load.new.conn _ c.in_err-rows.ensures.stays inl
    c.in_err-rows.ensures.fault)
