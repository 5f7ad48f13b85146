use Rattle.std.proofs.Common.{IsTrue, inl, refl, rules}
use Rattle.sqlite.specs.Held.{state}
use Rattle.reg_tables.proofs.Enduring.{endures_still}
use Rattle.reg_statements.proofs.ReadLemmas.{passed_on}
use Rattle.reg_opening.proofs.kind.find_office.Goals as goal

pub returns-then-not-branch-clause-reads : goal.returns-then-not-branch-clause-reads
returns-then-not-branch-clause-reads g c =
    let old = state g.S.Store c.args.conn.now in
    record {
      rest = c.requires;
      endures = endures_still old;
      stays = record { worked = λ h. h; unchanged = λ h. refl };
      found = λ works has.
          let told : IsTrue c.in_ok-has_tables.field-0 = c.in_ok-has_tables.ensures.has.exact has in
          search rules;
    }

pub returns-in-Ok-clause-reads : goal.returns-in-Ok-clause-reads
returns-in-Ok-clause-reads g c =
    let read = c.in_ok-free.ensures in
    let told : IsTrue c.in_ok-has_tables.field-0 = search rules in
    let has = c.in_ok-has_tables.ensures.has.sure told in
    record {
      rest = read.idle;
      endures = read.endures;
      stays = read.stays;
      found = λ works. (refl, has, λ begins. rw c.in-Ok.is at (read.rows works begins));
    }

pub returns-in-Err-clause-reads : goal.returns-in-Err-clause-reads
returns-in-Err-clause-reads g c =
    let read = c.in_ok-free.ensures in
    let told : IsTrue c.in_ok-has_tables.field-0 = search rules in
    let has = c.in_ok-has_tables.ensures.has.sure told in
    record {
      rest = read.idle;
      endures = read.endures;
      stays = read.stays;
      found = λ works. (has, λ begins. rw c.in-Err.is at (read.rows works begins));
    }

pub returns-in_err-has_tables-clause-fault : goal.returns-in_err-has_tables-clause-fault
returns-in_err-has_tables-clause-fault g c =
    passed_on _ c.from_residual.result c.in_err-has_tables.field-0.0 c.from_residual.ensures.1
    (record { why = inl c.in_err-has_tables.ensures.fault })
