use Rattle.std.proofs.Common.{◌≡◌, [], IsTrue, List, inl, map, subst, sym}
use Rattle.std.specs.List.Sorted.{IsPermutation}
use Rattle.sqlite.specs.Effect.{Database}
use Rattle.sqlite.specs.Held.{state}
use Rattle.sqlite.specs.Order.{Row}
use Rattle.sqlite.specs.State.{Shown, State}
use Rattle.reg_records.specs.Ranges.{range_in}
use Rattle.reg_records.specs.Registries.{registry_in}
use Rattle.reg_tables.specs.Selecting.{BeginsWith, stored}
use Rattle.reg_tables.specs.declared.texts.TheConstants.{SELECT_RANGES, SELECT_REGISTRIES}
use Rattle.reg_tables.specs.Version.{table_count}
use Rattle.reg_tables.specs.declared.version.Version.{Version}
use Rattle.reg_tables.proofs.Statements.{all_ranges}
use Rattle.reg_tables.proofs.Statements.{all_registries}
use Rattle.reg_statements.specs.Content.{max_at, range_at}
use Rattle.reg_opening.specs.Audits.{knows_free}
use Rattle.reg_statements.proofs.ReadLemmas.{passed_on}
use Rattle.reg_opening.specs.Feeding.{tables_at}
use Rattle.reg_opening.proofs.Causes.{cause_later, query_cause}
use Rattle.reg_opening.proofs.Unfed.{unfed_cause}
use Rattle.reg_opening.proofs.FedParts.{feeds_after}
use Rattle.reg_opening.proofs.FedRegistries.{registries_told}
use Rattle.reg_opening.proofs.FedTables.{ranges_shown, registries_shown, unread_table}
use Rattle.reg_opening.proofs.partitions.RegistriesPart.feed.Goals as goal

-- the ranges are those that were there before the registries were read
ranges_before : (v : Version) (old mid new : State) (shown : List Row) → mid.now ≡ old.now
    → BeginsWith (table_count v) old.now.schema → Shown SELECT_RANGES.now [] mid new shown
    → IsPermutation (map (stored 5) (tables_at v old.now).ranges) shown
ranges_before v old mid new shown still schema answer =
    subst (λ (db : Database). IsPermutation (map (stored 5) (tables_at v db).ranges) shown) still
    (ranges_shown v mid new shown
    (subst (λ (db : Database). BeginsWith (table_count v) db.schema) (sym still) schema) answer)

pub load-requires-clause-plain : goal.load-requires-clause-plain
load-requires-clause-plain g c = all_registries.plain

pub returns-in_default-clause-feeds : goal.returns-in_default-clause-feeds
unfolding max_at
returns-in_default-clause-feeds g c =
    let v = c.args.reading.version in
    let old = state g.S.Store c.args.conn.now in
    let loaded = c.in_ok-registries.ensures in
    record {
      idle = loaded.idle;
      endures = loaded.endures;
      stays = loaded.stays;
      free = λ known. subst (λ audit. IsTrue (knows_free audit)) (sym c.end.ensures.audit) known;
      tells = λ works schema held kept.
          let found = rw c.in_default.is at (loaded.rows works) in
          unread_table (λ r. (r.name, r.max)) (stored 2) registry_in
          (tables_at v old.now).registries found.0
          (registries_shown v old (state g.S.Store c.load.new.conn) found.0 schema found.1) found.2
          held.registries;
    }

pub load-requires-2-clause-plain : goal.load-requires-2-clause-plain
load-requires-2-clause-plain g c = all_ranges.plain

pub returns-in_default-2-clause-feeds : goal.returns-in_default-2-clause-feeds
unfolding range_at
returns-in_default-2-clause-feeds g c =
    let v = c.args.reading.version in
    let old = state g.S.Store c.args.conn.now in
    let first = c.in_ok-registries.ensures in
    let second = c.in_ok-rows.ensures in
    feeds_after v _ second.idle first.endures second.endures first.stays second.stays
    (λ known. subst (λ audit. IsTrue (knows_free audit)) (sym c.end-in_default-2.ensures.audit) known)
    (λ works schema held kept.
    let found = rw c.in_default-2.is at (second.rows works) in
    unread_table (λ r. ((r.registry, r.range.lo), r.range)) (stored 5) range_in
    (tables_at v old.now).ranges found.0
    (ranges_before v old (state g.S.Store c.load.new.conn) (state g.S.Store c.load-2.new.conn) found.0
    (first.stays.unchanged (second.stays.worked works)) schema found.1) found.2 held.ranges)

pub returns-clause-feeds : goal.returns-clause-feeds
returns-clause-feeds g c =
    let v = c.args.reading.version in
    let old = state g.S.Store c.args.conn.now in
    let mid = state g.S.Store c.load.new.conn in
    let first = c.in_ok-registries.ensures in
    let second = c.in_ok-rows.ensures in
    rw c.end-2.ensures.audit
    (feeds_after v _ second.idle first.endures second.endures first.stays second.stays
    c.in_ok-is_whole.ensures.free
    (λ works schema.
    let before = second.stays.worked works in
    let found = rw c.in-Some.is at (first.rows before) in
    let places = rw c.in-Some-2.is at (second.rows works) in
    let moved = registries_shown v old mid found.0 schema found.1 in
    let along = ranges_before v old mid (state g.S.Store c.load-2.new.conn) places.0
    (first.stays.unchanged before) schema places.1 in
    let fed = rw (c.as_slice.ensures.value, c.as_slice-2.ensures.value) at c.in_ok-is_whole.ensures.fed in
    registries_told (tables_at v old.now) c.args.feeder.now.audit c.feed_partitions.new.audit
    c.in-Some.registries.items c.in-Some-2.rows.items found.0 places.0 c.in_ok-is_whole.is_whole moved
    found.2 along places.2 fed))

pub returns-in_err-registries-clause-fault : goal.returns-in_err-registries-clause-fault
returns-in_err-registries-clause-fault g c =
    passed_on _ c.from_residual.result c.in_err-registries.field-0.0 c.from_residual.ensures.1
    (query_cause SELECT_REGISTRIES.now (state g.S.Store c.args.conn.now) c.load.new.conn _
    c.in_err-registries.ensures.stays inl c.in_err-registries.ensures.fault)

pub returns-in_err-rows-clause-fault : goal.returns-in_err-rows-clause-fault
returns-in_err-rows-clause-fault g c =
    let old = state g.S.Store c.args.conn.now in
    let mid = state g.S.Store c.load.new.conn in
    passed_on _ c.from_residual-in_err-rows.result c.in_err-rows.field-0.0
    c.from_residual-in_err-rows.ensures.1
    (cause_later old mid (state g.S.Store c.load-2.new.conn) _ c.in_ok-registries.ensures.stays
    c.in_err-rows.ensures.stays
    (query_cause SELECT_RANGES.now mid c.load-2.new.conn _ c.in_err-rows.ensures.stays inl
    c.in_err-rows.ensures.fault))

pub returns-in_err-is_whole-clause-fault : goal.returns-in_err-is_whole-clause-fault
returns-in_err-is_whole-clause-fault g c =
    let first = c.in_ok-registries.ensures in
    let second = c.in_ok-rows.ensures in
    passed_on _ c.from_residual-in_err-is_whole.result c.in_err-is_whole.field-0.0
    c.from_residual-in_err-is_whole.ensures.1
    (unfed_cause c.args.conn.now c.load.new.conn c.load-2.new.conn _ c.in-Some.registries.items
    c.in-Some-2.rows.items first.stays second.stays
    (λ works. rw c.in-Some.is at (first.rows works)) (λ works. rw c.in-Some-2.is at (second.rows works))
    (rw (c.as_slice.ensures.value, c.as_slice-2.ensures.value) at c.in_err-is_whole.ensures.fault))
