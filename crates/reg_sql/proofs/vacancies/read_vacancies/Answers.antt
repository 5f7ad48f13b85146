use Rattle.std.proofs.Common.{◌≡◌, ◌∙◌, Ok, ap, is_some}
use Rattle.std.specs.FinMap.{keys}
use Rattle.sqlite.specs.Held.{state}
use Rattle.reg_core.specs.Page.{entry_rows}
use Rattle.reg_vacancies.specs.Pool.{prefix_set}
use Rattle.reg_tables.proofs.RestLemmas.{stays_held}
use Rattle.reg_rows.specs.Calls.{LooksIn}
use Rattle.reg_statements.specs.Content.{parts_of, world_in}
use Rattle.reg_statements.proofs.Marks.{get-marked}
use Rattle.reg_rows.proofs.Found.{made_some}
use Rattle.reg_rows.proofs.Looking.{looks}
use Rattle.reg_sql.specs.Listed.{registrations}
use Rattle.reg_sql.proofs.Reading.{listed_in_pool, listed_leave, looks_next, looks_so}
use Rattle.reg_sql.proofs.vacancies.read_vacancies.Goals as goal

pub returns : goal.returns
returns g c =
    let old = state g.S.Store c.args.conn.now in
    let new = state g.S.Store c.all_entries.new.conn in
    let w = world_in old in
    let entries = c.in_ok-entries.entries.items in
    let prefixes = c.prefixes.result.now in
    let rows = c.into_vec.result.items in
    let all = c.all_entries.ensures in
    let p = parts_of old.now in
    let one : LooksIn {T = Unit {0}} {E = Unit {0}} old new (Ok tt)
    (λ p done. entries ≡ entry_rows p.entries) =
    looks c.requires.keeping all.idle all.endures all.stays c.in_ok-entries.ensures.rows in
    let two = looks_next {second = Ok c.in_ok-pool.pool} one c.in_ok-pool.ensures in
    let three = looks_next {first = Ok c.in_ok-pool.pool} {second = Ok c.in_ok-blocks.blocks} two
    c.in_ok-blocks.ensures in
    looks_so three (λ h.
    let h2 = stays_held c.in_ok-blocks.ensures.stays h in
    let h1 = stays_held c.in_ok-pool.ensures.stays h2 in
    let registered : entries ≡ entry_rows p.entries = one.value h1 in
    let pool : prefixes ≡ keys w.pool = c.prefixes.ensures.value ∙ two.value h2 in
    let blocks = c.into_vec.ensures ∙ three.value h in
    let lie = listed_in_pool w (c.requires.kept (stays_held three.stays h)) prefixes rows pool blocks in
    listed_leave w c.give_blocks.new.vacancies entries prefixes rows p.entries
    (λ place. ap is_some (get-marked p.holds p.entries place) ∙ made_some _ _) registered pool blocks
    (c.in_ok-give_blocks.ensures (registrations entries) (prefix_set prefixes) lie
    (c.in_ok-add_prefixes.ensures (registrations entries)
    (c.in_ok-take_values.ensures c.new-vacancies.ensures))))
