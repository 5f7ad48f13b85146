use Rattle.std.proofs.Common.{Some, sym, ap, ◌∙◌}
use Rattle.sqlite.specs.Held.{state}
use Rattle.reg_core.specs.World.{Place}
use Rattle.reg_tables.proofs.RestLemmas.{stays_held}
use Rattle.reg_statements.specs.Content.{parts_of}
use Rattle.reg_rows.proofs.Looking.{looks_by, looks_joined}
use Rattle.reg_rows.proofs.MarkedRows.{entry_found, none_found}
use Rattle.reg_rows.proofs.Statements.{finds_entry}
use Rattle.reg_rows.proofs.entries.entry.Goals as goal

pub returns-in_ok-marked-in-Some : goal.returns-in_ok-marked-in-Some
returns-in_ok-marked-in-Some g c =
    let place : Place = (c.args.registry.now, c.args.value) in
    looks_joined c.requires c.in_ok-found.ensures.row c.in_ok-marked-in-Some.ensures
    (λ p ties is marked.
    ap Some marked ∙ entry_found p ties place c.in-Some.entry (sym c.in-Some.is
    ∙ is.at_key place (rw (c.name_value.ensures, c.number_value.ensures) (finds_entry place))))

pub returns-in-None : goal.returns-in-None
returns-in-None g c =
    let place : Place = (c.args.registry.now, c.args.value) in
    let it = c.in_ok-found.ensures.row in
    let p = parts_of (state g.S.Store c.args.conn.now).now in
    looks_by it (λ h is.
    none_found p (c.requires.stored (stays_held it.stays h)).kept.tied place (sym c.in-None.is
    ∙ is.at_key place (rw (c.name_value.ensures, c.number_value.ensures) (finds_entry place))))
