use Rattle.std.proofs.Common.{Some, option_map, sym, ap, ◌∙◌}
use Rattle.reg_core.specs.World.{RequestName}
use Rattle.reg_rows.specs.Marks.{request_minuted}
use Rattle.reg_rows.proofs.Looking.{looks_joined, looks_made}
use Rattle.reg_rows.proofs.MinutedRows.{request_found}
use Rattle.reg_rows.proofs.Statements.{finds_request}
use Rattle.reg_content.proofs.requests.own_one.Goals as goal

pub returns-in_ok-minuted-in-Some : goal.returns-in_ok-minuted-in-Some
returns-in_ok-minuted-in-Some g c =
    let name : RequestName = (c.args.account.now, c.args.reference.now) in
    looks_joined c.requires c.in_ok-found.ensures.row c.in_ok-minuted-in-Some.ensures
    (λ p ties is minuted.
    ap Some minuted ∙ ap (option_map (request_minuted p)) (sym c.in-Some.is
    ∙ is.at_key name (rw (c.name_value.ensures, c.name_value-2.ensures) (finds_request name)))
    ∙ request_found p name)

pub returns-in-None : goal.returns-in-None
returns-in-None g c =
    let name : RequestName = (c.args.account.now, c.args.reference.now) in
    looks_made c.in_ok-found.ensures.row (λ p is.
    ap (option_map (request_minuted p)) (sym c.in-None.is
    ∙ is.at_key name (rw (c.name_value.ensures, c.name_value-2.ensures) (finds_request name)))
    ∙ request_found p name)
