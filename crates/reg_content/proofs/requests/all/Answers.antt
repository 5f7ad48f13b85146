use Rattle.std.proofs.Common.{ap, map, ◌∙◌}
use Rattle.reg_rows.specs.Marks.{request_minuted}
use Rattle.reg_rows.proofs.Looking.{looks_joined}
use Rattle.reg_rows.proofs.MinutedRows.{all_listed}
use Rattle.reg_rows.proofs.Statements.{lists_requests}
use Rattle.reg_content.proofs.requests.all.Goals as goal

pub returns : goal.returns
returns g c =
    looks_joined c.requires c.in_ok-requests.ensures.rows c.in_ok-requests-2.ensures
    (λ p ties is minuted.
    c.from_vec.ensures ∙ minuted ∙ ap (map (request_minuted p)) (is _ lists_requests) ∙ all_listed p)
