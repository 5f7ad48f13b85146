use Rattle.std.proofs.Common.{ap, map, ◌∙◌}
use Rattle.std.proofs.lemmas.Simd.{map-map}
use Rattle.reg_rows.specs.Seats.{filed}
use Rattle.reg_rows.proofs.Looking.{looks_then}
use Rattle.reg_content.proofs.pending.pending.Goals as goal

pub returns : goal.returns
returns g c =
    looks_then c.in_ok-requests.ensures c.in_ok-files.ensures (λ w waiting files.
    c.from_vec.ensures ∙ files ∙ ap (map (filed w)) (c.into_vec.ensures ∙ waiting)
    ∙ map-map (filed w) _ _)
