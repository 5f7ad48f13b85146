use Rattle.std.proofs.Common.{◌≡◌, map, drop, true}
use Rattle.reg_parse.specs.Route.{with_rows, all_fit}
use Rattle.reg_parse.proofs.route.insert_all.Given as goal

abbrev pub invariant-loop-path : goal.invariant-loop-path
invariant-loop-path l =
    (with_rows (map (λ r. (r.0.now, r.1)) (drop l.path-index l.rows)) l.router
    ≡ with_rows (map (λ r. (r.0.now, r.1)) l.rows) l.initial.router)
    × (all_fit (map (λ r. (r.0.now, r.1)) (drop l.path-index l.rows)) l.router ≡ true)
