use Rattle.std.proofs.Common.{◌≡◌, ◌++◌, ◌∷◌, [], map, sym, ap, ◌∙◌}
use Rattle.std.proofs.lemmas.List.{map-append, map-id}
use Rattle.std.proofs.lemmas.Iterator.Adapters.{YieldsList-from_vec}
use Rattle.std.proofs.lemmas.Iterator.Consumers.{YieldsList-end}
use Rattle.reg_rows.proofs.Looking.{looks_failed, looks_still, looks_then, looks_told}
use Rattle.reg_rows.proofs.minutes.minuted_each.Goals as goal

pub loop-request-init : goal.loop-request-init
loop-request-init g c = looks_still c.requires (λ p. c.new-rows.ensures.items)

pub loop-request-preserved : goal.loop-request-preserved
loop-request-preserved g c =
    looks_then c.loop-request.invariant c.in_ok-row.ensures (λ p so_far one.
    let more : c.in_ok-rows.rows.items
    ≡ map (g.T.Minuted.minuted p) (c.loop-request.yielded ++ c.in-Some.request ∷ []) =
    c.in_ok-rows.ensures
    ∙ ap (λ row. c.loop-request.rows.items ++ row ∷ []) one
    ∙ ap (λ rows. rows ++ g.T.Minuted.minuted p c.in-Some.request ∷ []) so_far
    ∙ sym (map-append (g.T.Minuted.minuted p) c.loop-request.yielded (c.in-Some.request ∷ [])) in
    more)

pub returns-in_err-row : goal.returns-in_err-row
returns-in_err-row g c =
    looks_failed c.loop-request.invariant c.minuted.ensures c.from_residual.ensures.0

pub returns-in_err-rows : goal.returns-in_err-rows
returns-in_err-rows g c =
    looks_failed c.loop-request.invariant c.minuted.ensures c.from_residual-in_err-rows.ensures.0

pub returns : goal.returns
returns g c =
    let gives = c.into_iter-request-iterator.ensures.into_iter_gives in
    let all = YieldsList-end (YieldsList-from_vec c.args.requests.items gives.0
    (gives.1 ∙ c.args.requests.ok.0))
    c.loop-request.yielded c.loop-request.request-iterator c.loop-request.yielded_by c.next.result
    c.next.new.self c.in-None.is c.next.ensures.steps in
    let whole : c.loop-request.yielded ≡ c.args.requests.items =
    sym (map-id c.loop-request.yielded) ∙ all.0 in
    looks_told c.loop-request.invariant (λ p is. is ∙ ap (map (g.T.Minuted.minuted p)) whole)
