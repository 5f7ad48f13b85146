use Rattle.std.proofs.Common.{◌≡◌, ◌≤◌, ◌+◌, ◌++◌, ◌∷◌, [], length, map, take, sym, ap, ◌∙◌, add-one, arith, rules}
use Rattle.std.proofs.Math.Seq.{take-suc}
use Rattle.std.proofs.lemmas.List.{map-append, take_all}
use Rattle.reg_keeper.proofs.Premises.{goes_on_there}
use Rattle.reg_registers.specs.Answers.{row_of_times}
use Rattle.reg_registers.proofs.Selected.{selects_failed, selects_made, selects_stopped, selects_then, selects_unmade}
use Rattle.reg_registers.proofs.times.times_of.Goals as goal

pub loop-request-init : goal.loop-request-init
loop-request-init g c = record {
  value = λ h. search rules;
  same = λ h. search rules;
  premise = goes_on_there (search rules);
  fault = tt;
}

pub loop-request-preserved : goal.loop-request-preserved
loop-request-preserved g c =
    let requests = c.args.requests.now in
    let at = c.loop-request.request-index in
    let request = c.request-item.result in
    selects_then c.loop-request.invariant c.in_ok-row.ensures (λ w so_far one.
    let next : take (at + 1) requests ≡ take at requests ++ request ∷ [] =
    ap (λ n. take n requests) (add-one at)
    ∙ take-suc requests at request c.loop-request-test.true
    ∙ ap (λ r. take at requests ++ r ∷ []) (sym c.request-item.is) in
    let more : c.in_ok-rows-2.rows.items ≡ map (row_of_times w) (take (at + 1) requests) =
    c.in_ok-rows-2.ensures
    ∙ (λ i. so_far i ++ one i ∷ [])
    ∙ sym (map-append (row_of_times w) (take at requests) (request ∷ []))
    ∙ ap (map (row_of_times w)) (sym next) in
    more)

pub returns-in_err-row : goal.returns-in_err-row
returns-in_err-row g c =
    selects_stopped (selects_failed c.loop-request.invariant c.in_err-row.ensures)
    c.from_residual-in_err-row.result c.from_residual-in_err-row.ensures.1

pub returns : goal.returns
returns g c =
    let long : length c.args.requests.now ≤ c.loop-request.request-index =
    omega (arith, c.loop-request-test.false) in
    selects_made c.loop-request.invariant (λ w rows.
    c.from_vec.ensures ∙ rows
    ∙ ap (map (row_of_times w)) (take_all c.loop-request.request-index c.args.requests.now long))
