use Rattle.std.proofs.Common.{◌≡◌, ◌++◌, ◌∷◌, [], map, sym, ap, ◌∙◌, rules}
use Rattle.std.proofs.lemmas.List.{map-append, map-id}
use Rattle.std.proofs.lemmas.Iterator.Adapters.{YieldsList-from_vec}
use Rattle.std.proofs.lemmas.Iterator.Consumers.{YieldsList-end}
use Rattle.reg_keeper.proofs.Premises.{goes_on_there}
use Rattle.reg_registers.specs.Arrivals.{arrived_in}
use Rattle.reg_registers.proofs.Selected.{selects_failed, selects_made, selects_stopped, selects_then}
use Rattle.reg_registers.proofs.Selected.{selects_unmade}
use Rattle.reg_registers.proofs.arrivals.arrived_each.Goals as goal

pub loop-file-init : goal.loop-file-init
loop-file-init g c = record {
  value = λ h. c.new-arrived.ensures.items;
  same = λ h. search rules;
  premise = goes_on_there (search rules);
  fault = tt;
}

pub loop-file-preserved : goal.loop-file-preserved
loop-file-preserved g c =
    selects_then c.loop-file.invariant c.in_ok-one.ensures (λ w so_far one.
    let more : c.in_ok-arrived.arrived.items
    ≡ map (arrived_in w) (c.loop-file.yielded ++ c.in-Some.file ∷ []) =
    c.in_ok-arrived.ensures
    ∙ ap (λ one. c.loop-file.arrived.items ++ one ∷ []) one
    ∙ ap (λ all. all ++ arrived_in w c.in-Some.file ∷ []) so_far
    ∙ sym (map-append (arrived_in w) c.loop-file.yielded (c.in-Some.file ∷ [])) in
    more)

pub returns-in_err-one : goal.returns-in_err-one
returns-in_err-one g c =
    selects_stopped (selects_failed c.loop-file.invariant c.in_err-one.ensures)
    c.from_residual.result c.from_residual.ensures.1

pub returns-in_err-arrived : goal.returns-in_err-arrived
returns-in_err-arrived g c =
    selects_stopped (selects_unmade c.loop-file.invariant c.in_ok-one.ensures)
    c.from_residual-in_err-arrived.result c.from_residual-in_err-arrived.ensures.1

pub returns : goal.returns
returns g c =
    let gives = c.into_iter-file-iterator.ensures.into_iter_gives in
    let all = YieldsList-end (YieldsList-from_vec c.args.files.items gives.0
    (gives.1 ∙ c.args.files.ok.0))
    c.loop-file.yielded c.loop-file.file-iterator c.loop-file.yielded_by c.next.result
    c.next.new.self c.in-None.is c.next.ensures.steps in
    let whole = sym (map-id c.loop-file.yielded) ∙ all.0 in
    selects_made c.loop-file.invariant (λ w is. is ∙ ap (map (arrived_in w)) whole)
