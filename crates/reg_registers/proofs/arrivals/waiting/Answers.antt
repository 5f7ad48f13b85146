use Rattle.std.proofs.Common.{List, IsPermutation, map, subst, ap, ◌∙◌, rules}
use Rattle.reg_core.specs.File.{waiting_files}
use Rattle.reg_registers.proofs.ArrivalsInOrder.{waiting_list-sorted}
use Rattle.reg_registers.specs.Arrivals.{arrived_in}
use Rattle.reg_registers.specs.declared.arrivals.Arrived.{Arrived}
use Rattle.reg_registers.proofs.Selected.{selects_made, selects_then}
use Rattle.reg_registers.proofs.arrivals.waiting.Goals as goal

pub returns : goal.returns
returns g c =
    let sorted = c.in_ok-sort_by_key.ensures in
    let ordered = c.sort_by_key.new.self.items in
    selects_then c.in_ok-pending.ensures c.in_ok-arrived.ensures (λ w files arrived.
    let moved : IsPermutation (map (arrived_in w) (waiting_files w)) ordered =
    subst (λ (all : List Arrived). IsPermutation all ordered)
    (arrived ∙ ap (map (arrived_in w)) (c.into_vec-files.ensures ∙ files)) sorted.permutation in
    c.from_vec.ensures ∙ c.in_ok-files_of.ensures
    ∙ waiting_list-sorted w ordered moved sorted.sorted (λ a r q k. search rules))
