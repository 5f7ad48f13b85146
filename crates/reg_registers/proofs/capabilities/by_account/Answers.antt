use Rattle.std.proofs.Common.{List, IsPermutation, subst, ◌∙◌, rules}
use Rattle.reg_core.specs.CapRows.{cap_rows}
use Rattle.reg_core.specs.declared.capability.CapRow.{CapRow}
use Rattle.reg_registers.proofs.CapLists.{cap_list-sorted}
use Rattle.reg_registers.proofs.capabilities.by_account.Goals as goal

pub returns : goal.returns
returns g c =
    let rows = c.in_ok-caps.ensures in
    let sorted = c.in_ok-sort_by_key.ensures in
    let ordered = c.sort_by_key.new.self.items in
    record {
      value = λ h.
          let caps = (g.K.Keeper.world c.args.keeper.now).caps in
          let moved : IsPermutation (cap_rows caps) ordered =
          subst (λ (rows : List CapRow). IsPermutation rows ordered)
          (c.into_vec-rows.ensures ∙ rows.value h) sorted.permutation in
          cap_list-sorted caps ordered moved sorted.sorted (λ a r q k. search rules);
      same = rows.same;
      premise = rows.premise;
      fault = tt;
    }
