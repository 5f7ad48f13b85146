use Rattle.std.proofs.Common.{sym, subst}
use Rattle.reg_vacancies.specs.Places.{AreLeftBy}
use Rattle.reg_store.proofs.lists.blocks.Blocks.new.Goals as goal

pub invariant_of-result : goal.invariant_of-result
invariant_of-result c = record {
  left = subst (AreLeftBy c.new.result) (sym c.new-2.ensures) c.new.ensures.left;
}
