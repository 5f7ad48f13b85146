use Rattle.std.proofs.Common.{◌≡◌, List, ℕ, sym, subst, ◌∙◌}
use Rattle.std.specs.Prelude.{IfOk}
use Rattle.std.specs.FinMap.{nat_cmp-IsAntisymmetric, slice_cmp-IsAntisymmetric}
use Rattle.reg_history.proofs.fields.SharedFields.shared.Goals as goal

pub returns-in-Some : goal.returns-in-Some
returns-in-Some c =
    let same : c.in_ok-field.field ≡ c.in-Some.known.now =
    slice_cmp-IsAntisymmetric nat_cmp-IsAntisymmetric c.in_ok-field.field c.in-Some.known.now
    c.in-Some.ensures.same_key in
    subst (λ (t : List ℕ). IfOk c.copy.result (λ f. f ≡ t)) (sym same ∙ c.in_ok-field.ensures) c.copy.ensures
