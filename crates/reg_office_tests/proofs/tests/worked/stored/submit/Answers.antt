use Rattle.std.proofs.Common.{◌≡◌, refl, sym, subst, ◌∙◌}
use Rattle.std.specs.Prelude.{Option, Some, None, option_map}
use Rattle.std.specs.FinMap.{get}
use Rattle.reg_core.specs.Request.{request_row}
use Rattle.reg_core.specs.declared.request.Case.{Case}
use Rattle.reg_core.specs.World.{World, RequestName}
use Rattle.reg_core.proofs.Keeping.Changes.{can_submit}
use Rattle.reg_office_tests.proofs.tests.worked.stored.submit.Goals as goal

-- where no row is found, there is no case
no_case : (name : RequestName) (found : Option Case) → None ≡ option_map (request_row name) found
    → found ≡ None
no_case name None is = refl
no_case name (Some case) is = absurd (cc)

pub apply-requires : goal.apply-requires
apply-requires g c = λ h.
    let name : RequestName = (c.args.account, c.args.reference) in
    let selects = c.in_ok-own_one.ensures in
    let found : c.in_ok-own_one.field-0
    ≡ option_map (request_row name) (get (g.K.Keeper.world c.own_one.new.self).requests name) =
    subst
    (λ (w : World). c.in_ok-own_one.field-0 ≡ option_map (request_row name) (get w.requests name))
    (sym (selects.same h)) (selects.value h) in
    can_submit (g.K.Keeper.world c.own_one.new.self) name c.args.ask
    (g.met.K.Keeper.well_kept c.own_one.new.self h) c.request_formed.ensures
    (no_case name _ (sym c.in-None.is ∙ found))
