use Rattle.std.proofs.Common.{◌≡◌, ◌++◌, [], ◌∷◌, sym, ap, ◌∙◌}
use Rattle.std.specs.Prelude.{Some, if◌then◌else◌}
use Rattle.std.specs.Cmp.{eq_by_cmp_equiv}
use Rattle.std.specs.Ordering.{eq_by_cmp}
use Rattle.std.proofs.lemmas.Result.{on_err_weaker, on_ok_weaker}
use Rattle.reg_core.specs.File.{same_name}
use Rattle.reg_core.specs.Journal.{deed_about, is_name_of}
use Rattle.reg_core.specs.World.{RequestName, name_cmp}
use Rattle.reg_core.proofs.KeyOrders.{name_keys}
use Rattle.reg_store.specs.Lists.ActPlaces.{places_held}
use Rattle.reg_store.proofs.NameGroups.{same_name-tie}
use Rattle.reg_store.proofs.lists.act_places.put_place.Goals as goal

same_as-tie : (name of : RequestName) → eq_by_cmp name_cmp name of ≡ same_name of name
same_as-tie name of =
    (eq_by_cmp_equiv name_keys.total).symm name of ∙ sym (same_name-tie of name)

pub returns-clause-ok : goal.returns-clause-ok
returns-clause-ok c =
    let place = c.args.place in
    let about : deed_about c.args.act.now.deed ≡ Some c.in-Some.name = cc in
    on_ok_weaker c.push_item.result
    (λ more name.
    more name
    ∙ (λ i. if same_as-tie name c.in-Some.name i
    then c.in_ok-open_list.ensures.same name i ++ place ∷ []
    else c.in_ok-open_list.ensures.same name i)
    ∙ ap (λ of. if is_name_of name of then places_held c.args.lists.now name ++ place ∷ []
    else places_held c.args.lists.now name) (sym about))
    c.push_item.ensures.ok

pub returns-clause-err : goal.returns-clause-err
returns-clause-err c =
    on_err_weaker c.push_item.result
    (λ same name. same name ∙ c.in_ok-open_list.ensures.same name) c.push_item.ensures.err
