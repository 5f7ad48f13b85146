use Rattle.std.proofs.Common.{◌≡◌, false, [], refl, sym, subst, ap, ◌∙◌}
use Rattle.std.specs.Prelude.{Option, Some, None, IsSome, is_some}
use Rattle.std.specs.Borrow.{Bor}
use Rattle.std.specs.FinMap.{get, insert}
use Rattle.std.specs.Global.{Vec}
use Rattle.std.specs.Option.{option_copied}
use Rattle.std.proofs.lemmas.Result.{on_ok_weaker}
use Rattle.reg_maps.specs.Groups.{pair_map}
use Rattle.reg_maps.specs.Maps.{text_cmp}
use Rattle.reg_maps.proofs.MapLaws.{get-inserted}
use Rattle.reg_maps.proofs.Outcomes.{either_way}
use Rattle.reg_core.specs.World.{RequestName}
use Rattle.reg_core.proofs.KeyOrders.{name_keys}
use Rattle.reg_store.specs.Maps.{HaveSameItems, items_of}
use Rattle.reg_store.proofs.ListLaws.{same-put}
use Rattle.reg_store.proofs.lists.act_places.open_list.Goals as goal

none_there : {X : Type 0} (list : Option (Bor (Vec X))) → is_some list ≡ false
    → items_of (option_copied list) ≡ []
none_there None h = refl
none_there (Some list) h = absurd (cc)

pub returns-clause-same : goal.returns-clause-same
returns-clause-same c =
    let name : RequestName = (c.args.account, c.args.reference) in
    let old = pair_map text_cmp text_cmp c.args.lists.now in
    let absent : is_some c.row_in.result ≡ false = cc in
    either_way (λ lists. HaveSameItems old lists) c.put_row.result
    (pair_map text_cmp text_cmp c.put_row.new.groups) (insert old name c.new.result) old
    c.put_row.ensures.ok c.put_row.ensures.err
    (same-put name_keys old name c.new.result
    (c.new.ensures.items
    ∙ sym (none_there c.row_in.result absent) ∙ ap items_of c.row_in.ensures))
    (λ name. refl)

pub returns-clause-there : goal.returns-clause-there
returns-clause-there c =
    let name : RequestName = (c.args.account, c.args.reference) in
    let old = pair_map text_cmp text_cmp c.args.lists.now in
    on_ok_weaker c.put_row.result
    (λ put. subst IsSome
    (sym (ap (λ lists. get lists name) put ∙ get-inserted name_keys old name c.new.result)) refl)
    c.put_row.ensures.ok
