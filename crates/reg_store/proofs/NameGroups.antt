-- Groups by a request's name.
use Rattle.std.proofs.Common.{◌≡◌, ◌&&◌, sym, ◌∙◌}
use Rattle.std.specs.BTreeMap.{is_at}
use Rattle.std.specs.FinMap.{FinMap}
use Rattle.std.proofs.lemmas.Map.Text.{is_eq-slice_cmp}
use Rattle.reg_maps.specs.Maps.{text_cmp, only_if, select}
use Rattle.reg_maps.specs.Groups.{group_at}
use Rattle.reg_maps.proofs.Orderings.{tie}
use Rattle.reg_core.specs.File.{same_name, seats_of}
use Rattle.reg_core.specs.World.{RequestName, name_cmp, seat_cmp}

pub same_name-tie : (q a : RequestName) → same_name q a ≡ is_at (name_cmp q) a
same_name-tie q a =
    (λ i. sym (is_eq-slice_cmp q.0 a.0) i && sym (is_eq-slice_cmp q.1 a.1) i)
    ∙ sym (tie (text_cmp q.0 a.0) (text_cmp q.1 a.1))

pub name_group : {V : Type 0} (m : FinMap seat_cmp V) (name : RequestName)
    → seats_of name m ≡ group_at name_cmp m name
name_group m name = λ i. select (λ seat x. only_if (same_name-tie seat.0 name i) x) m
