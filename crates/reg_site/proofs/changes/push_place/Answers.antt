use Rattle.std.proofs.Common.{rules}
use Rattle.reg_site.specs.Changes.{shown}
use Rattle.reg_site.proofs.Escaped.{entry_place, if_appended, registry_place}
use Rattle.reg_site.proofs.changes.push_place.Goals as goal

pub returns-then-eq : goal.returns-then-eq
returns-then-eq c =
    if_appended c.push_all.result c.args.out.now.items c.push_all.new.out.items
    (registry_place (shown c.args.change.now) (search rules)) c.push_all.ensures

pub returns-else-eq-3 : goal.returns-else-eq-3
returns-else-eq-3 c =
    if_appended c.push_all-else-eq-3.result c.args.out.now.items c.push_all-else-eq-3.new.out.items
    (entry_place (shown c.args.change.now) (search rules) (search rules) (search rules))
    c.push_all-else-eq-3.ensures
