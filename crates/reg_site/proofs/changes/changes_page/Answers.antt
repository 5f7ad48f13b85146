use Rattle.std.proofs.Common.{sym}
use Rattle.std.specs.List.{take-map}
use Rattle.reg_site.specs.Changes.{changes_page, shown}
use Rattle.reg_pages.proofs.Pieces.{joined, whole}
use Rattle.reg_site.proofs.changes.changes_page.Goals as goal

pub returns : goal.returns
unfolding changes_page
returns c =
    whole c.new-out.result.items c.new-out.ensures.items
    (joined c.in_ok-push_start.ensures
    (joined c.in_ok-push.ensures
    (joined c.in_ok-push_apply.ensures.bytes
    (joined (rw (c.first_of.ensures, sym (take-map shown 200 c.args.changes.now)) at c.in_ok-push_changes.ensures).bytes
    c.in_ok-push_end.ensures))))
