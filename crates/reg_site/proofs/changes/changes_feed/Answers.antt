use Rattle.std.proofs.Common.{sym}
use Rattle.std.specs.List.{take-map}
use Rattle.reg_site.specs.Changes.{changes_feed, shown}
use Rattle.reg_pages.proofs.Pieces.{joined, whole}
use Rattle.reg_site.proofs.changes.changes_feed.Goals as goal

pub returns : goal.returns
unfolding changes_feed
returns c =
    whole c.new-out.result.items c.new-out.ensures.items
    (joined (rw c.last_moment.ensures at c.in_ok-push_feed_start.ensures)
    (joined (rw (c.first_of.ensures, sym (take-map shown 100 c.args.changes.now)) at c.in_ok-push_entries.ensures).bytes
    c.in_ok-push.ensures))
