use Rattle.std.proofs.Common.{map, refl}
use Rattle.reg_pages.specs.Markup.{all_of, markup_then}
use Rattle.reg_site.specs.Bar.{part, share_part}
use Rattle.reg_pages.proofs.Pieces.{begins, ends, goes_on_at}
use Rattle.reg_site.proofs.bar.push_shares.Goals as goal

pub loop-share-init : goal.loop-share-init
loop-share-init c =
    begins c.args.out.now.items
    (markup_then (all_of (map (λ s. part (share_part c.args.most s)) c.args.shares.now)))

pub loop-share-preserved : goal.loop-share-preserved
loop-share-preserved c =
    goes_on_at (λ ss. all_of (map (λ s. part (share_part c.args.most s)) ss))
    (λ s. part (share_part c.args.most s)) (λ x xs. refl) c.args.shares.now
    c.loop-share.share-index _ c.loop-share-test.true c.loop-share.invariant
    (rw c.share_part.ensures at c.in_ok-push_part.ensures)

pub returns : goal.returns
returns c =
    ends (λ ss. all_of (map (λ s. part (share_part c.args.most s)) ss)) refl c.args.shares.now
    c.loop-share.share-index c.loop-share-test.false c.loop-share.invariant
