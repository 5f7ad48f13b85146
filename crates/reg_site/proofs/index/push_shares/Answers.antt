use Rattle.std.proofs.Common.{map, refl}
use Rattle.reg_pages.specs.Markup.{all_of, markup_then}
use Rattle.reg_site.specs.Index.{share_item}
use Rattle.reg_pages.proofs.Pieces.{begins, ends, goes_on_at}
use Rattle.reg_site.proofs.index.push_shares.Goals as goal

pub loop-share-init : goal.loop-share-init
loop-share-init c =
    begins c.args.out.now.items
    (markup_then (all_of (map share_item c.args.shares.now)))

pub loop-share-preserved : goal.loop-share-preserved
loop-share-preserved c =
    goes_on_at (λ ss. all_of (map share_item ss)) (share_item) (λ x xs. refl) c.args.shares.now
    c.loop-share.share-index _ c.loop-share-test.true c.loop-share.invariant
    c.in_ok-push_share.ensures

pub returns : goal.returns
returns c =
    ends (λ ss. all_of (map share_item ss)) refl c.args.shares.now c.loop-share.share-index c.loop-share-test.false
    c.loop-share.invariant
