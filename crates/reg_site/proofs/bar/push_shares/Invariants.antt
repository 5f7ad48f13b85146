use Rattle.std.proofs.Common.{map}
use Rattle.reg_pages.specs.Markup.{all_of, markup_then}
use Rattle.reg_site.specs.Bar.{part, share_part}
use Rattle.reg_pages.proofs.Pieces.{Leads, from_place}
use Rattle.reg_site.proofs.bar.push_shares.Given as goal

abbrev pub invariant-loop-share : goal.invariant-loop-share
invariant-loop-share l =
    Leads l.fn.out.items l.out.items
    (from_place (λ ss. all_of (map (λ s. part (share_part l.most s)) ss)) l.shares l.share-index)
    (markup_then (all_of (map (λ s. part (share_part l.most s)) l.shares)))
