use Rattle.std.proofs.Common.{map, refl}
use Rattle.reg_pages.specs.Markup.{all_of, markup_then}
use Rattle.reg_site.specs.Index.{prefix_item}
use Rattle.reg_pages.proofs.Pieces.{begins, ends, goes_on_at}
use Rattle.reg_site.proofs.index.push_prefixes.Goals as goal

pub loop-prefix-init : goal.loop-prefix-init
loop-prefix-init c =
    begins c.args.out.now.items
    (markup_then (all_of (map prefix_item c.args.prefixes.now)))

pub loop-prefix-preserved : goal.loop-prefix-preserved
loop-prefix-preserved c =
    goes_on_at (λ ps. all_of (map prefix_item ps)) (prefix_item) (λ x xs. refl) c.args.prefixes.now
    c.loop-prefix.prefix-index 0 c.loop-prefix-test.true c.loop-prefix.invariant
    c.in_ok-push_prefix.ensures

pub returns : goal.returns
returns c =
    ends (λ ps. all_of (map prefix_item ps)) refl c.args.prefixes.now c.loop-prefix.prefix-index c.loop-prefix-test.false
    c.loop-prefix.invariant
