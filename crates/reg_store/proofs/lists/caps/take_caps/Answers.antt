use Rattle.std.proofs.Common.{sym, ap, ◌∙◌}
use Rattle.std.specs.FinMap.{remove}
use Rattle.reg_maps.specs.Maps.{text_cmp, finite_map}
use Rattle.reg_store.proofs.CapLaws.{without-next}
use Rattle.reg_store.proofs.lists.caps.take_caps.Goals as goal

pub loop-digest-preserved : goal.loop-digest-preserved
loop-digest-preserved c =
    let digest = c.digest-item.result in
    c.unset_row.ensures
    ∙ ap (λ caps. remove caps digest) c.loop-digest.invariant
    ∙ sym (without-next c.args.digests.now c.loop-digest.digest-index digest
    (finite_map text_cmp c.args.caps.now) c.loop-digest-test.true (sym c.digest-item.is))
