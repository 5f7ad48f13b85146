use Rattle.std.proofs.Common.{◌≡◌, ◌+◌, ◌<◌, ◌++◌, length, map, [], ◌∷◌, ap, ◌∙◌, get_or, sym, arith}
use Rattle.std.proofs.lemmas.List.{get_or-map, length-map, length-take-le, map-append}
use Rattle.reg_history.specs.declared.overview.Tied.{Tied}
use Rattle.reg_site.specs.Changes.{shown}
use Rattle.reg_site.specs.Recent.{changed}
use Rattle.reg_site.proofs.Numbered.{numbered_more}
use Rattle.reg_site.proofs.recent.numbered.Goals as goal

pub loop-place-preserved : goal.loop-place-preserved
loop-place-preserved c =
    let items = c.args.recent.now.items in
    let rows = map (λ (t : Tied). t.row) items in
    let digests = map (λ (t : Tied). t.digest) items in
    let number = c.args.before + 1 in
    let i = c.loop-place.place in
    let tied = c.index-tied.result.now in
    let so = map shown c.loop-place.changes.items in
    let inside : i < length items =
    omega (arith, c.loop-place-test.true, c.len-place-end.ensures, c.args.recent.now.ok) in
    let in_rows : i < length rows = omega (arith, inside, length-map items (λ (t : Tied). t.row)) in
    let in_digests : i < length digests =
    omega (arith, inside, length-map items (λ (t : Tied). t.digest)) in
    let at : tied ≡ get_or items i tied = c.index-tied.ensures in
    let row : tied.row ≡ get_or rows i tied.row =
    ap (λ (t : Tied). t.row) at
    ∙ sym (get_or-map (λ (t : Tied). t.row) items i tied tied.row inside) in
    let digest : tied.digest ≡ get_or digests i tied.digest =
    ap (λ (t : Tied). t.digest) at
    ∙ sym (get_or-map (λ (t : Tied). t.digest) items i tied tied.digest inside) in
    let here : c.in_ok-number.number ≡ number + i =
    omega (arith, c.in_ok-number.ensures, c.loop-place.invariant.counted) in
    record {
      counted = omega (arith, here);
      shown =
          ap (map shown) c.in_ok-push.ensures.items
          ∙ map-append shown c.loop-place.changes.items (c.changed.result ∷ [])
          ∙ ap (λ y. so ++ y ∷ []) c.changed.ensures
          ∙ ap (λ n. so ++ changed n tied.row tied.digest ∷ []) here
          ∙ ap (λ xs. xs ++ changed (number + i) tied.row tied.digest ∷ [])
          c.loop-place.invariant.shown
          ∙ numbered_more number i rows digests tied.row tied.digest in_rows in_digests row digest
          (length-take-le i rows (omega (arith, in_rows)))
          (length-take-le i digests (omega (arith, in_digests)));
    }
