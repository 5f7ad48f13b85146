use Rattle.std.proofs.Common.{◌≡◌, ℕ, List, length, take, ◌+◌, ◌<◌, slice_get, Some}
use Rattle.std.proofs.Common.{sym, ◌∙◌, refl, arith}
use Rattle.std.proofs.lemmas.List.{take_more_same}
use Rattle.std.proofs.lemmas.Option.{get_or_from_slice_get}
use Rattle.reg_tables.proofs.same.ItemsSame.same.Goals as goal

same_front : {X : Type 0} (xs ys : List X) (at : ℕ) (a b : X) → Some a ≡ slice_get xs at
    → Some b ≡ slice_get ys at → a ≡ b → at < length xs → at < length ys
    → take at xs ≡ take at ys → take (at + 1) xs ≡ take (at + 1) ys
same_front xs ys at a b ea eb same low high front =
    take_more_same xs ys at a low high front
    (get_or_from_slice_get xs at a a (sym ea) ∙ same
    ∙ sym (get_or_from_slice_get ys at b a (sym eb)))

pub items-preserved : goal.items-preserved
items-preserved g c =
    let so_far = c.items.invariant in
    let low : c.items.at < length c.args.self.now = c.in-Some-Some.ensures.within in
    record {
      front = same_front c.args.self.now c.args.other.now c.items.at c.in-Some-Some.a.now
          c.in-Some-Some.b.now c.in-Some-Some.ensures.value
          c.in-Some-Some.ensures'.value (c.if-not-same.ensures.is refl) low
          (omega (arith, so_far.lengths)) so_far.front;
      within = omega arith;
      lengths = so_far.lengths;
    }
