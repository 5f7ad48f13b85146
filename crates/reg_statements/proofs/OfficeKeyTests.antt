-- When two keys of the office tie, by tests of their parts.
use Rattle.std.proofs.Common.{◌≡◌, ◌==◌, ◌&&◌, sym, ◌∙◌, bytes_eq}
use Rattle.std.specs.Ordering.{eq_by_cmp, nat_cmp}
use Rattle.std.specs.Cmp.{unsigned_ties}
use Rattle.reg_maps.specs.Maps.{text_cmp}
use Rattle.reg_maps.proofs.Orderings.{tie}
use Rattle.reg_maps.proofs.KeyTests.{pair_test, text_test}
use Rattle.reg_blocks.specs.Block.{SizedPrefix, block_cmp, first_address}
use Rattle.reg_blocks.specs.Size.{prefix_bits}
use Rattle.reg_core.specs.World.{RequestName, name_cmp, Seat, seat_cmp}

pub name_test : (x y : RequestName)
    → (bytes_eq x.0 y.0 && bytes_eq x.1 y.1) ≡ eq_by_cmp name_cmp x y
name_test x y = pair_test text_cmp text_cmp _ _ x y (text_test x.0 y.0) (text_test x.1 y.1)

pub seat_test : (x y : Seat)
    → ((bytes_eq x.0.0 y.0.0 && bytes_eq x.0.1 y.0.1) && bytes_eq x.1 y.1)
    ≡ eq_by_cmp seat_cmp x y
seat_test x y = pair_test name_cmp text_cmp _ _ x y (name_test x.0 y.0) (text_test x.1 y.1)

pub block_test : (x y : SizedPrefix)
    → ((first_address x == first_address y) && (prefix_bits x.size == prefix_bits y.size))
    ≡ eq_by_cmp block_cmp x y
block_test x y =
    (λ i. unsigned_ties (first_address x) (first_address y) i
    && unsigned_ties (prefix_bits x.size) (prefix_bits y.size) i)
    ∙ sym (tie (nat_cmp (first_address x) (first_address y))
    (nat_cmp (prefix_bits x.size) (prefix_bits y.size)))
