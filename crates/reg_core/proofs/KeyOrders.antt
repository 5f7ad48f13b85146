-- The orders of the keys of an office, in which only equal keys tie.
use Rattle.std.proofs.Common.{◌≡◌, rules}
use Rattle.std.specs.declared.cmp.Ordering.TheVariants.{Equal}
use Rattle.std.specs.Cmp.Rules.{comparing}
use Rattle.reg_maps.proofs.MapLaws.{IsKeyOrder, number_keys, text_keys, pair_keys}
use Rattle.reg_blocks.specs.Block.{SizedPrefix, block_cmp}
use Rattle.reg_blocks.proofs.BlocksAscend.{block_cmp-total}
use Rattle.reg_core.specs.World.{name_cmp, place_cmp, seat_cmp, link_cmp}

pub name_keys : IsKeyOrder name_cmp
name_keys = pair_keys text_keys text_keys

pub place_keys : IsKeyOrder place_cmp
place_keys = pair_keys text_keys number_keys

pub seat_keys : IsKeyOrder seat_cmp
seat_keys = pair_keys name_keys text_keys

pub link_keys : IsKeyOrder link_cmp
link_keys = pair_keys text_keys text_keys

block_exact : (a b : SizedPrefix) → block_cmp a b ≡ Equal → a ≡ b
block_exact a b e = search (comparing, rules)

pub block_keys : IsKeyOrder block_cmp
block_keys = record { total = block_cmp-total; exact = block_exact }
