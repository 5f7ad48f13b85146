-- Blocks that begin together are one, where no two share an address.
use Rattle.std.proofs.Common.{◌≡◌, ℕ, ◌*◌, ◌/◌, IsSome, Some, is_some, ap, ◌∙◌, arith}
use Rattle.std.specs.FinMap.{FinMap, get}
use Rattle.std.specs.Ordering.{eq_by_cmp, nat_cmp}
use Rattle.std.proofs.lemmas.Bool.Decides.{Decides-like, same_from_decides}
use Rattle.reg_maps.proofs.MapLaws.{number_keys}
use Rattle.reg_blocks.specs.Block.{Clash, SizedPrefix, block_cmp, first_address}
use Rattle.reg_blocks.specs.Size.{address_count}
use Rattle.reg_blocks.specs.declared.size.Size.{Size}
use Rattle.reg_blocks.specs.declared.size.Size.TheVariants.{MaL, MaM, MaS}
use Rattle.reg_core.specs.declared.holding.Holder.{Holder}
use Rattle.reg_core.proofs.KeyOrders.{block_keys}
use Rattle.reg_rows.proofs.BlockRows.{tie_decides}

first_over : (size : Size) (prefix : ℕ)
    → (prefix * address_count size) / address_count size ≡ prefix
first_over MaL prefix = omega arith
first_over MaM prefix = omega arith
first_over MaS prefix = omega arith

-- they share that address
clash : (a b : SizedPrefix) → first_address a ≡ first_address b → Clash a b
clash a b same = (
  first_address a,
  first_over a.size a.prefix,
  ap (λ address. address / address_count b.size) same ∙ first_over b.size b.prefix,
)

starts_alone : (a b : SizedPrefix) → (Clash a b → a ≡ b)
    → eq_by_cmp nat_cmp (first_address a) (first_address b) ≡ eq_by_cmp block_cmp a b
starts_alone a b apart =
    same_from_decides _ _
    (Decides-like _ (λ same. apart (clash a b same)) (λ e. ap first_address e)
    (tie_decides number_keys (first_address a) (first_address b)))
    (tie_decides block_keys a b)

-- of the blocks of a map, the one that begins where this one does
pub begins_alone : (m : FinMap block_cmp Holder) (block : SizedPrefix)
    → ((other : SizedPrefix) → IsSome (get m other) → Clash other block → other ≡ block)
    → (other : SizedPrefix) (holder : Holder) → get m other ≡ Some holder
    → eq_by_cmp nat_cmp (first_address other) (first_address block) ≡ eq_by_cmp block_cmp other block
begins_alone m block apart other holder is = starts_alone other block (apart other (ap is_some is))
