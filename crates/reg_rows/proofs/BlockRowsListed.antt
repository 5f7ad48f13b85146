-- Lists of blocks.
use Rattle.std.proofs.Common.{◌≡◌, List, [], ◌∷◌, map, true, refl, sym, ap, ◌∙◌, Some}
use Rattle.std.specs.Prelude.{filter_map}
use Rattle.std.specs.FinMap.{FinMap, entries}
use Rattle.reg_maps.specs.Maps.{keyed, only_if, select}
use Rattle.reg_maps.proofs.MapLaws.{entries-select}
use Rattle.reg_blocks.specs.Block.{SizedPrefix, block_cmp}
use Rattle.reg_core.specs.Holding.{holder_in, listed_row, listed_rows, masked}
use Rattle.reg_core.specs.Holding.{masked_blocks}
use Rattle.reg_core.specs.declared.holding.Holder.{Holder}
use Rattle.reg_core.specs.declared.holding.Holding.{Holding}
use Rattle.reg_core.specs.declared.holding.Listed.{Listed}
use Rattle.reg_core.proofs.KeyOrders.{block_keys}
use Rattle.reg_rows.proofs.PoolRowsListed.{entries_all}

-- a holding as an entry
abbrev pub pair : Holding → SizedPrefix × Holder
pair h = (h.block, holder_in h)

shown_again : (hs : List Holding)
    → map (λ e. listed_row e.0 e.1)
    (filter_map (λ e. keyed e.0 (Some (masked e.1))) (map pair hs))
    ≡ map (λ h. listed_row h.block (masked (holder_in h))) hs
shown_again [] = refl
shown_again (h ∷ hs) =
    ap (λ (more : List Listed). listed_row h.block (masked (holder_in h)) ∷ more) (shown_again hs)

-- as the public sees the holdings that are all entries of a map, it sees the map
pub listed_are : (m : FinMap block_cmp Holder) (hs : List Holding)
    → map pair hs ≡ entries (select (λ k x. only_if true x) m)
    → map (λ h. listed_row h.block (masked (holder_in h))) hs ≡ listed_rows (masked_blocks m)
listed_are m hs is =
    sym (shown_again hs)
    ∙ ap (λ es. map (λ e. listed_row e.0 e.1) (filter_map (λ e. keyed e.0 (Some (masked e.1))) es))
    (is ∙ entries_all block_keys m)
    ∙ sym (ap (map (λ e. listed_row e.0 e.1))
    (entries-select block_keys (λ b h. Some (masked h)) m))
