-- The rows of the blocks.
use Rattle.std.proofs.Common.{◌≡◌, [], ◌∷◌, ◌++◌, Bool, Some, sym, ap, ◌∙◌}
use Rattle.std.specs.Bool.{Decides}
use Rattle.std.specs.Cmp.{eq_by_cmp_equiv}
use Rattle.std.specs.declared.cmp.Ordering.{Ordering}
use Rattle.std.specs.Ordering.{eq_by_cmp}
use Rattle.sqlite.specs.Order.{Row, column}
use Rattle.reg_maps.proofs.MapLaws.{IsKeyOrder, tied}
use Rattle.reg_core.specs.declared.holding.Holding.{Holding}
use Rattle.reg_records.specs.Blocks.{holding_in, holding_values}
use Rattle.reg_records.specs.Columns.{flag_value}
use Rattle.reg_records.proofs.HoldingLaws.{holdings_kept}
use Rattle.reg_tables.specs.Editing.{front}
use Rattle.reg_tables.specs.Selecting.{stored}

-- keys tie where they are equal
pub tie_decides : {K : Type 0} {R : K → K → Ordering} → IsKeyOrder R → (a b : K)
    → Decides (eq_by_cmp R a b) (a ≡ b)
tie_decides {R = R} o a b = (
  tied o a b,
  λ e. ap (eq_by_cmp R a) (sym e) ∙ (eq_by_cmp_equiv o.total).refl a,
)

-- ---- What a statement leaves of a row

-- the row with this mark reads as the holding with it
pub mark_read : (private : Bool) (row : Row) (h : Holding) → holding_in (stored 6 row) ≡ Some h
    → holding_in (stored 6 (front 6 row ++ flag_value private ∷ []))
    ≡ Some (record h { private = private })
mark_read private row h is =
    let new : Holding = record h { private = private } in
    let cols = holdings_kept.exact (stored 6 row) h is in
    let written : stored 6 (front 6 row ++ flag_value private ∷ []) ≡ holding_values new =
    λ i. column (cols i) 0 ∷ column (cols i) 1 ∷ column (cols i) 2 ∷ column (cols i) 3
    ∷ column (cols i) 4 ∷ flag_value private ∷ [] in
    ap holding_in written ∙ holdings_kept.back new (holdings_kept.formed (stored 6 row) h is)
