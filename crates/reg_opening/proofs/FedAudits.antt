-- An audit that is fed a row.
use Rattle.std.proofs.Common.{◌≡◌, Bool, true, false, sym, ◌∙◌, refl}
use Rattle.std.specs.Prelude.{IsTrue, ◌↔◌, Result, Ok, Err, IsErr}
use Rattle.reg_core.specs.WellKept.{WellKept}
use Rattle.reg_core.specs.World.{World}
use Rattle.reg_opening.specs.Audits.{Audits, Feeds, Keeps, knows_free}
use Rattle.reg_opening.specs.Rows.{with_row, has_row_form, IsNew, IsInTurn, Fits}
use Rattle.reg_opening.specs.declared.audit.Audit.{Audit}
use Rattle.reg_opening.specs.declared.row.Row.{Row}
use Rattle.reg_opening.proofs.AuditParts.{part_kept}
use Rattle.reg_opening.proofs.RowsDecide.{next_fits, part_of_next, rows_decide}

module _ (audit : Audit) (next : Row) where
  -- where all rows before fitted, whether this one is new and fits tells whether it is new and the
  -- world with it is well kept
  pub accepted : (r : Bool) → IsTrue audit.well_kept → IsTrue (has_row_form next)
      → ((w : World) → Keeps audit w → WellKept w → IsTrue r ↔ (IsNew w next × Fits w next))
      → (w : World) → Audits audit w → IsInTurn w next
      → IsTrue r ↔ (IsNew w next × WellKept (with_row w next))
  accepted r so_far form tells w audits turn =
      let kept = audits.says.0 so_far in
      let admits = tells w (audits.keeps so_far) kept in (
        (λ h.
            let new = (admits.0 h).0 in
            (new, (rows_decide w next form turn new).1 (kept, (admits.0 h).1))),
        (λ both.
            admits.1 (both.0, ((rows_decide w next form turn both.0).0 both.1).1)),
      )

  -- where one before did not, no world with this one is well kept
  pub refused : audit.well_kept ≡ false → (w : World) → Audits audit w → IsInTurn w next
      → IsTrue audit.well_kept ↔ (IsNew w next × WellKept (with_row w next))
  refused misfit w audits turn = (
    (λ h. absurd (cc)),
    (λ both.
        audits.says.1 (part_kept w (with_row w next) (part_of_next w next turn both.0) both.1)),
  )

  module _ (r : Bool)
      (tells : (w : World) → Audits audit w → IsInTurn w next
      → IsTrue r ↔ (IsNew w next × WellKept (with_row w next))) where
    -- a row that is not accepted is not new, or the world with it is not well kept
    pub feeds_misfit : {E : Type 0} → r ≡ false
        → Feeds {E = E} audit (record audit { well_kept = false }) (Ok false) next
    feeds_misfit refused = record {
      tells = λ w audits turn. (
        (λ h. absurd (cc)),
        (λ both. let h = (tells w audits turn).1 both in absurd (cc)),
      );
      ok = λ w audits turn new. record {
        says = (
          (λ h. absurd (cc)),
          (λ kept. let h = (tells w audits turn).1 (new, kept) in absurd (cc)),
        );
        keeps = λ h. absurd (cc);
      };
      says = refl;
      stays = λ h. absurd (cc);
      free = refl;
      err = λ w audits. tt;
    }

    -- one that is accepted is new and fits
    pub feeds_fit : {E : Type 0} (new : Audit) → r ≡ true → IsTrue audit.well_kept
        → ((w : World) → Keeps audit w → IsInTurn w next → IsNew w next → Fits w next
        → Keeps new (with_row w next))
        → new.well_kept ≡ audit.well_kept → knows_free new ≡ knows_free audit
        → Feeds {E = E} audit new (Ok true) next
    feeds_fit new accepts so_far keeps same free = record {
      tells = λ w audits turn. (
        (λ h. (tells w audits turn).0 accepts),
        (λ both. refl),
      );
      ok = λ w audits turn is_new.
          let kept = ((tells w audits turn).0 accepts).1 in record {
            says = ((λ h. kept), (λ h. same ∙ so_far));
            keeps = λ h.
                keeps w (audits.keeps so_far) turn is_new (next_fits w next is_new kept);
          };
      says = sym (same ∙ so_far);
      stays = λ h. so_far;
      free = free;
      err = λ w audits. tt;
    }

  -- at an error the audit says of the world what it said
  pub feeds_error : {E : Type 0} (new : Audit) (result : Result Bool E) → IsErr result
      → ((w : World) → Keeps audit w → Keeps new w) → new.well_kept ≡ audit.well_kept
      → Feeds audit new result next
  feeds_error new (Ok b) failed keeps same = absurd (cc)
  feeds_error new (Err e) failed keeps same = record {
    tells = λ w audits turn. tt;
    ok = λ w audits turn is_new. tt;
    says = tt;
    stays = λ h. sym same ∙ h;
    free = tt;
    err = λ w audits. record {
      says = ((λ h. audits.says.0 (sym same ∙ h)), (λ kept. same ∙ audits.says.1 kept));
      keeps = λ h. keeps w (audits.keeps (sym same ∙ h));
    };
  }
