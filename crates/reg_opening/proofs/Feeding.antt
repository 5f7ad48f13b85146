-- An audit that is fed the rows of a table one by one.
use Rattle.std.proofs.Common.{◌≡◌, ℤ, Bool, List, [], ◌∷◌, ◌++◌, Option, map, reverse, refl, sym, ap, subst, ◌∙◌}
use Rattle.std.proofs.lemmas.List.{append-nil, append_assoc, map-append, reverse-append}
use Rattle.std.specs.Prelude.{Ok}
use Rattle.reg_opening.specs.Audits.{Feeds}
use Rattle.reg_opening.specs.declared.audit.Audit.{Audit}
use Rattle.reg_opening.specs.declared.row.Row.{Row}
use Rattle.reg_statements.specs.Reading.{TakesAll}
use Rattle.reg_opening.specs.Feeding.{FeedsRows, TakesRow, rowids_of, with_rows}
use Rattle.reg_opening.specs.Numbered.{HasRisen}
use Rattle.reg_opening.specs.declared.feeder.Feeder.{Feeder}
use Rattle.reg_opening.specs.declared.numbered.Numbered.{Numbered}

pub feeds_none : (audit : Audit) → FeedsRows audit audit []
feeds_none audit = record {
  audits = λ w audits turn new. audits;
  fresh = λ w audits turn kept. tt;
  stays = λ kept. kept;
  free = λ known. known;
}

-- one row more
pub feeds_more : {E : Type 0} (old mid new : Audit) (next : Row) (rows : List Row) (kept : Bool)
    → FeedsRows old mid rows → Feeds {E = E} mid new (Ok kept) next
    → FeedsRows old new (next ∷ rows)
feeds_more old mid new next rows kept before fed = record {
  audits = λ w audits turn are.
      fed.ok (with_rows w rows) (before.audits w audits turn.0 are.0) turn.1 are.1;
  fresh = λ w audits turn holds.
      let are = before.fresh w audits turn.0 (fed.stays holds) in
      let tells = fed.tells (with_rows w rows) (before.audits w audits turn.0 are) turn.1 in
      (are, (tells.0 (fed.says ∙ holds)).0);
  stays = λ holds. before.stays (fed.stays holds);
  free = λ known. fed.free ∙ before.free known;
}

-- ---- A feeder that takes rows as they are read

module _ {T : Type 0} (row : T → Row) where
  abbrev row_of : Numbered T → Row
  row_of n = row n.value

  abbrev Takes : Feeder → List (Numbered T) → Feeder → Type 0
  Takes = TakesAll (TakesRow row)

  -- the rows behind those that were taken before
  abbrev fed_behind : List Row → List (Numbered T) → List Row
  fed_behind before values = map row_of (reverse values) ++ before

  behind : (before : List Row) (value : Numbered T) (more : List (Numbered T))
      → fed_behind (row_of value ∷ before) more ≡ fed_behind before (value ∷ more)
  behind before value more =
      sym (append_assoc (map row_of (reverse more)) (row_of value ∷ []) before)
      ∙ ap (λ rows. rows ++ before) (sym (map-append row_of (reverse more) (value ∷ [])
      ∙ refl) ∙ ap (map row_of) (sym (reverse-append (value ∷ []) more)))

  fed_after : (first : Audit) (before : List Row) (start now : Feeder) (values : List (Numbered T))
      → FeedsRows first start.audit before → Takes start values now
      → FeedsRows first now.audit (fed_behind before values)
  fed_after first before start now [] fed same =
      subst (λ (to : Feeder). FeedsRows first to.audit before) (sym same) fed
  fed_after first before start now (value ∷ more) fed taken =
      let took = taken.1 in
      subst (FeedsRows first now.audit) (behind before value more)
      (fed_after first (row_of value ∷ before) taken.0 now more
      (feeds_more first start.audit taken.0.audit (row_of value) before took.kept fed took.feeds)
      taken.2)

  -- the audit was fed them, the last of them last
  pub fed_all : (start now : Feeder) (values : List (Numbered T)) → Takes start values now
      → FeedsRows start.audit now.audit (map row_of (reverse values))
  fed_all start now values taken =
      subst (FeedsRows start.audit now.audit) (append-nil (map row_of (reverse values)))
      (fed_after start.audit [] start now values (feeds_none start.audit) taken)

  -- and their rowids rise behind those before
  pub risen_all : (start now : Feeder) (values : List (Numbered T)) (rowids : List (Option ℤ))
      → Takes start values now → HasRisen start.rise rowids
      → HasRisen now.rise (rowids ++ rowids_of values)
  risen_all start now [] rowids same risen =
      subst (HasRisen now.rise) (sym (append-nil rowids))
      (subst (λ (to : Feeder). HasRisen to.rise rowids) (sym same) risen)
  risen_all start now (value ∷ more) rowids taken risen =
      subst (HasRisen now.rise) (append_assoc rowids (value.rowid ∷ []) (rowids_of more))
      (risen_all taken.0 now more (rowids ++ value.rowid ∷ []) taken.2
      (taken.1.rises rowids risen))
