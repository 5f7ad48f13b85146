-- The times of an account's requests, told as those of its rows.
use Rattle.std.proofs.Common.{◌≡◌, Bool, true, false, ℕ, List, [], ◌∷◌, map, refl, sym, ap, ◌∙◌}
use Rattle.std.proofs.lemmas.Simd.{map-map}
use Rattle.std.specs.Prelude.{Option, filter_map}
use Rattle.std.specs.FinMap.{entries}
use Rattle.std.specs.List.{cons_option}
use Rattle.reg_maps.proofs.MapLaws.{entries-select}
use Rattle.reg_maps.specs.Maps.{keyed, only_if, same_text}
use Rattle.reg_core.proofs.KeyOrders.{name_keys}
use Rattle.reg_core.specs.Request.{request_row, request_rows}
use Rattle.reg_core.specs.Times.{Times, times_of, times_row, times_rows}
use Rattle.reg_core.specs.View.{requests_of, times_by}
use Rattle.reg_core.specs.World.{World, RequestName}
use Rattle.reg_core.specs.declared.request.Case.{Case}
use Rattle.reg_core.specs.declared.request.RequestTimes.{RequestTimes}
use Rattle.reg_registers.specs.Answers.{row_of_times}

module _ (w : World) (of : List ℕ) where
  abbrev told_at : RequestName → Case → Option Times
  told_at name case = only_if (same_text name.0 of) (times_of w.journal name case)

  abbrev own_at : RequestName → Case → Option Case
  own_at name case = only_if (same_text name.0 of) case

  abbrev row_at : RequestName × Case → RequestTimes
  row_at e = row_of_times w (request_row e.0 e.1)

  abbrev told_rows : List (RequestName × Case) → List RequestTimes
  told_rows es =
      map (λ (e : RequestName × Times). times_row e.0 e.1)
      (filter_map (λ (e : RequestName × Case). keyed e.0 (told_at e.0 e.1)) es)

  abbrev own_rows : List (RequestName × Case) → List RequestTimes
  own_rows es =
      map row_at (filter_map (λ (e : RequestName × Case). keyed e.0 (own_at e.0 e.1)) es)

  each_row : (es : List (RequestName × Case)) → told_rows es ≡ own_rows es
  each_row [] = refl
  each_row (e ∷ es) = by (each_row es) (same_text e.0.0 of)
    where
      by : told_rows es ≡ own_rows es → (b : Bool)
          → map (λ (e : RequestName × Times). times_row e.0 e.1)
          (cons_option (keyed e.0 (only_if b (times_of w.journal e.0 e.1)))
          (filter_map (λ (e : RequestName × Case). keyed e.0 (told_at e.0 e.1)) es))
          ≡ map row_at
          (cons_option (keyed e.0 (only_if b e.1))
          (filter_map (λ (e : RequestName × Case). keyed e.0 (own_at e.0 e.1)) es))
      by rest true = ap (λ rows. row_at e ∷ rows) rest
      by rest false = rest

  pub times_told : times_rows (times_by (λ applicant. same_text applicant of) w)
      ≡ map (row_of_times w) (request_rows (requests_of of w))
  times_told =
      ap (map (λ (e : RequestName × Times). times_row e.0 e.1))
      (entries-select name_keys told_at w.requests)
      ∙ each_row (entries w.requests)
      ∙ sym (ap (map row_at) (entries-select name_keys own_at w.requests))
      ∙ sym (map-map (row_of_times w) (λ (e : RequestName × Case). request_row e.0 e.1)
      (entries (requests_of of w)))
