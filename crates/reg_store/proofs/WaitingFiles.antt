-- The files of requests that wait, as requests are held: by account, and then by reference.
use Rattle.std.proofs.Common.{◌≡◌, ◌++◌, ℕ, true, false, List, [], ◌∷◌, refl, ap, ◌∙◌, map}
use Rattle.std.specs.Prelude.{Option, filter_map}
use Rattle.std.specs.BTreeMap.{BTreeMap}
use Rattle.std.specs.Borrow.{Bor}
use Rattle.std.specs.FinMap.{entries}
use Rattle.std.specs.List.{cons_option}
use Rattle.std.specs.Map.Iter.{deref_pair}
use Rattle.std.proofs.lemmas.List.{map-append}
use Rattle.std.proofs.lemmas.List.Elements.{filter_map-append}
use Rattle.reg_maps.specs.Maps.{keyed, only_if}
use Rattle.reg_maps.specs.Groups.{rows_in, group_rows}
use Rattle.reg_maps.proofs.MapLaws.{text_keys, pair_keys, entries-select}
use Rattle.reg_maps.proofs.FiniteMaps.InOrder.{rows_in-push}
use Rattle.reg_core.specs.File.{file, waiting_files}
use Rattle.reg_core.specs.Request.{is_pending}
use Rattle.reg_core.specs.World.{World, RequestName}
use Rattle.reg_core.specs.declared.case_file.CaseFile.{CaseFile}
use Rattle.reg_core.specs.declared.request.Case.{Case}

-- a request's file, if it waits
abbrev pub waiting_file : World → RequestName → Case → Option CaseFile
waiting_file w name case = only_if (is_pending case.state) (file w name case)

-- the files of those of these requests that wait
abbrev pub files_of : World → List (RequestName × Case) → List CaseFile
files_of w rs = filter_map (λ e. waiting_file w e.0 e.1) rs

-- the files of a group
files_of-group : (w : World) (a : List ℕ) (rs : List (List ℕ × Case))
    → files_of w (group_rows a rs) ≡ filter_map (λ r. waiting_file w (a, r.0) r.1) rs
files_of-group w a [] = refl
files_of-group w a (r ∷ rs) =
    ap (cons_option (waiting_file w (a, r.0) r.1)) (files_of-group w a rs)

-- the files of one more group
pub files_of-push : (w : World) (done : List (Bor (List ℕ) × Bor (BTreeMap (List ℕ) Case)))
    (next : Bor (List ℕ) × Bor (BTreeMap (List ℕ) Case))
    → files_of w (rows_in (map deref_pair (done ++ next ∷ [])))
    ≡ files_of w (rows_in (map deref_pair done))
    ++ filter_map (λ r. waiting_file w (next.0.now, r.0) r.1) next.1.now.entries
files_of-push w done next =
    let rows = rows_in (map deref_pair done) in
    let more = next.1.now.entries in
    ap (λ es. files_of w (rows_in es)) (map-append deref_pair done (next ∷ []))
    ∙ ap (files_of w) (rows_in-push (map deref_pair done) (deref_pair next))
    ∙ filter_map-append (λ e. waiting_file w e.0 e.1) rows (group_rows next.0.now more)
    ∙ ap (λ files. files_of w rows ++ files) (files_of-group w next.0.now more)

-- the files of what is chosen are what is chosen of the files
files_of-chosen : (w : World) (rs : List (RequestName × Case))
    → map (λ e. file w e.0 e.1)
    (filter_map (λ e. keyed e.0 (only_if (is_pending e.1.state) e.1)) rs) ≡ files_of w rs
files_of-chosen w [] = refl
files_of-chosen w (r ∷ rs) =
    elim (is_pending r.1.state) as (λ b. map (λ e. file w e.0 e.1)
    (cons_option (keyed r.0 (only_if b r.1))
    (filter_map (λ e. keyed e.0 (only_if (is_pending e.1.state) e.1)) rs))
    ≡ cons_option (only_if b (file w r.0 r.1)) (files_of w rs)) [
      | true ↦ ap (λ files. file w r.0 r.1 ∷ files) (files_of-chosen w rs)
      | false ↦ files_of-chosen w rs
    ]

-- the files of all requests that wait
pub waiting_files-entries : (w : World) → waiting_files w ≡ files_of w (entries w.requests)
waiting_files-entries w =
    ap (λ rs. map (λ e. file w e.0 e.1) rs)
    (entries-select (pair_keys text_keys text_keys)
    (λ name case. only_if (is_pending case.state) case) w.requests)
    ∙ files_of-chosen w (entries w.requests)
