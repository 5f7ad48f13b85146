-- The script of rows, from one row to the next.
use Rattle.std.proofs.Common.{◌≡◌, ◌∙◌, ℕ, suc, ◌+◌, ◌<◌, ◌≤◌, List, [], ◌∷◌, ◌++◌, length, map, drop, get_or, Result, Ok, Err, refl, sym, ap, append_assoc, add-one}
use Rattle.std.proofs.Math.Seq.{drop-cons}
use Rattle.std.proofs.Math.ListN.{drop_of_length-le}
use Rattle.std.proofs.lemmas.List.{drop-map}
use Rattle.std.proofs.lemmas.List.{append-nil}
use Rattle.reg_import.specs.Faults.{IsImportFaultOf}
use Rattle.reg_import.specs.Lines.{Line, lines_text}
use Rattle.reg_import.specs.Rows.{row_in}
use Rattle.reg_import.specs.Scripts.{◌>>=◌, IsAppended, lines_from, lines_if, numbered, rows_script, text_if}
use Rattle.reg_import.specs.declared.fault.ImportFault.{ImportFault}
use Rattle.reg_import.specs.declared.fault.ImportFault.TheVariants as import
use Rattle.reg_import.specs.declared.import.Import.{Import}
use Rattle.reg_import.proofs.LineTexts.{lines_text_append, lines_text_nil}

-- a script with this before it
abbrev pub prepended : List ℕ → Result (List ℕ) ImportFault → Result (List ℕ) ImportFault
prepended before (Ok script) = Ok (before ++ script)
prepended before (Err fault) = Err fault

prepended_twice : (a b : List ℕ) (r : Result (List ℕ) ImportFault)
    → prepended a (prepended b r) ≡ prepended (a ++ b) r
prepended_twice a b (Ok script) = ap Ok (sym (append_assoc a b script))
prepended_twice a b (Err fault) = refl

text_of_more : (lines : List Line) (r : Result (List Line) ImportFault)
    → text_if (r >>= (λ more. Ok (lines ++ more))) ≡ prepended (lines_text lines) (text_if r)
text_of_more lines (Ok more) = ap Ok (lines_text_append lines more)
text_of_more lines (Err fault) = refl

-- the whole is what was written and the script of the rows that are left
abbrev pub HasWritten : Import → List (List ℕ) → List (List (List ℕ)) → ℕ → List (List (List ℕ))
    → List ℕ → Type 0
HasWritten by header all n left script =
    rows_script by header 1 all ≡ prepended script (rows_script by header n left)

pub written_first : (by : Import) (header : List (List ℕ)) (all : List (List (List ℕ)))
    → HasWritten by header all 1 all []
written_first by header all = sym (same (rows_script by header 1 all))
  where
    same : (r : Result (List ℕ) ImportFault) → prepended [] r ≡ r
    same (Ok script) = refl
    same (Err fault) = refl

pub written_next : (by : Import) (header : List (List ℕ)) (all : List (List (List ℕ))) (n : ℕ)
    (row : List (List ℕ)) (left : List (List (List ℕ))) (old new : List ℕ)
    → HasWritten by header all n (row ∷ left) old → IsAppended by n header row old new
    → HasWritten by header all (n + 1) left new
written_next by header all n row left old new whole next =
    let step : rows_script by header n (row ∷ left)
    ≡ prepended (lines_text (lines_if by next.0)) (rows_script by header (n + 1) left) =
    rw next.1 (text_of_more (lines_if by next.0) (lines_from by header (n + 1) left)) in
    whole ∙ ap (prepended old) step
    ∙ prepended_twice old (lines_text (lines_if by next.0)) (rows_script by header (n + 1) left)
    ∙ ap (λ t. prepended t (rows_script by header (n + 1) left)) (sym next.2)

pub written_all : (by : Import) (header : List (List ℕ)) (all : List (List (List ℕ))) (n : ℕ)
    (script : List ℕ) → HasWritten by header all n [] script → rows_script by header 1 all ≡ Ok script
written_all by header all n script whole = whole ∙ ap Ok (rw lines_text_nil (append-nil script))

fault_met : (by : Import) (header : List (List ℕ)) (all : List (List (List ℕ))) (n : ℕ)
    (row : List (List ℕ)) (left : List (List (List ℕ))) (old : List ℕ) (fault : ImportFault)
    → HasWritten by header all n (row ∷ left) old → numbered n (row_in by header row) ≡ Err fault
    → rows_script by header 1 all ≡ Err fault
fault_met by header all n row left old fault whole met = whole ∙ rw met refl

pub is_fault_met : (by : Import) (header : List (List ℕ)) (all : List (List (List ℕ))) (n : ℕ)
    (row : List (List ℕ)) (left : List (List (List ℕ))) (old : List ℕ) (fault : ImportFault)
    → HasWritten by header all n (row ∷ left) old
    → IsImportFaultOf (numbered n (row_in by header row)) fault
    → IsImportFaultOf (rows_script by header 1 all) fault
is_fault_met by header all n row left old import.Memory whole met = tt
is_fault_met by header all n row left old import.Header whole met =
    fault_met by header all n row left old import.Header whole met
is_fault_met by header all n row left old (import.Row m f) whole met =
    fault_met by header all n row left old (import.Row m f) whole met

-- the row at a place is the first of those that are left there
pub row_at : {X Y : Type 0} (f : X → Y) (xs : List X) (i : ℕ) (x : X) → i < length xs
    → x ≡ get_or xs i x → drop i (map f xs) ≡ f x ∷ drop (i + 1) (map f xs)
row_at f xs i x h is =
    let here = drop-cons xs i x h in
    let rest : drop (suc i) (map f xs) ≡ map f (drop (suc i) xs) = drop-map f (suc i) xs in
    drop-map f i xs ∙ ap (map f) here ∙ ap (λ y. f y ∷ map f (drop (suc i) xs)) (sym is)
    ∙ ap (λ ys. f x ∷ ys) (sym rest ∙ ap (λ n. drop n (map f xs)) (sym (add-one i)))

-- none are left at the end
pub none_left : {X Y : Type 0} (f : X → Y) (xs : List X) (i : ℕ) → length xs ≤ i
    → drop i (map f xs) ≡ []
none_left f xs i h = drop-map f i xs ∙ ap (map f) (drop_of_length-le xs h)
