-- The rows of a range have its values, each in one row.
use Rattle.std.proofs.Common.{◌≡◌, ℕ, ◌+◌, ◌-◌, ◌<◌, ◌≤◌, nat_lt, nat_le, List, [], ◌∷◌, ◌++◌, map, filter, Bool, true, false, Option, Some, None, refl, subst, arith, append-nil}
use Rattle.std.specs.Prelude.{cond, if◌then◌else◌}
use Rattle.std.specs.Cmp.{first_so, second_so}
use Rattle.std.proofs.lemmas.Bool.Decides.{nat_tests}
use Rattle.reg_ranges.specs.declared.range.Range.{Range}
use Rattle.reg_ranges.proofs.Increasing.{Rises, rises_any}
use Rattle.reg_core.specs.declared.entry.PageEntry.{PageEntry}
use Rattle.reg_print.specs.declared.listing.rows.RowStatus.{RowStatus}
use Rattle.reg_print.specs.Listing.{ListedRow, closed_status, is_in, free_row, entry_row, free_rows, rows_from, rows_by}
use Rattle.reg_print.specs.Laws.{Cover, RowsCoverRanges}

abbrev values_of : List PageEntry → List ℕ
values_of entries = map (λ e. e.value) entries

-- the entries ascend by value, from `least` to the last at most
abbrev Within : ℕ → ℕ → List PageEntry → Type 0
Within least last [] = Unit {0}
Within least last (e ∷ es) = (least ≤ e.value) × (e.value ≤ last) × Within (e.value + 1) last es

at_least : (lo v : ℕ) → nat_le lo v ≡ true → lo ≤ v
at_least lo v h = grind (arith, nat_tests)

kept_at : (range : Range) (m : ℕ) (e : PageEntry) (rest : List PageEntry) (b : Bool)
    → is_in range e ≡ b → (range.lo ≤ e.value → m ≤ e.value)
    → Within (e.value + 1) range.hi rest → Within m range.hi rest
    → Within m range.hi (cond b (e ∷ rest) rest)
kept_at range m e rest true is h taken skipped =
    let low =
    at_least range.lo e.value
    (first_so (nat_le range.lo e.value) (nat_le e.value range.hi) is) in
    let high =
    at_least e.value range.hi
    (second_so (nat_le range.lo e.value) (nat_le e.value range.hi) is) in
    (h low, high, taken)
kept_at range m e rest false is h taken skipped = skipped

-- the entries of a range, of those that ascend
kept : (range : Range) (m n : ℕ) (es : List PageEntry) → ((v : ℕ) → n ≤ v → range.lo ≤ v → m ≤ v)
    → Rises n (values_of es) → Within m range.hi (filter (is_in range) es)
kept range m n [] h ascends = tt
kept range m n (e ∷ es) h ascends =
    let above = ascends.0 in
    kept_at range m e (filter (is_in range) es) (is_in range e) refl (h e.value above)
    (kept range (e.value + 1) (e.value + 1) es (λ v p q. p) ascends.1)
    (kept range m (e.value + 1) es (λ v p q. h v (omega arith) q) ascends.1)

below : (next end : ℕ) → nat_lt next end ≡ true → next < end
below next end h = grind (arith, nat_tests)

reached : (next end : ℕ) → nat_lt next end ≡ false → next ≤ end → end ≡ next
reached next end h within = grind (arith, nat_tests)

-- a run and what follows it
run_covers_at : (range : Range) (next end stop : ℕ) (rows : List ListedRow) (b : Bool)
    → nat_lt next end ≡ b → next ≤ end → Cover end stop rows
    → Cover next stop
    ((if b then free_row range (record { lo = next; hi = end - 1 }) ∷ [] else []) ++ rows)
run_covers_at range next end stop rows true is h more =
    let some = below next end is in
    let last : end ≡ end - 1 + 1 = omega arith in
    (refl, omega arith, subst (λ n. Cover n stop rows) last more)
run_covers_at range next end stop rows false is h more =
    subst (λ n. Cover n stop rows) (reached next end is h) more

run_covers : (range : Range) (next end stop : ℕ) (rows : List ListedRow) → next ≤ end
    → Cover end stop rows → Cover next stop (free_rows range next end ++ rows)
run_covers range next end stop rows h more =
    run_covers_at range next end stop rows (nat_lt next end) refl h more

from_covers : (range : Range) (next : ℕ) (es : List PageEntry) → next ≤ range.hi + 1
    → Within next range.hi es → Cover next (range.hi + 1) (rows_from range next es)
from_covers range next [] h within =
    subst (Cover next (range.hi + 1)) (append-nil (free_rows range next (range.hi + 1)))
    (run_covers range next (range.hi + 1) (range.hi + 1) [] h refl)
from_covers range next (e ∷ es) h within =
    let low = within.0 in
    let high = within.1 in
    run_covers range next e.value (range.hi + 1)
    (entry_row range e ∷ rows_from range (e.value + 1) es) low
    (refl, omega arith, from_covers range (e.value + 1) es (omega arith) within.2)

by_covers : (range : Range) (entries : List PageEntry) (closed : Option RowStatus)
    → Rises 0 (values_of entries)
    → range.lo ≤ range.hi → Cover range.lo (range.hi + 1) (rows_by closed entries range)
by_covers range entries (Some status) ascends some = (refl, some, refl)
by_covers range entries None ascends some =
    from_covers range range.lo (filter (is_in range) entries) (omega arith)
    (kept range range.lo 0 entries (λ v p q. q) ascends)

pub rows_cover : RowsCoverRanges
rows_cover entries range ascends some =
    by_covers range entries (closed_status range.treatment)
    (rises_any (values_of entries) ascends) some
