-- Portions of a page.
use Rattle.std.proofs.Common.{◌≡◌, ℕ, ◌+◌, ◌<◌, ◌≤◌, List, [], ◌∷◌, ◌++◌, length, get_or, drop, nat_lt, if◌then◌else◌, Bool, true, false, codes, refl, sym, ap, ◌∙◌, append-nil, add-one, drop-cons, arith, Option, None}
use Rattle.std.proofs.lemmas.Bool.Decides.{nat_tests}
use Rattle.std.proofs.lemmas.List.{length-append}
use Rattle.reg_blocks.specs.Digits.{prefix_text}
use Rattle.reg_core.specs.declared.holding.Listed.{Listed}
use Rattle.reg_pages.specs.Appended.{Appended}
use Rattle.reg_pages.specs.Markup.{Markup, nothing, markup_then}
use Rattle.reg_pages.specs.Table.{below_rows, group}
use Rattle.reg_pages.proofs.Pieces.{bytes}
use Rattle.reg_pages.specs.Portions.{GivesPortion, after}
use Rattle.reg_pages.specs.Blocks as blocks
use Rattle.reg_pages.specs.declared.portions.Next.TheVariants as next

-- what was appended was the next portion, and has a byte
pub gives : {old new rest rest' : List ℕ} {f : List ℕ → List ℕ} → Appended old new f
    → 0 < length (f []) → rest ≡ f rest' → GivesPortion old new rest rest'
gives {old} {new} {rest} {rest'} {f} h some is =
    let whole : new ++ rest' ≡ old ++ rest = h.all rest' ∙ ap (λ left. old ++ left) (sym is) in
    let grown : new ≡ old ++ f [] = sym (append-nil new) ∙ h.all [] in
    let both : length new + length rest' ≡ length old + length rest =
    sym (length-append new rest') ∙ ap length whole ∙ length-append old rest in
    let more : length new ≡ length old + length (f []) = ap length grown ∙ length-append old (f []) in
    record {
      whole = whole;
      less = omega (arith, both, more, some);
    }

-- the item at a place is the first from there
pub at_place : {X : Type 0} (xs : List X) (place : ℕ) (x : X) → place < length xs
    → x ≡ get_or xs place x → drop place xs ≡ x ∷ drop (place + 1) xs
at_place xs place x h is =
    let here : drop place xs ≡ get_or xs place x ∷ drop (place + 1) xs =
    rw add-one (drop-cons xs place x h) in
    here ∙ ap (λ head. head ∷ drop (place + 1) xs) (sym is)

-- these bytes were the next portion
pub gives_bytes : {old new rest rest' : List ℕ} (piece : List ℕ) → new ≡ old ++ piece
    → 0 < length piece → rest ≡ piece ++ rest' → GivesPortion old new rest rest'
gives_bytes {old} {new} piece h some is =
    gives (bytes old new piece h) (rw (append-nil piece) some) is

-- ---- What is given next

-- behind a row that is there stands another one, or what is below
pub after_row : (place rows : ℕ) → place < rows → after (next.Row place) rows ≡ next.Row (place + 1)
after_row place rows h =
    let there : nat_lt place rows ≡ true = grind (arith, nat_tests, h) in
    ap (λ b. if b then next.Row (place + 1) else next.Nothing) there

-- behind the last row is what stands below, and then nothing
pub after_last : (place rows : ℕ) → rows ≤ place → after (next.Row place) rows ≡ next.Nothing
after_last place rows h =
    let gone : nat_lt place rows ≡ false = grind (arith, nat_tests, h) in
    ap (λ b. if b then next.Row (place + 1) else next.Nothing) gone

-- what stands below the rows of a table has a byte
pub below_some : 0 < length (below_rows ++ [])
below_some = omega arith

-- ---- The page of the blocks

-- what stands above its rows has a byte
pub blocks_above_some : (lines : Markup) (rows : List Listed)
    → 0 < length (blocks.above_rows lines rows [])
blocks_above_some lines rows = omega arith

-- a row has a byte, whether a prefix stands above it or not
headed_some : (headed : Bool) (digits : List ℕ) (row : Listed)
    → 0
    < length
    (markup_then (if headed then nothing else group digits (codes "4"))
    (markup_then (blocks.block_row row) []))
headed_some true digits row = omega arith
headed_some false digits row = omega arith

pub row_some : (before : Option ℕ) (row : Listed)
    → 0 < length (markup_then (blocks.row_behind before row) [])
row_some before row =
    let prefix = blocks.prefix_of row.block in
    headed_some (blocks.is_prefix before prefix) (prefix_text prefix) row

-- the page is what stands above its rows, and then these and what stands below
pub blocks_parts : (lines : Markup) (rows : List Listed)
    → blocks.blocks_page lines rows
    ≡ blocks.above_rows lines rows (blocks.rows_left None rows)
unfolding blocks.blocks_page
blocks_parts lines rows = refl
