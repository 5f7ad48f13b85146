-- Records of rows, one after the other.
use Rattle.std.proofs.Common.{◌≡◌, ℕ, ◌+◌, ◌<◌, ℤ, pos, ◌+ℤ◌, ◌*ℤ◌, List, [], ◌∷◌, ◌++◌, length, take, get_or, Option, Result, Ok, Err, subst, sym, arith}
use Rattle.std.specs.Prelude.{OnOk}
use Rattle.std.specs.Io.KnownBytes.{Appends}
use Rattle.std.specs.List.{AllZip}
use Rattle.std.specs.List.Sorted.{IsSortedByKey}
use Rattle.std.specs.Fn.{Called, ComputesKey}
use Rattle.std.proofs.lemmas.Fn.{always_returns_same}
use denote.Param.Members.{Mut}
use denote.Ref.{Bor}
use Rattle.csv.specs.declared.writer.Writer.{Writer}
use Rattle.jiff.specs.Types.{DateTime}
use Rattle.jiff.specs.Words.{civil_nanos}
use Rattle.jiff.proofs.SpanFacts.{signed_arith}
use Rattle.reg_maps.specs.Maps.{pair_cmp, text_cmp}
use Rattle.reg_core.specs.declared.capability.CapRow.{CapRow}
use Rattle.reg_print.specs.Records.{Adds}
use Rattle.reg_print.proofs.PrintedTokens.{one_more}
use Rattle.reg_program.specs.Printing.{Prints}
use Rattle.reg_program.specs.Tokens.{AddsTokenRow, IsRecord, place}

zip_more : {A B : Type 0} (R : A → B → Type 0) (xs : List A) (ys : List B) (x : A) (y : B)
    → AllZip R xs ys → R x y → AllZip R (xs ++ x ∷ []) (ys ++ y ∷ [])
zip_more R [] [] x y all h = (h, tt)
zip_more R [] (y' ∷ ys) x y all h = absurd all
zip_more R (x' ∷ xs) [] x y all h = absurd all
zip_more R (x' ∷ xs) (y' ∷ ys) x y all h = (all.0, zip_more R xs ys x y all.1 h)

-- the records of the first rows, and of one more
pub one_record_more : {A B : Type 0} (R : A → B → Type 0) (xs : List A) (i : ℕ) (x : A)
    (ys : List B) (y : B) → i < length xs → x ≡ get_or xs i x → AllZip R (take i xs) ys → R x y
    → AllZip R (take (i + 1) xs) (ys ++ y ∷ [])
one_record_more R xs i x ys y below is all h =
    subst (λ front. AllZip R front (ys ++ y ∷ [])) (sym (one_more xs i x below is))
    (zip_more R (take i xs) ys x y all h)

-- what a clock at UTC shows at the end of a capability
pub shown_at_end : (until : ℕ) (shown : DateTime) (nanosecond : ℤ)
    → nanosecond ≡ pos until *ℤ pos 1_000_000_000 → civil_nanos shown ≡ nanosecond +ℤ pos 0
    → civil_nanos shown ≡ pos until *ℤ pos 1_000_000_000
shown_at_end until shown nanosecond e is = omega (arith, signed_arith, e, is)

-- these fields are a record, and they were written
pub adds_record : {W T E : Type 0} (contents : W → Option (List ℕ)) (old new : Writer W)
    (row : CapRow) (result : Result T E) (fields : List (List ℕ)) → IsRecord row fields
    → OnOk result (Adds contents old new fields) → OnOk result (AddsTokenRow contents old new row)
adds_record contents old new row (Ok x) fields is adds = (fields, is, adds)
adds_record contents old new row (Err e) fields is adds = tt

-- a text of this kind went out
pub prints : {T E : Type 0} (result : Result T E) (had has : Option (List ℕ)) (text : List ℕ)
    (Is : List ℕ → Type 0) → Is text → OnOk result (Appends had has text)
    → OnOk result (Prints had has Is)
prints (Ok x) had has text Is is wrote = record { text = text; is = is; wrote = wrote }
prints (Err e) had has text Is is wrote = tt

-- rows that are sorted by a closure that gives the place of each
pub in_places : {F : Type 0} {g : Mut F (Bor CapRow × Unit {0}) (List ℕ × List ℕ)} {f : F}
    (rows : List CapRow)
    → ((key : CapRow → List ℕ × List ℕ) → ComputesKey g key f
    → IsSortedByKey key (pair_cmp text_cmp text_cmp) rows)
    → ((a : Bor CapRow × Unit {0}) (r : List ℕ × List ℕ) (f' : F) → Called g f a r f'
    → (r ≡ place a.0.now) × (f' ≡ f))
    → IsSortedByKey place (pair_cmp text_cmp text_cmp) rows
in_places {g = g} {f = f} rows sorted called =
    sorted place (always_returns_same g (λ a r. r ≡ place a.0.now) f called)
