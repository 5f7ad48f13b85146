-- The bytes of a history tell its records.
use Rattle.std.proofs.Common.{◌≡◌, ℕ, zero, suc, ◌+◌, ◌/◌, ◌%◌, Bool, true, false, ◌||◌, List, [], ◌∷◌, ◌++◌, length, slice_index, refl, sym, ap, ◌∙◌, append_assoc, append-nil, arith}
use Rattle.std.specs.Prelude.{Option, Some, None, not, slice_get, unwrap_or, ◌-◌}
use Rattle.std.specs.Cmp.{first_so, second_so}
use Rattle.std.specs.Fmt.{decimal}
use Rattle.std.specs.List.{list_all, list_any}
use Rattle.csv.specs.Machine.{Read, next_record}
use Rattle.csv.specs.Reading.{default_config}
use Rattle.csv.specs.Writing.{default_writer, field_text, fields_text, is_blank, needs_byte, row_body, row_text}
use Rattle.csv.specs.declared.parser.State.TheVariants as st
use Rattle.csv.proofs.RoundTrip.{read-write-many}
use Rattle.hex.specs.Hex.{encode_lower, encode_with, lower_digits}
use Rattle.sha2.specs.Sha256.{sha256}
use Rattle.reg_history.specs.Chain.{Chained, begun, chain_from, chained, change_fields, digest, front, header_line, line, next_digest, next_line, record_fields, with_record}
use Rattle.reg_changes.specs.declared.change.HistoryRecord.{HistoryRecord}
use Rattle.reg_history.specs.History.{news}
use Rattle.reg_history.specs.Laws.{BytesTellRecords, SameFolderSameBytes}
use Rattle.reg_changes.specs.Words.{class_word}
use Rattle.reg_changes.specs.declared.change.PublishedChange.{PublishedChange}
use Rattle.reg_changes.specs.declared.change.PublishedChange.TheVariants.{Made, Term}
use Rattle.reg_changes.specs.declared.change.Class.{Class}
use Rattle.reg_changes.specs.declared.change.Class.TheVariants as class

-- ---- A digest needs no quotes

plain : ℕ → Bool
plain b = not (needs_byte default_writer b)

not-so : (x : Bool) → not x ≡ true → x ≡ false
not-so true e = cc e
not-so false e = refl

or-false : (a b : Bool) → a ≡ false → b ≡ false → (a || b) ≡ false
or-false true b e f = cc e
or-false false b e f = f

plain_at : (xs : List ℕ) (i : ℕ) → list_all plain xs ≡ true → plain (slice_index xs i) ≡ true
unfolding plain
plain_at [] i h = refl
plain_at (x ∷ xs) zero h = first_so (plain x) (list_all plain xs) h
plain_at (x ∷ xs) (suc i) h = plain_at xs i (second_so (plain x) (list_all plain xs) h)

encode-plain : (digits : List ℕ) → list_all plain digits ≡ true → (xs : List ℕ)
    → list_any (needs_byte default_writer) (encode_with digits xs) ≡ false
unfolding encode_with plain
encode-plain digits h [] = refl
encode-plain digits h (b ∷ rest) =
    or-false _ _ (not-so _ (plain_at digits (b / 16) h))
    (or-false _ _ (not-so _ (plain_at digits (b % 16) h)) (encode-plain digits h rest))

digest-plain : (m : List ℕ) → list_any (needs_byte default_writer) (encode_lower (sha256 m)) ≡ false
unfolding plain
digest-plain m = encode-plain lower_digits refl (sha256 m)

-- ---- A record is a row of CSV

fields-last : (rest : List (List ℕ)) (d : List ℕ)
    → fields_text default_writer (rest ++ d ∷ [])
    ≡ fields_text default_writer rest ++ (44 ∷ (field_text default_writer d ++ []))
unfolding fields_text
fields-last [] d = refl
fields-last (x ∷ rest) d =
    ap (λ (t : List ℕ). 44 ∷ (field_text default_writer x ++ t)) (fields-last rest d)
    ∙ ap (λ (t : List ℕ). 44 ∷ t)
    (sym (append_assoc (field_text default_writer x) (fields_text default_writer rest)
    (44 ∷ (field_text default_writer d ++ []))))

regroup : (a b d : List ℕ)
    → ((a ++ b) ++ (44 ∷ [])) ++ (d ++ 10 ∷ []) ≡ (a ++ (b ++ (44 ∷ (d ++ [])))) ++ (10 ∷ [])
regroup a b d = simp (append_assoc, append-nil)

row-last : (x y : List ℕ) (rest : List (List ℕ)) (d : List ℕ)
    → list_any (needs_byte default_writer) d ≡ false
    → (row_body default_writer (x ∷ y ∷ rest) ++ (44 ∷ [])) ++ (d ++ 10 ∷ [])
    ≡ row_text default_writer (x ∷ y ∷ (rest ++ d ∷ []))
unfolding is_blank
row-last x y rest d plain_d =
    let F = fields_text default_writer (y ∷ rest) in
    let as_is : field_text default_writer d ≡ d = rw plain_d refl in
    regroup (field_text default_writer x) F d
    ∙ ap (λ (t : List ℕ). (field_text default_writer x ++ (F ++ (44 ∷ (t ++ [])))) ++ (10 ∷ []))
    (sym as_is)
    ∙ ap (λ (t : List ℕ). (field_text default_writer x ++ t) ++ (10 ∷ []))
    (sym (fields-last (y ∷ rest) d))

-- what a reader reads of a record and what stands behind it
pub read_line : (before : List ℕ) (n : ℕ) (r : HistoryRecord) (tail : List ℕ)
    → next_record default_config st.StartRecord [] [] (line before n r ++ tail)
    ≡ Some (record_fields (decimal n) r ++ digest before n r ∷ [], st.StartRecord, tail)
read_line before n r tail =
    ap (λ (t : List ℕ). next_record default_config st.StartRecord [] [] (t ++ tail))
    (row-last (decimal n) r.moment (change_fields r.change) (digest before n r)
    (digest-plain (before ++ front n r)))
    ∙ read-write-many (decimal n) r.moment (change_fields r.change ++ digest before n r ∷ []) tail

fields-in : Option Read → List (List ℕ)
fields-in None = []
fields-in (Some p) = p.0

rest-in : Option Read → List ℕ
rest-in None = []
rest-in (Some p) = p.2

-- ---- Its fields tell a record

pick : ℕ → List (List ℕ) → List ℕ
pick k [] = []
pick zero (x ∷ xs) = x
pick (suc k) (x ∷ xs) = pick k xs

first : List ℕ → ℕ
first [] = 0
first (x ∷ xs) = x

words-tell : (a b : Class) → class_word a ≡ class_word b → a ≡ b
unfolding first
words-tell class.Range class.Range e = refl
words-tell class.Range class.Entry e = absurd (omega (arith, ap first e))
words-tell class.Range class.Prefix e = absurd (omega (arith, ap first e))
words-tell class.Range class.Block e = absurd (omega (arith, ap first e))
words-tell class.Entry class.Range e = absurd (omega (arith, ap first e))
words-tell class.Entry class.Entry e = refl
words-tell class.Entry class.Prefix e = absurd (omega (arith, ap first e))
words-tell class.Entry class.Block e = absurd (omega (arith, ap first e))
words-tell class.Prefix class.Range e = absurd (omega (arith, ap first e))
words-tell class.Prefix class.Entry e = absurd (omega (arith, ap first e))
words-tell class.Prefix class.Prefix e = refl
words-tell class.Prefix class.Block e = absurd (omega (arith, ap first e))
words-tell class.Block class.Range e = absurd (omega (arith, ap first e))
words-tell class.Block class.Entry e = absurd (omega (arith, ap first e))
words-tell class.Block class.Prefix e = absurd (omega (arith, ap first e))
words-tell class.Block class.Block e = refl

no-term : (a : Class) → class_word a ≡ 116 ∷ 101 ∷ 114 ∷ 109 ∷ [] → ⊥
unfolding first
no-term class.Range e = omega (arith, ap first e)
no-term class.Entry e = omega (arith, ap first e)
no-term class.Prefix e = omega (arith, ap first e)
no-term class.Block e = omega (arith, ap first e)

-- the fields of a record, with any number and digest
abbrev row_of : List ℕ → List ℕ → PublishedChange → List ℕ → List (List ℕ)
row_of n m c d = n ∷ m ∷ (change_fields c ++ d ∷ [])

changes-tell : (n m m' d d' : List ℕ) (c c' : PublishedChange) → row_of n m c d ≡ row_of n m' c' d' → c ≡ c'
unfolding pick
changes-tell n m m' d d' (Made f) (Made g) e =
    let kind = words-tell f.subject.class g.subject.class (ap (pick 3) e) in
    λ i. Made (record {
      subject = record {
        registry = pick 2 (e i);
        class = kind i;
        value = pick 4 (e i);
      };
      details = record {
        description = pick 5 (e i);
        policy = pick 6 (e i);
        first = pick 7 (e i);
        standing = record { expires = pick 8 (e i); held = pick 9 (e i) };
        assignee = pick 10 (e i);
      };
    })
changes-tell n m m' d d' (Made f) (Term registry value standing) e =
    absurd (no-term f.subject.class (ap (pick 3) e))
changes-tell n m m' d d' (Term registry value standing) (Made g) e =
    absurd (no-term g.subject.class (sym (ap (pick 3) e)))
changes-tell n m m' d d' (Term registry value standing) (Term registry' value' standing') e =
    λ i. Term (pick 2 (e i)) (pick 4 (e i))
    (record { expires = pick 8 (e i); held = pick 9 (e i) })

moments-tell : (n m m' d d' : List ℕ) (c c' : PublishedChange) → row_of n m c d ≡ row_of n m' c' d' → m ≡ m'
unfolding pick
moments-tell n m m' d d' c c' e = ap (pick 1) e

-- ---- All records

unfoldable pub lines_of : List (List ℕ) → List HistoryRecord → List ℕ
lines_of ds [] = []
lines_of ds (r ∷ rs) = next_line ds r ++ lines_of (ds ++ next_digest ds r ∷ []) rs

pub chain-lines : (c : Chained) (rs : List HistoryRecord)
    → (chain_from c rs).text ≡ c.text ++ lines_of c.digests rs
unfolding lines_of
chain-lines c [] = sym (append-nil c.text)
chain-lines c (r ∷ rs) =
    chain-lines (with_record c r) rs
    ∙ append_assoc c.text (next_line c.digests r) (lines_of (c.digests ++ next_digest c.digests r ∷ []) rs)

pub cancel : (xs ys zs : List ℕ) → xs ++ ys ≡ xs ++ zs → ys ≡ zs
cancel [] ys zs e = e
cancel (x ∷ xs) ys zs e = cancel xs ys zs (cc e)

pub no-read : next_record default_config st.StartRecord [] [] [] ≡ None
unfolding next_record
no-read = refl

-- a line tells its record, and what stands behind it
pub line-tells : (ds : List (List ℕ)) (x y : HistoryRecord) (a b : List ℕ)
    → next_line ds x ++ a ≡ next_line ds y ++ b → (x ≡ y) × (a ≡ b)
unfolding fields-in rest-in
line-tells ds x y a b e =
    let before = unwrap_or (slice_get ds (length ds - 1)) [] in
    let number = length ds + 1 in
    let both = sym (read_line before number x a)
    ∙ ap (λ (t : List ℕ). next_record default_config st.StartRecord [] [] t) e
    ∙ read_line before number y b in
    let fields = ap fields-in both in
    let change = changes-tell (decimal number) x.moment y.moment (next_digest ds x) (next_digest ds y)
    x.change y.change fields in
    let moment = moments-tell (decimal number) x.moment y.moment (next_digest ds x) (next_digest ds y)
    x.change y.change fields in
    (λ i. record { moment = moment i; change = change i }, ap rest-in both)

-- a line is not empty
pub line-some : (ds : List (List ℕ)) (r : HistoryRecord) (rest : List ℕ) → next_line ds r ++ rest ≡ [] → ⊥
line-some ds r rest e =
    let read = read_line (unwrap_or (slice_get ds (length ds - 1)) []) (length ds + 1) r rest in
    let none = ap (λ (t : List ℕ). next_record default_config st.StartRecord [] [] t) e in
    cc (sym no-read ∙ sym none ∙ read)

lines-tell : (ds : List (List ℕ)) (xs ys : List HistoryRecord) → lines_of ds xs ≡ lines_of ds ys → xs ≡ ys
unfolding lines_of
lines-tell ds [] [] e = refl
lines-tell ds [] (y ∷ ys) e = absurd (line-some ds y (lines_of (ds ++ next_digest ds y ∷ []) ys) (sym e))
lines-tell ds (x ∷ xs) [] e = absurd (line-some ds x (lines_of (ds ++ next_digest ds x ∷ []) xs) e)
lines-tell ds (x ∷ xs) (y ∷ ys) e =
    let both = line-tells ds x y (lines_of (ds ++ next_digest ds x ∷ []) xs)
    (lines_of (ds ++ next_digest ds y ∷ []) ys) e in
    let rest = lines-tell (ds ++ next_digest ds x ∷ []) xs ys
    (both.1 ∙ ap (λ (r : HistoryRecord). lines_of (ds ++ next_digest ds r ∷ []) ys) (sym both.0)) in
    λ i. both.0 i ∷ rest i

pub unique : BytesTellRecords
unique xs ys e =
    lines-tell [] xs ys
    (cancel header_line (lines_of [] xs) (lines_of [] ys)
    (sym (chain-lines begun xs) ∙ e ∙ chain-lines begun ys))

pub same_bytes : SameFolderSameBytes
same_bytes xs ys moment facts more more' digests digests' e left right =
    let same = unique xs ys e in
    cancel (chained ys).text more more'
    (ap (λ (t : List ℕ). t ++ more) (sym e) ∙ sym left.text
    ∙ ap (λ (rs : List HistoryRecord). (chained (rs ++ news rs moment facts)).text) same ∙ right.text)
