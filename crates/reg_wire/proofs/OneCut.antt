-- A script is cut into lines in one way.
use Rattle.std.proofs.Common.{◌≡◌, ◌≢◌, ℕ, List, [], ◌∷◌, ◌++◌, Bool, true, false, refl, sym, ap, ◌∙◌, arith, append_assoc}
use Rattle.std.proofs.lemmas.Bool.Decides.{nat_tests}
use Rattle.std.specs.Prelude.{◌==◌}
use Rattle.std.specs.List.{flat_map, AllByRecursion}
use Rattle.reg_wire.specs.Script.Lines.{ended, IsOneLine, Cut, rest_line, AreLines}

-- the lines that end in a line feed, and the rest
abbrev Parts : Type 0
Parts = List (List ℕ) × List ℕ

-- a byte in front of the first line
abbrev in_front : ℕ → List (List ℕ) → List ℕ → Parts
in_front b [] rest = ([], b ∷ rest)
in_front b (line ∷ lines) rest = ((b ∷ line) ∷ lines, rest)

abbrev with_byte : Bool → ℕ → Parts → Parts
with_byte true b parts = ([] ∷ parts.0, parts.1)
with_byte false b parts = in_front b parts.0 parts.1

abbrev parts_of : List ℕ → Parts
parts_of [] = ([], [])
parts_of (b ∷ bytes) = with_byte (b == 10) b (parts_of bytes)

no_feed : (b : ℕ) → b ≢ 10 → (b == 10) ≡ false
no_feed b other = grind (arith, nat_tests)

rest_parts : (rest : List ℕ) → IsOneLine rest → parts_of rest ≡ ([], rest)
rest_parts [] h = refl
rest_parts (b ∷ bs) h =
    rw (no_feed b h.0) (ap (λ (p : Parts). in_front b p.0 p.1) (rest_parts bs h.1))

line_parts : (line more : List ℕ) → IsOneLine line
    → parts_of (line ++ 10 ∷ more) ≡ (line ∷ (parts_of more).0, (parts_of more).1)
line_parts [] more h = refl
line_parts (b ∷ bs) more h =
    rw (no_feed b h.0) (ap (λ (p : Parts). in_front b p.0 p.1) (line_parts bs more h.1))

cut_parts : (lines : List (List ℕ)) (rest : List ℕ) → AllByRecursion IsOneLine lines
    → IsOneLine rest → parts_of (flat_map ended lines ++ rest) ≡ (lines, rest)
cut_parts [] rest each last = rest_parts rest last
cut_parts (line ∷ lines) rest each last =
    let more = flat_map ended lines ++ rest in
    let apart : flat_map ended (line ∷ lines) ++ rest ≡ line ++ 10 ∷ more =
    append_assoc (ended line) (flat_map ended lines) rest ∙ append_assoc line (10 ∷ []) more in
    ap parts_of apart ∙ line_parts line more each.0
    ∙ ap (λ (p : Parts). (line ∷ p.0, p.1)) (cut_parts lines rest each.1 last)

abbrev all_of : Parts → List (List ℕ)
all_of p = p.0 ++ rest_line p.1

lines_are : (script : List ℕ) (lines : List (List ℕ)) → AreLines script lines
    → lines ≡ all_of (parts_of script)
lines_are script lines a =
    a.3 ∙ ap all_of (sym (ap parts_of a.2.whole ∙ cut_parts a.0 a.1 a.2.each a.2.last))

pub same_lines : (script : List ℕ) (xs ys : List (List ℕ)) → AreLines script xs → AreLines script ys
    → xs ≡ ys
same_lines script xs ys a b = lines_are script xs a ∙ sym (lines_are script ys b)

-- ---- Each script has its lines

feed : (b : ℕ) → (b == 10) ≡ true → b ≡ 10
feed b t = grind (arith, nat_tests)

other : (b : ℕ) → (b == 10) ≡ false → b ≢ 10
other b t = grind (arith, nat_tests)

cut_in_front : (b : ℕ) (bytes : List ℕ) (lines : List (List ℕ)) (rest : List ℕ) → b ≢ 10
    → Cut bytes lines rest → Cut (b ∷ bytes) (in_front b lines rest).0 (in_front b lines rest).1
cut_in_front b bytes [] rest h cut =
    record {
      whole = ap (λ t. b ∷ t) cut.whole;
      each = tt;
      last = (h, cut.last);
    }
cut_in_front b bytes (line ∷ lines) rest h cut =
    record {
      whole = ap (λ t. b ∷ t) cut.whole;
      each = ((h, cut.each.0), cut.each.1);
      last = cut.last;
    }

cut_byte : (t : Bool) (b : ℕ) (bytes : List ℕ) (p : Parts) → (b == 10) ≡ t → Cut bytes p.0 p.1
    → Cut (b ∷ bytes) (with_byte t b p).0 (with_byte t b p).1
cut_byte true b bytes p e cut =
    record {
      whole = rw (feed b e) (ap (λ t. 10 ∷ t) cut.whole);
      each = (tt, cut.each);
      last = cut.last;
    }
cut_byte false b bytes p e cut = cut_in_front b bytes p.0 p.1 (other b e) cut

cut_all : (bytes : List ℕ) → Cut bytes (parts_of bytes).0 (parts_of bytes).1
cut_all [] = record { whole = refl; each = tt; last = tt }
cut_all (b ∷ bytes) = cut_byte (b == 10) b bytes (parts_of bytes) refl (cut_all bytes)

pub some_lines : (script : List ℕ) → (lines : List (List ℕ)) × AreLines script lines
some_lines script =
    (all_of (parts_of script), ((parts_of script).0, (parts_of script).1, cut_all script, refl))
