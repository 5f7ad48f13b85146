-- Texts that are read from the front on.
use Rattle.std.proofs.Common.{◌≡◌, ℕ, suc, ◌+◌, ◌==◌, Bool, true, false, cond, not, nat_lt, List, [], ◌∷◌, ◌++◌, Option, Some, None, drop, length, take, option_map, refl, sym, ap, ◌∙◌, append_assoc, arith}
use Rattle.std.specs.Option.{option_copied}
use Rattle.std.specs.List.{list_all, position_or_len}
use Rattle.std.specs.Prelude.{MatchOption, bytes_eq, position}
use Rattle.std.proofs.Math.Seq.{take-append_seam, drop-append_seam}
use Rattle.std.proofs.lemmas.Bool.{and_parts, eq-eqb, lt-ltb, not-true}
use Rattle.std.proofs.lemmas.List.{append_cancel_left, length-append, take-append-drop}
use Rattle.std.proofs.lemmas.Option.{cond_some}
use Rattle.std.proofs.lemmas.Slice.Eq.{bytes_eq-Decides}
use denote.Ref.{Bor}
use Rattle.reg_print.specs.Comparing.{Leaves, behind, until}

-- ---- Behind a front

-- what stands behind a front makes the text with it
pub behind_is : (front text rest : List ℕ) → behind front text ≡ Some rest → text ≡ front ++ rest
behind_is front text rest e =
    let n = length front in
    let found = cond_some (bytes_eq (take n text) front) (drop n text) rest e in
    sym (take-append-drop n text)
    ∙ (λ i. (bytes_eq-Decides (take n text) front).0 found.0 i ++ found.1 i)

-- what `strip_prefix` says
pub behind_by : (front text : List ℕ) (r : Option (Bor (List ℕ)))
    → MatchOption r (bytes_eq (take (length front) text) front ≡ false)
    (λ x. (bytes_eq (take (length front) text) front ≡ true) × (x.now ≡ drop (length front) text)
    × (length x.now + length front ≡ length text))
    → option_copied r ≡ behind front text
behind_by front text None m =
    ap (λ b. cond b (Some (drop (length front) text)) None) (sym m)
behind_by front text (Some x) m =
    ap Some m.1 ∙ ap (λ b. cond b (Some (drop (length front) text)) None) (sym m.0)

-- what stands behind a front is found
pub front_found : (front text more : List ℕ) (r : Option (Bor (List ℕ))) → Leaves front text r
    → text ≡ front ++ more → option_copied r ≡ Some more
front_found front text more None none is = absurd (none more is)
front_found front text more (Some x) here is =
    ap Some (append_cancel_left front x.now more (sym here ∙ is))

-- a text that begins with no front begins with nothing longer
pub leaves_none : (a b text : List ℕ) → Leaves a text None → Leaves (a ++ b) text None
leaves_none a b text h = λ rest e. h (b ++ rest) (e ∙ append_assoc a b rest)

-- what is left of what is left
pub leaves_more : (a b text : List ℕ) (x : Bor (List ℕ)) (left : Option (Bor (List ℕ)))
    → Leaves a text (Some x) → Leaves b x.now left → Leaves (a ++ b) text left
leaves_more a b text x None h more =
    λ rest e. more rest
    (append_cancel_left a x.now (b ++ rest) (sym h ∙ e ∙ append_assoc a b rest))
leaves_more a b text x (Some y) h more =
    h ∙ ap (λ t. a ++ t) more ∙ sym (append_assoc a b y.now)

-- ---- Both parts at a byte

-- both parts make the text
pub parts_of : (text front rest : List ℕ) (end : ℕ) → front ≡ take end text → rest ≡ drop end text
    → text ≡ front ++ rest
parts_of text front rest end a b = sym ((λ i. a i ++ b i) ∙ take-append-drop end text)

-- the byte is not there
pub until_none : (byte : ℕ) (text : List ℕ) → position (λ b. b == byte) text ≡ None
    → None ≡ until byte text
until_none byte text e = ap (option_map (λ n. (take n text, drop n text))) (sym e)

-- it is at this place
pub until_some : (byte : ℕ) (text front rest : List ℕ) (end : ℕ)
    → position (λ b. b == byte) text ≡ Some end → front ≡ take end text → rest ≡ drop end text
    → Some (front, rest) ≡ until byte text
until_some byte text front rest end e a b =
    (λ i. Some (a i, b i)) ∙ ap (option_map (λ n. (take n text, drop n text))) (sym e)

-- a byte that is behind others is at the first place where it can be
first_place : (byte : ℕ) (front more : List ℕ) → list_all (λ b. not (b == byte)) front ≡ true
    → position_or_len (λ b. b == byte) (front ++ byte ∷ more) ≡ length front
first_place byte [] more others =
    let here : (byte == byte) ≡ true = eq-eqb byte byte refl in rw here refl
first_place byte (b ∷ front) more others =
    let parts = and_parts (not (b == byte)) (list_all (λ b. not (b == byte)) front) others in
    let other : (b == byte) ≡ false = not-true (b == byte) parts.0 in
    rw other (omega (arith, first_place byte front more parts.1))

-- so the text is parted there
pub until_found : (byte : ℕ) (front more : List ℕ)
    → list_all (λ b. not (b == byte)) front ≡ true
    → until byte (front ++ byte ∷ more) ≡ Some (front, byte ∷ more)
until_found byte front more others =
    let text = front ++ byte ∷ more in
    let place = first_place byte front more others in
    let inside : nat_lt (length front) (length text) ≡ true =
    lt-ltb (length front) (length text) (omega (arith, length-append front (byte ∷ more))) in
    rw (place, inside) (λ i. Some (take-append_seam front (byte ∷ more) i, drop-append_seam front (byte ∷ more) i))
