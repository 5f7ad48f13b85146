-- The record that an index names.
use Rattle.std.proofs.Common.{◌≡◌, ◌↔◌, ◌⊎◌, inl, inr, ℕ, ◌+◌, ◌-◌, ◌<◌, ◌≤◌, ◌==◌, List, [], ◌∷◌, ◌++◌, Option, Some, None, codes, drop, length, take, option_map, refl, sym, ap, ◌∙◌, subst}
use Rattle.std.specs.Option.{option_and_then, option_or}
use Rattle.std.specs.Prelude.{position}
use Rattle.std.proofs.lemmas.List.{drop_all, drop_more, take_rest, take-append-drop}
use Rattle.std.proofs.lemmas.Option.{none-some, option_and_then_some, some_pair_parts}
use Rattle.reg_print.specs.Comparing.{behind, until}
use Rattle.reg_print.proofs.Fronts.{behind_is}
use Rattle.reg_ranges.specs.Numbers.{read_number}
use Rattle.reg_publish.specs.Earlier.{HasRecord, IsTied, NamesRecord, behind_first, digest_in, named_by, named_record}

-- ---- What is found in a text

map_some : {X Y : Type 0} (f : X → Y) (o : Option X) (y : Y) → option_map f o ≡ Some y
    → (x : X) × (o ≡ Some x) × (f x ≡ y)
map_some f None y e = absurd (let no : ⊥ = cc in no)
map_some f (Some x) y e = (x, refl, cc)

or_some : {X : Type 0} (o p : Option X) (x : X) → option_or o p ≡ Some x → (o ≡ Some x) ⊎ (p ≡ Some x)
or_some None p x e = inr e
or_some (Some y) p x e = inl e

behind_first_is : (front text rest : List ℕ) → behind_first front text ≡ Some rest
    → (before : List ℕ) × (text ≡ before ++ (front ++ rest))
behind_first_is front [] rest e = absurd (let no : ⊥ = cc in no)
behind_first_is front (b ∷ text) rest e =
    elim (or_some (behind front (b ∷ text)) (behind_first front text) rest e) [
      | inl here ↦ ([], behind_is front (b ∷ text) rest here)
      | inr later ↦
          let found = behind_first_is front text rest later in
          (b ∷ found.0, ap (λ t. b ∷ t) found.1)
    ]

until_is : (byte : ℕ) (text : List ℕ) (parts : List ℕ × List ℕ) → until byte text ≡ Some parts
    → text ≡ parts.0 ++ parts.1
until_is byte text parts e =
    let found = map_some (λ n. (take n text, drop n text)) (position (λ b. b == byte) text) parts e in
    sym (take-append-drop found.0 text) ∙ ap (λ (p : List ℕ × List ℕ). p.0 ++ p.1) found.2

-- ---- From a place on

-- what stands at a place, as a slice
pub at_place : (front text : List ℕ) (place : ℕ) (o : Option (List ℕ))
    → o ≡ behind front (take (length text - place) (drop place text))
    → behind front (drop place text) ≡ o
at_place front text place o e = ap (behind front) (sym (take_rest text place)) ∙ sym e

-- it is not at this place
pub first_more : (front text : List ℕ) (place : ℕ) → place < length text
    → behind front (drop place text) ≡ None
    → behind_first front (drop (place + 1) text) ≡ behind_first front (drop place text)
first_more front text place h none =
    let e = drop_more text place 0 h in
    let rest = behind_first front (drop (place + 1) text) in
    sym
    (ap (behind_first front) e
    ∙ ap (λ o. option_or o rest) (ap (behind front) (sym e) ∙ none))

-- it is at this place
pub first_here : (front text rest : List ℕ) (place : ℕ) → place < length text
    → behind front (drop place text) ≡ Some rest
    → behind_first front (drop place text) ≡ Some rest
first_here front text rest place h found =
    let e = drop_more text place 0 h in
    ap (behind_first front) e
    ∙ ap (λ o. option_or o (behind_first front (drop (place + 1) text)))
    (ap (behind front) (sym e) ∙ found)

-- it is at no place
pub first_nowhere : (front text : List ℕ) (place : ℕ) → length text ≤ place
    → behind_first front (drop place text) ≡ None
first_nowhere front text place h = ap (behind_first front) (drop_all place text h)

-- ---- The record

-- a digest, and what stands behind it
digest_is : (text digest : List ℕ) → digest_in text ≡ Some digest
    → (after : List ℕ) × (text ≡ digest ++ (codes "\",\"registers\":[" ++ after))
digest_is text digest e =
    option_and_then_some
    (λ (parts : List ℕ × List ℕ).
    option_map (λ _. parts.0) (behind (codes "\",\"registers\":[") parts.1))
    (until 34 text) digest e
    (λ parts a b.
    let found = map_some (λ (x : List ℕ). parts.0) (behind (codes "\",\"registers\":[") parts.1) digest b in (
      found.0,
      until_is 34 text parts a
          ∙ (λ i. found.2 i
          ++ behind_is (codes "\",\"registers\":[") parts.1 found.0 found.1 i),
    ))

-- what is named stands there
pub names_record : (text : List ℕ) (number : ℕ) (digest : List ℕ)
    → named_record text ≡ Some (number, digest) → NamesRecord text number digest
names_record text number digest e =
    let mark = codes "\"changes\":" in
    let between = codes ",\"digest\":\"" in
    option_and_then_some named_by
    (option_and_then (until 44) (behind_first mark text)) (number, digest) e
    (λ parts a b.
    option_and_then_some (until 44) (behind_first mark text) parts a
    (λ found c d.
    option_and_then_some
    (λ (n : ℕ). option_map (λ (x : List ℕ). (n, x)) (option_and_then digest_in (behind between parts.1)))
    (read_number parts.0) (number, digest) b
    (λ n read f.
    let named = map_some (λ (x : List ℕ). (n, x)) (option_and_then digest_in (behind between parts.1))
    (number, digest) f in
    option_and_then_some digest_in (behind between parts.1) named.0 named.1
    (λ rest g h.
    let first = behind_first_is mark text found c in
    let last = digest_is rest named.0 h in
    record {
      before = first.0;
      digits = parts.0;
      after = last.0;
      whole =
          first.1
          ∙ ap (λ t. first.0 ++ (mark ++ t))
          (until_is 44 found parts d
          ∙ ap (λ t. parts.0 ++ t)
          (behind_is between parts.1 rest g
          ∙ ap (λ t. between ++ t)
          (last.1
          ∙ ap (λ (p : ℕ × List ℕ). p.1 ++ (codes "\",\"registers\":[" ++ last.0)) named.2)));
      read = read ∙ ap (λ (p : ℕ × List ℕ). Some p.0) named.2;
      first = e;
    }))))

-- an index that names this record is tied to a history just where that has it
pub tied_by : (text : List ℕ) (digests : List (List ℕ)) (number : ℕ) (digest : List ℕ)
    → Some (number, digest) ≡ named_record text
    → HasRecord digests number digest ↔ IsTied (Some text) digests
tied_by text digests number digest e = (
  λ has. (number, digest, names_record text number digest (sym e), has),
  λ tied.
      let same = some_pair_parts tied.0 number tied.1 digest (sym tied.2.first ∙ sym e) in
      subst (λ (d : List ℕ). HasRecord digests number d) same.1
      (subst (λ (n : ℕ). HasRecord digests n tied.1) same.0 tied.3),
)

-- one that names none is tied to no history
pub untied_by : (text : List ℕ) (digests : List (List ℕ)) → None ≡ named_record text
    → IsTied (Some text) digests → ⊥
untied_by text digests e tied = none-some (tied.0, tied.1) (e ∙ tied.2.first)
