-- Pieces that are appended one after the other.
use Rattle.std.proofs.Common.{◌≡◌, ℕ, ◌+◌, ◌<◌, ◌≤◌, List, [], ◌∷◌, ◌++◌, length, get_or, drop, refl, sym, ap, ◌∙◌, append-nil, add-one, drop-cons, arith}
use Rattle.std.proofs.lemmas.Grind.{common_steps, flat_map-append}
use Rattle.std.proofs.lemmas.List.{append_assoc, drop_all}
use Rattle.reg_pages.specs.Appended.{Appended, Shown}
use Rattle.reg_pages.specs.Escape.{escaped, escaped_byte}
use Rattle.reg_pages.specs.Markup.{Markup, nothing, beside, markup_then}
use Rattle.reg_pages.specs.Pieces.{framed_then}

-- some bytes alone
pub bytes : (old new piece : List ℕ) → new ≡ old ++ piece → Appended old new (λ rest. piece ++ rest)
bytes old new piece h = record {
  all = λ rest. ap (λ front. front ++ rest) h ∙ append_assoc old piece rest;
}

-- one piece, and then another
pub joined : {x y z : List ℕ} {f g : List ℕ → List ℕ} → Appended x y f → Appended y z g
    → Appended x z (λ rest. f (g rest))
joined {g = g} first second = record { all = λ rest. second.all rest ∙ first.all (g rest) }

-- markup by its bytes
pub shown : {x y : List ℕ} {m : Markup} → Appended x y (markup_then m) → Shown x y m
shown h = record { bytes = h }

-- the same where its bytes are told in another way
pub shown_as : {x y : List ℕ} {f : List ℕ → List ℕ} (m : Markup)
    → ((rest : List ℕ) → markup_then m rest ≡ f rest) → Appended x y f → Shown x y m
shown_as {x} m is h = shown (record { all = λ rest. h.all rest ∙ ap (λ bytes. x ++ bytes) (sym (is rest)) })

-- what stands for two texts, one after the other
pub escaped_both : (a b rest : List ℕ) → escaped (a ++ b) ++ rest ≡ escaped a ++ (escaped b ++ rest)
escaped_both a b rest =
    ap (λ bytes. bytes ++ rest) (flat_map-append escaped_byte a b)
    ∙ append_assoc (escaped a) (escaped b) rest

-- a text with markup before it and behind it, where this is how it is shown
pub framed : (before behind : List ℕ) {x y : List ℕ} (text : List ℕ) (shape : List ℕ → Markup)
    → ((rest : List ℕ) → markup_then (shape []) rest ≡ rest)
    → ((b : ℕ) (more rest : List ℕ)
    → markup_then (shape (b ∷ more)) rest ≡ before ++ (escaped (b ∷ more) ++ (behind ++ rest)))
    → Appended x y (framed_then before text behind) → Shown x y (shape text)
framed before behind [] shape none some h = shown_as (shape []) none h
framed before behind (b ∷ more) shape none some h = shown_as (shape (b ∷ more)) (some b more) h

-- all that was appended to nothing
pub whole : (old : List ℕ) {new : List ℕ} {f : List ℕ → List ℕ} → old ≡ [] → Appended old new f
    → new ≡ f []
whole old {new = new} {f = f} none h =
    sym (append-nil new) ∙ h.all [] ∙ ap (λ front. front ++ f []) none

-- ---- One piece for each item of a list

-- with what is left to be appended it is all
pub record Leads (old new : List ℕ) (left all : List ℕ → List ℕ) : Type 0 where
  pub same : (rest : List ℕ) → new ++ left rest ≡ old ++ all rest

pub begins : (old : List ℕ) (all : List ℕ → List ℕ) → Leads old old all all
begins old all = record { same = λ rest. refl }

-- the bytes of the items from a place on
abbrev pub bytes_from : {X : Type 0} → (List X → List ℕ → List ℕ) → List X → ℕ → List ℕ → List ℕ
bytes_from pieces xs i rest = pieces (drop i xs) rest

-- the item at that place is appended, and others are told in a way that may depend on it
pub bytes_go_to : {X : Type 0} (pieces others : List X → List ℕ → List ℕ)
    (piece : List ℕ → List ℕ) (xs : List X) (i : ℕ) (x : X)
    → ((rest : List ℕ) → pieces (x ∷ drop (i + 1) xs) rest ≡ piece (others (drop (i + 1) xs) rest))
    → i < length xs → x ≡ get_or xs i x
    → {old y z : List ℕ} {all : List ℕ → List ℕ}
    → Leads old y (bytes_from pieces xs i) all → Appended y z piece
    → Leads old z (bytes_from others xs (i + 1)) all
bytes_go_to pieces others piece xs i x step h is {y = y} first second =
    let here : drop i xs ≡ get_or xs i x ∷ drop (i + 1) xs = rw add-one (drop-cons xs i x h) in
    let at : drop i xs ≡ x ∷ drop (i + 1) xs =
    here ∙ ap (λ head. head ∷ drop (i + 1) xs) (sym is) in
    record {
      same = λ rest.
          second.all (bytes_from others xs (i + 1) rest)
          ∙ ap (λ bytes. y ++ bytes)
          (sym (ap (λ left. pieces left rest) at ∙ step rest))
          ∙ first.same rest;
    }

-- the same where they are told alike
pub bytes_go_on : {X : Type 0} (pieces : List X → List ℕ → List ℕ)
    (piece : X → List ℕ → List ℕ)
    → ((x : X) (xs : List X) (rest : List ℕ) → pieces (x ∷ xs) rest ≡ piece x (pieces xs rest))
    → (xs : List X) (i : ℕ) (x : X) → i < length xs → x ≡ get_or xs i x
    → {old y z : List ℕ} {all : List ℕ → List ℕ}
    → Leads old y (bytes_from pieces xs i) all → Appended y z (piece x)
    → Leads old z (bytes_from pieces xs (i + 1)) all
bytes_go_on pieces piece step xs i x h is first second =
    bytes_go_to pieces pieces (piece x) xs i x (step x (drop (i + 1) xs)) h is first second

-- the same of an item that is told by what stands where there is none
pub bytes_go_on_at : {X : Type 0} (pieces : List X → List ℕ → List ℕ)
    (piece : X → List ℕ → List ℕ)
    → ((x : X) (xs : List X) (rest : List ℕ) → pieces (x ∷ xs) rest ≡ piece x (pieces xs rest))
    → (xs : List X) (i : ℕ) (d : X) → i < length xs
    → {old y z : List ℕ} {all : List ℕ → List ℕ}
    → Leads old y (bytes_from pieces xs i) all → Appended y z (piece (get_or xs i d))
    → Leads old z (bytes_from pieces xs (i + 1)) all
bytes_go_on_at pieces piece step xs i d h first second =
    bytes_go_on pieces piece step xs i (get_or xs i d) h (grind (arith, common_steps)) first second

-- no item is left
pub bytes_end : {X : Type 0} (pieces : List X → List ℕ → List ℕ)
    → ((rest : List ℕ) → pieces [] rest ≡ rest) → (xs : List X) (i : ℕ) → length xs ≤ i
    → {old y : List ℕ} {all : List ℕ → List ℕ} → Leads old y (bytes_from pieces xs i) all
    → Appended old y all
bytes_end pieces none xs i h {y = y} last = record {
  all = λ rest.
      ap (λ bytes. y ++ bytes) (sym (ap (λ left. pieces left rest) (drop_all i xs h) ∙ none rest))
      ∙ last.same rest;
}

-- the markup of the items from a place on
abbrev pub from_place : {X : Type 0} → (List X → Markup) → List X → ℕ → List ℕ → List ℕ
from_place pieces xs i rest = bytes_from (λ ys. markup_then (pieces ys)) xs i rest

-- the same of an item that is shown
pub goes_on : {X : Type 0} (pieces : List X → Markup) (piece : X → Markup)
    → ((x : X) (xs : List X) → pieces (x ∷ xs) ≡ beside (piece x) (pieces xs))
    → (xs : List X) (i : ℕ) (x : X) → i < length xs → x ≡ get_or xs i x
    → {old y z : List ℕ} {all : List ℕ → List ℕ}
    → Leads old y (from_place pieces xs i) all → Shown y z (piece x)
    → Leads old z (from_place pieces xs (i + 1)) all
goes_on pieces piece step xs i x h is first second =
    bytes_go_on (λ ys. markup_then (pieces ys)) (λ y. markup_then (piece y))
    (λ y ys rest. ap (λ m. markup_then m rest) (step y ys)) xs i x h is first second.bytes

-- the same of an item that is told by what stands where there is none
pub goes_on_at : {X : Type 0} (pieces : List X → Markup) (piece : X → Markup)
    → ((x : X) (xs : List X) → pieces (x ∷ xs) ≡ beside (piece x) (pieces xs))
    → (xs : List X) (i : ℕ) (d : X) → i < length xs → {old y z : List ℕ} {all : List ℕ → List ℕ}
    → Leads old y (from_place pieces xs i) all
    → Shown y z (piece (get_or xs i d))
    → Leads old z (from_place pieces xs (i + 1)) all
goes_on_at pieces piece step xs i d h first second =
    bytes_go_on_at (λ ys. markup_then (pieces ys)) (λ y. markup_then (piece y))
    (λ y ys rest. ap (λ m. markup_then m rest) (step y ys)) xs i d h first second.bytes

-- the same of items each of which decides how those behind it are shown
pub goes_to : {X S : Type 0} (pieces : S → List X → Markup) (piece : S → X → Markup) (next : X → S)
    → ((s : S) (x : X) (xs : List X) → pieces s (x ∷ xs) ≡ beside (piece s x) (pieces (next x) xs))
    → (s : S) (xs : List X) (i : ℕ) (d : X) → i < length xs
    → {old y z : List ℕ} {all : List ℕ → List ℕ}
    → Leads old y (from_place (pieces s) xs i) all → Shown y z (piece s (get_or xs i d))
    → Leads old z (from_place (pieces (next (get_or xs i d))) xs (i + 1)) all
goes_to pieces piece next step s xs i d h first second =
    let x = get_or xs i d in
    bytes_go_to (λ ys. markup_then (pieces s ys)) (λ ys. markup_then (pieces (next x) ys))
    (markup_then (piece s x)) xs i x
    (λ rest. ap (λ m. markup_then m rest) (step s x (drop (i + 1) xs))) h (grind (arith, common_steps))
    first second.bytes

-- no item is left
pub ends : {X : Type 0} (pieces : List X → Markup) → pieces [] ≡ nothing
    → (xs : List X) (i : ℕ) → length xs ≤ i → {old y : List ℕ} {m : Markup}
    → Leads old y (from_place pieces xs i) (markup_then m) → Shown old y m
ends pieces none xs i h last =
    shown
    (bytes_end (λ ys. markup_then (pieces ys)) (λ rest. ap (λ m. markup_then m rest) none) xs i h last)
