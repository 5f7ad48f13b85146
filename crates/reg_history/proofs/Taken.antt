-- Facts that are taken, one after the other.
use Rattle.std.proofs.Common.{◌≡◌, ℕ, ◌+◌, ◌<◌, ◌≤◌, List, [], ◌∷◌, ◌++◌, length, map, take, get_or, refl, sym, ap, ◌∙◌, subst, append_assoc, append-nil}
use Rattle.std.proofs.lemmas.List.{take_all}
use Rattle.reg_history.specs.Recording.{Aim, ListsFacts, Took}
use Rattle.reg_changes.specs.declared.change.Fact.{Fact}
use Rattle.reg_history.proofs.Mapped.{mapped_more}

module _ {T : Type 0} (Awaits : Aim → T → List Fact → Type 0) where
  -- none
  pub took_none : (t : T) → Took Awaits t t []
  took_none t = record { goes_on = λ aim rest h. h }

  -- the same under another name
  pub took_as : (t t' : T) (xs ys : List Fact) → xs ≡ ys → Took Awaits t t' xs → Took Awaits t t' ys
  took_as t t' xs ys e took = let So : List Fact → Type 0 = λ zs. Took Awaits t t' zs in subst So e took

  -- some, and then others
  pub took_both : (t t' t'' : T) (xs ys : List Fact) → Took Awaits t t' xs → Took Awaits t' t'' ys
      → Took Awaits t t'' (xs ++ ys)
  took_both t t' t'' xs ys first second = record {
    goes_on = λ aim rest h.
        let So : List Fact → Type 0 = λ zs. Awaits aim t zs in
        second.goes_on aim rest
        (first.goes_on aim (ys ++ rest) (subst So (append_assoc xs ys rest) h));
  }

  -- what is made of one item more
  pub took_more : {X : Type 0} (f : X → Fact) (t t' t'' : T) (xs : List X) (i : ℕ) (x : X) (fact : Fact)
      → i < length xs → x ≡ get_or xs i x → fact ≡ f x → Took Awaits t t' (map f (take i xs))
      → Took Awaits t' t'' (fact ∷ []) → Took Awaits t t'' (map f (take (i + 1) xs))
  took_more f t t' t'' xs i x fact h is made first second =
      let so = map f (take i xs) in
      took_as t t'' (so ++ fact ∷ []) (map f (take (i + 1) xs))
      (ap (λ y. so ++ y ∷ []) made
      ∙ mapped_more f [] so (so ++ f x ∷ []) xs i x h is refl refl)
      (took_both t t' t'' so (fact ∷ []) first second)

  -- what is made of all items
  pub took_all : {X : Type 0} (f : X → Fact) (t t' : T) (xs : List X) (i : ℕ) → length xs ≤ i
      → Took Awaits t t' (map f (take i xs)) → Took Awaits t t' (map f xs)
  took_all f t t' xs i long took =
      took_as t t' (map f (take i xs)) (map f xs) (ap (map f) (take_all i xs long)) took

-- what a list took is behind it
pub listed : {V : Type 0} (items : V → List Fact) (v v' : V) (facts : List Fact)
    → Took (λ aim v rest. ListsFacts aim (items v) rest) v v' facts → items v' ≡ items v ++ facts
listed items v v' facts took =
    let aim : Aim = record { records = []; moment = 0; facts = items v ++ facts } in
    sym (append-nil (items v'))
    ∙ took.goes_on aim [] (ap (λ t. items v ++ t) (append-nil facts))
