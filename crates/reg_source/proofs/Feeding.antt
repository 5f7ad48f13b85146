-- A hasher that is fed with what is taken.
use Rattle.std.proofs.Common.{◌≡◌, ℕ, Bool, List, [], ◌++◌, refl, sym, ap, ◌∙◌, append_assoc, append-nil, subst, true, false}
use Rattle.sha2.specs.Hashers.{Holds256}
use Rattle.sha2.specs.declared.Sha256.{Sha256}
use Rattle.reg_pages.specs.Portions.{GivesIfMore}
use Rattle.reg_source.specs.Hashed.{FeedsHasher, FeedsTaken}

-- nothing was taken yet
pub taken_none : (hasher : Sha256) (rest : List ℕ) → FeedsTaken hasher hasher rest rest
taken_none hasher rest = record {
  taken = [];
  split = refl;
  fed = λ fed holds. subst (Holds256 hasher) (sym (append-nil fed)) holds;
}

-- and then more
pub taken_more : (old mid new : Sha256) (rest rest' rest'' : List ℕ) → FeedsTaken old mid rest rest'
    → FeedsTaken mid new rest' rest'' → FeedsTaken old new rest rest''
taken_more old mid new rest rest' rest'' first then = record {
  taken = first.taken ++ then.taken;
  split =
      first.split ∙ ap (λ l. first.taken ++ l) then.split
      ∙ sym (append_assoc first.taken then.taken rest'');
  fed = λ fed holds.
      subst (Holds256 new) (append_assoc fed first.taken then.taken)
      (then.fed (fed ++ first.taken) (first.fed fed holds));
}

-- all were taken
pub taken_all : (old new : Sha256) (rest rest' : List ℕ) → FeedsTaken old new rest rest' → rest' ≡ []
    → FeedsHasher old new rest
taken_all old new rest rest' taken none =
    subst (FeedsHasher old new)
    (sym (taken.split ∙ ap (λ l. taken.taken ++ l) none ∙ append-nil taken.taken)) taken.fed

-- some were taken, and then all others
pub taken_then : (old mid new : Sha256) (rest rest' : List ℕ) → FeedsTaken old mid rest rest'
    → FeedsHasher mid new rest' → FeedsHasher old new rest
taken_then old mid new rest rest' first others =
    taken_all old new rest []
    (taken_more old mid new rest rest' [] first
    (record { taken = rest'; split = sym (append-nil rest'); fed = others }))
    refl

-- what was gathered was taken
pub taken_gathered : (more : Bool) (old new : Sha256) (items rest rest' : List ℕ)
    → GivesIfMore more [] items rest rest' → FeedsHasher old new items
    → FeedsTaken old new rest rest'
taken_gathered true old new items rest rest' gives fed =
    record { taken = items; split = sym gives.whole; fed = fed }
taken_gathered false old new items rest rest' gives fed = record {
  taken = items;
  split = gives.none ∙ sym (ap (λ l. l ++ rest') gives.same ∙ gives.still);
  fed = fed;
}
