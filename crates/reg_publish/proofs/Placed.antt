-- Files that are published one after the other, and questions.
use Rattle.std.proofs.Common.{◌≡◌, ℕ, List, [], ◌∷◌, ◌++◌, Result, Ok, Err, refl, ap, ◌∙◌, subst}
use Rattle.std.specs.Prelude.{OnOk}
use Rattle.reg_core.specs.View.{Published}
use Rattle.reg_site.specs.Sums.{SumLines, Files, entries_of, with_sums}
use Rattle.reg_site.specs.declared.sums.Sums.{Sums}
use Rattle.reg_publish.specs.Folder.{Places, PlacesSummed, PutsSummed}
use Rattle.reg_publish.specs.Publishing.{Publishes}
use Rattle.reg_source.specs.Source.{Asks}

module _ {F : Type 0} (Puts : F → F → List ℕ → List ℕ → Type 0) where
  -- one file was published
  pub places_one : (a b : F) (path bytes : List ℕ) → Puts a b path bytes
      → Places Puts a b ((path, bytes) ∷ [])
  places_one a b path bytes put = (b, put, refl)

  -- the same where it is done
  pub places_if : {T E : Type 0} (result : Result T E) (a b : F) (path bytes : List ℕ)
      → OnOk result (Puts a b path bytes) → OnOk result (Places Puts a b ((path, bytes) ∷ []))
  places_if (Ok x) a b path bytes put = (b, put, refl)
  places_if (Err e) a b path bytes put = tt

  -- some files, and then others
  pub places_both : (a b c : F) (xs ys : Files) → Places Puts a b xs → Places Puts b c ys
      → Places Puts a c (xs ++ ys)
  places_both a b c [] ys first second =
      let Then : F → Type 0 = λ f. Places Puts f c ys in subst Then first second
  places_both a b c (x ∷ xs) ys first second =
      (first.0, first.1, places_both first.0 b c xs ys first.2 second)

  -- the same files under another name
  pub places_as : (a b : F) (xs ys : Files) → xs ≡ ys → Places Puts a b xs → Places Puts a b ys
  places_as a b xs ys e h = let P : Files → Type 0 = λ zs. Places Puts a b zs in subst P e h

  -- the same from another state
  pub places_from : (a b c : F) (xs : Files) → a ≡ b → Places Puts a c xs → Places Puts b c xs
  places_from a b c xs e h = let P : F → Type 0 = λ f. Places Puts f c xs in subst P e h

  -- some files, and then others where it is done
  pub places_then : {T E : Type 0} (result : Result T E) (a b c : F) (xs ys zs : Files)
      → xs ++ ys ≡ zs → Places Puts a b xs → OnOk result (Places Puts b c ys)
      → OnOk result (Places Puts a c zs)
  places_then (Ok x) a b c xs ys zs is first second =
      places_as a c (xs ++ ys) zs is (places_both a b c xs ys first second)
  places_then (Err e) a b c xs ys zs is first second = tt

  -- files whose sums were added are files, and these are their sums
  pub places_summed : (a b : F × SumLines) (xs : Files) → Places (PutsSummed Puts) a b xs
      → Places Puts a.0 b.0 xs × (b.1 ≡ with_sums a.1 xs)
  places_summed a b [] same = (ap (λ (s : F × SumLines). s.0) same, ap (λ (s : F × SumLines). s.1) same)
  places_summed a b (x ∷ xs) h =
      let next : F × SumLines = h.0 in
      let rest = places_summed next b xs h.2 in
      ((next.0, h.1.0, rest.0), rest.1 ∙ ap (λ sums. with_sums sums xs) h.1.1)

module _ {F : Type 0} (Puts : F → F → List ℕ → List ℕ → Type 0) where
  -- no files
  pub summed_none : (f : F) (s : Sums) → PlacesSummed Puts f f s s []
  summed_none f s = record { placed = refl }

  -- some files with their sums, and then others
  pub summed_both : (f f' f'' : F) (s s' s'' : Sums) (xs ys : Files)
      → PlacesSummed Puts f f' s s' xs → PlacesSummed Puts f' f'' s' s'' ys
      → PlacesSummed Puts f f'' s s'' (xs ++ ys)
  summed_both f f' f'' s s' s'' xs ys first second = record {
    placed =
        places_both (PutsSummed Puts) (f, entries_of s) (f', entries_of s') (f'', entries_of s'') xs ys
        first.placed second.placed;
  }

  -- the same files under another name
  pub summed_as : (f f' : F) (s s' : Sums) (xs ys : Files) → xs ≡ ys
      → PlacesSummed Puts f f' s s' xs → PlacesSummed Puts f f' s s' ys
  summed_as f f' s s' xs ys is so =
      let P : Files → Type 0 = λ zs. PlacesSummed Puts f f' s s' zs in subst P is so

  -- the same where it is done
  pub summed_if : {T E : Type 0} (result : Result T E) (f f' : F) (s s' : Sums) (xs ys : Files)
      → xs ≡ ys → OnOk result (PlacesSummed Puts f f' s s' xs)
      → OnOk result (PlacesSummed Puts f f' s s' ys)
  summed_if (Ok x) f f' s s' xs ys is so = summed_as f f' s s' xs ys is so
  summed_if (Err e) f f' s s' xs ys is so = tt

-- ---- Questions

module _ {S : Type 0} (published : S → Published) (Holds : S → Type 0) where
  -- nothing was asked
  pub asks_none : (s : S) (Told : Published → Type 0) → ((p : Published) → Told p)
      → Asks published Holds s s Told
  asks_none s Told told = record {
    told = λ holds. told (published s);
    same = λ holds. refl;
    before = λ holds. holds;
  }

  -- a question of which less is told
  pub asks_as : (s s' : S) (Told Less : Published → Type 0) → Asks published Holds s s' Told
      → ((p : Published) → Told p → Less p) → Asks published Holds s s' Less
  asks_as s s' Told Less asked less = record {
    told = λ holds. less (published s) (asked.told holds);
    same = asked.same;
    before = asked.before;
  }

  -- a question, and then another
  pub asks_both : (s s' s'' : S) (Told More : Published → Type 0) → Asks published Holds s s' Told
      → Asks published Holds s' s'' More → Asks published Holds s s'' (λ p. Told p × More p)
  asks_both s s' s'' Told More first second = record {
    told = λ holds.
        let was = second.before holds in
        (first.told was, subst More (first.same was) (second.told holds));
    same = λ holds. second.same holds ∙ first.same (second.before holds);
    before = λ holds. first.before (second.before holds);
  }

-- ---- What was asked is published

module _ {S F : Type 0} (published : S → Published) (Holds : S → Type 0)
    (Puts : F → F → List ℕ → List ℕ → Type 0) where
  -- what is published of what was told
  pub publishes_told : (s s' : S) (f f' : F) (Told : Published → Type 0) (xs : Files)
      (P : Published → Files)
      → Asks published Holds s s' Told → ((p : Published) → Told p → xs ≡ P p)
      → Places Puts f f' xs → Publishes published Holds Puts s s' f f' P
  publishes_told s s' f f' Told xs P asked told put = record {
    whole = λ holds.
        places_as Puts f f' xs (P (published s)) (told (published s) (asked.told holds)) put;
    same = asked.same;
    before = asked.before;
  }
