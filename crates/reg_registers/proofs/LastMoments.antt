-- The last moment of some acts, as one more act comes.
use Rattle.std.proofs.Common.{◌≡◌, ℕ, suc, ◌<◌, Bool, true, false, List, [], ◌∷◌, ◌++◌, get_or, length, reverse, take, Option, refl, sym, ap, ◌∙◌}
use Rattle.std.specs.Prelude.{if◌then◌else◌}
use Rattle.std.proofs.Math.Seq.{take-suc}
use Rattle.std.proofs.lemmas.List.{reverse-append}
use Rattle.reg_core.specs.Times.{last_moment}
use Rattle.reg_core.specs.declared.journal.Act.{Act}
use Rattle.reg_core.specs.declared.journal.Deed.{Deed}

module _ (test : Deed → Bool) where
  one_more : (acts : List Act) (act : Act)
      → last_moment test (reverse (acts ++ act ∷ []))
      ≡ last_moment test (act ∷ reverse acts)
  one_more acts act = ap (last_moment test) (reverse-append acts (act ∷ []))

  by_it : (act : Act) (acts : List Act) → test act.deed ≡ true
      → last_moment test (act ∷ acts) ≡ act.stamp.moment
  by_it act acts is = rw is refl

  not_by_it : (act : Act) (acts : List Act) → test act.deed ≡ false
      → last_moment test (act ∷ acts) ≡ last_moment test acts
  not_by_it act acts is = rw is refl

  pub next_is_it : (acts : List Act) (i : ℕ) (act : Act) → i < length acts → act ≡ get_or acts i act
      → test act.deed ≡ true
      → last_moment test (reverse (take (suc i) acts)) ≡ act.stamp.moment
  next_is_it acts i act within is by =
      ap (λ some. last_moment test (reverse some))
      (take-suc acts i act within ∙ ap (λ a. take i acts ++ a ∷ []) (sym is))
      ∙ one_more (take i acts) act ∙ by_it act (reverse (take i acts)) by

  pub next_is_not : (acts : List Act) (i : ℕ) (act : Act) → i < length acts → act ≡ get_or acts i act
      → test act.deed ≡ false
      → last_moment test (reverse (take (suc i) acts)) ≡ last_moment test (reverse (take i acts))
  next_is_not acts i act within is by =
      ap (λ some. last_moment test (reverse some))
      (take-suc acts i act within ∙ ap (λ a. take i acts ++ a ∷ []) (sym is))
      ∙ one_more (take i acts) act ∙ not_by_it act (reverse (take i acts)) by
