-- What was done to a disk, one step after the other.
use Rattle.std.proofs.Common.{◌≡◌, ℕ, List, [], ◌∷◌, ◌++◌, inl, inr, refl, sym, ap, ◌∙◌, append_assoc, append-nil}
use Rattle.reg_source.specs.Disk.{DiskStep, Removed, Kept, Renamed, NamesKept, FileNames, begins, takes_place, replaces, IsBeside, AreBeside, StaysBeside, IsStopped, IsLeft}

-- ---- Beside a place

-- nothing was done
pub stays : (beside : List ℕ) (old : List DiskStep) → StaysBeside beside old old
stays beside old = record { steps = []; done = sym (append-nil old); beside_alone = tt }

-- steps so far, and one more
beside_more : (beside : List ℕ) (steps : List DiskStep) (step : DiskStep)
    → AreBeside beside steps → IsBeside beside step → AreBeside beside (steps ++ step ∷ [])
beside_more beside [] step are is = (is, tt)
beside_more beside (first ∷ rest) step are is =
    (are.0, beside_more beside rest step are.1 is)

pub stays_more : (beside : List ℕ) (old mid new : List DiskStep) (step : DiskStep)
    → StaysBeside beside old mid → IsBeside beside step → new ≡ mid ++ step ∷ []
    → StaysBeside beside old new
stays_more beside old mid new step so is e = record {
  steps = so.steps ++ step ∷ [];
  done = e ∙ ap (λ l. l ++ step ∷ []) so.done ∙ append_assoc old so.steps (step ∷ []);
  beside_alone = beside_more beside so.steps step so.beside_alone is;
}

-- a new file was made
pub stays_begun : (names : FileNames) (old new : List DiskStep) → new ≡ old ++ begins names
    → StaysBeside names.beside old new
stays_begun names old new e =
    record { steps = begins names; done = e; beside_alone = (refl, (refl, tt)) }

-- ---- A place that is taken

module _ (names : FileNames) (bytes : List ℕ) where
  -- it was begun and kept
  pub kept_beside : (name written : List ℕ) (old mid new : List DiskStep)
      → mid ≡ old ++ begins names → name ≡ names.beside
      → new ≡ mid ++ Kept name written ∷ [] → StaysBeside names.beside old new
  kept_beside name written old mid new begun is e =
      stays_more names.beside old mid new (Kept name written) (stays_begun names old mid begun) is e

  -- begun, kept and renamed
  pub takes : (name written : List ℕ) (old mid kept new : List DiskStep)
      → mid ≡ old ++ begins names → name ≡ names.beside → written ≡ bytes
      → kept ≡ mid ++ Kept name written ∷ []
      → new ≡ kept ++ Renamed names.beside names.place ∷ [] → new ≡ old ++ takes_place names bytes
  takes name written old mid kept new begun is whole keeps renames =
      renames
      ∙ ap (λ l. l ++ Renamed names.beside names.place ∷ [])
      (keeps ∙ (λ i. begun i ++ Kept (is i) (whole i) ∷ [])
      ∙ append_assoc old (begins names) (Kept names.beside bytes ∷ []))
      ∙ append_assoc old (begins names ++ Kept names.beside bytes ∷ [])
      (Renamed names.beside names.place ∷ [])

  -- and its folder was synchronised
  pub replaced : (old taken new : List DiskStep) → taken ≡ old ++ takes_place names bytes
      → new ≡ taken ++ NamesKept names.folder ∷ [] → new ≡ old ++ replaces names bytes
  replaced old taken new took e =
      e ∙ ap (λ l. l ++ NamesKept names.folder ∷ []) took
      ∙ append_assoc old (takes_place names bytes) (NamesKept names.folder ∷ [])

  -- what is beside it was removed after it stopped
  pub removed_after : (old mid new : List DiskStep) → IsStopped names bytes old mid
      → new ≡ mid ++ Removed names.beside ∷ [] → IsLeft names bytes old new
  removed_after old mid new (inl so) e =
      inl (stays_more names.beside old mid new (Removed names.beside) so refl e)
  removed_after old mid new (inr took) e =
      inr (e ∙ ap (λ l. l ++ Removed names.beside ∷ []) took
      ∙ append_assoc old (takes_place names bytes) (Removed names.beside ∷ []))
