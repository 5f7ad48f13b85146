-- Why histories do not say just what is published, and where a digest is.
use Rattle.std.proofs.Common.{◌≡◌, ℕ, ◌<◌, List, [], ◌∷◌, length, get_or, sym, ap, ◌∙◌, inl, inr}
use Rattle.std.specs.Prelude.{Option, Some, slice_get, unwrap_or}
use Rattle.reg_history.specs.Chain.{says}
use Rattle.reg_changes.specs.declared.change.HistoryRecord.{HistoryRecord}
use Rattle.reg_history.specs.History.{IsHistory}
use Rattle.reg_changes.specs.Replay.{Said, changes_to, subject_of}
use Rattle.reg_changes.specs.Said.{TellsLoss, said_by}
use Rattle.reg_history.specs.Unlike.{TellsUnlike, unlike_of}
use Rattle.reg_changes.specs.declared.change.PublishedChange.{PublishedChange}
use Rattle.reg_changes.specs.declared.change.Fact.{Fact}
use Rattle.reg_changes.specs.declared.change.Subject.{Subject}
use Rattle.reg_history.specs.declared.history.History.{History}
use Rattle.reg_history.specs.declared.history.Unlike.TheVariants.{Subject as Of}
use Rattle.reg_changes.specs.declared.said.Unrecorded.{Unrecorded}
use Rattle.reg_changes.specs.declared.said.Unrecorded.TheVariants as unrecorded
use Rattle.reg_history.proofs.Histories.{digest-at, tells_of_records}

-- a loss is what makes a history unlike what is published
pub unlike_by_loss : (h : History) (records : List HistoryRecord) (facts : List Fact) (why : Unrecorded)
    → IsHistory h records → TellsLoss (said_by h.said) facts why
    → TellsUnlike (says records) facts (unlike_of why)
unlike_by_loss h records facts unrecorded.Memory is told = tt
unlike_by_loss h records facts (unrecorded.Lost subject) is told =
    inl (tells_of_records h records facts (unrecorded.Lost subject) is told)

first_of : {X : Type 0} (xs : List X) (x : X) → Some x ≡ slice_get xs 0
    → (others : List X) × (xs ≡ x ∷ others)
first_of [] x e = cc e
first_of {X} (y ∷ ys) x e = (ys, ap (λ (o : Option X). unwrap_or o x ∷ ys) (sym e))

-- so is the first that would be recorded
pub unlike_by_news : (h : History) (records : List HistoryRecord) (facts : List Fact)
    (changes : List PublishedChange) (change : PublishedChange) (subject : Subject)
    → IsHistory h records → changes ≡ changes_to (said_by h.said) facts
    → Some change ≡ slice_get changes 0 → subject ≡ subject_of change
    → TellsUnlike (says records) facts (Of subject)
unlike_by_news h records facts changes change subject is made first about =
    let was : said_by h.said ≡ says records = λ i s. is.said s i in
    let split = first_of changes change first in
    inr (
      change,
      split.0,
      sym (made ∙ ap (λ (f : Said). changes_to f facts) was) ∙ split.1,
      about,
    )

-- what stands at a place is the digest that is there
pub digest-is : (ds : List (List ℕ)) (k : ℕ) (x y : List ℕ) → k < length ds → x ≡ get_or ds k x
    → slice_get ds k ≡ Some y → x ≡ y
digest-is ds k x y h is at =
    ap (λ (o : Option (List ℕ)). unwrap_or o x) (sym (digest-at ds k x h is) ∙ at)
