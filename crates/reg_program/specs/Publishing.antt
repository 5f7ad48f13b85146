-- What publishing does.
use Rattle.std.specs.Prelude.{◌≡◌, ◌++◌, ⊤, ℕ, List, Option, OnOk, Result, codes}
use Rattle.std.specs.Str.Parse.{IsNumeral, digits_value, without_leading_plus}
use Rattle.std.specs.declared.time.Duration.{Duration}
use Rattle.reg_core.specs.View.{Published}
use Rattle.reg_http.specs.Meeting.{ReadsMoment}
use Rattle.reg_pages.specs.declared.notes.Notes.{Notes}
use Rattle.reg_publish.specs.Publishing.{PublishesSite}
use Rattle.reg_program.specs.declared.faults.Undone.{Undone}

-- an office is served on this port at an address: its digits stand behind the colon
pub record IsPortOf (source : List ℕ) (port : ℕ) : Type 0 where
  pub digits : List ℕ
  pub is : source ≡ codes "http://127.0.0.1:" ++ digits
  pub numeral : IsNumeral 10 (without_leading_plus digits)
  pub number : digits_value 10 (without_leading_plus digits) ≡ port

-- the site of what a source tells anybody at a moment goes on with these notes in a folder that was
-- opened so
pub record PublishesIn {S F : Type 0} (published : S → Published) (Holds : S → Type 0) (Tells : Type 0)
    (held : F → List ℕ → Option (List ℕ)) (Puts : F → F → List ℕ → List ℕ → Type 0)
    (Opened : F → Type 0) (before after : S) (notes : Option Notes) (moment : ℕ) : Type 0 where
  pub first : F
  pub last : F
  pub opened : Opened first
  pub site : PublishesSite published Holds Tells held Puts before after first last notes moment

-- so it goes on in a folder at a path, at the moment that the clock said, which was read once
abbrev pub PublishesNow : {S F : Type 0} → (S → Published) → (S → Type 0) → Type 0
    → (F → List ℕ → Option (List ℕ)) → (F → F → List ℕ → List ℕ → Type 0) → (List ℕ → F → Type 0)
    → Option (List (Option Duration)) → Option (List (Option Duration)) → S → S → Result ⊤ Undone
    → List ℕ → Option Notes → Type 0
PublishesNow published Holds Tells held Puts Opened readings later before after result folder notes =
    OnOk result ((moment : ℕ) × ReadsMoment readings later moment
    × PublishesIn published Holds Tells held Puts (Opened folder) before after notes moment)
