use Rattle.std.proofs.Common.{◌≡◌, ℕ, List, ◌∷◌, Some, None, Ok, string_bytes, if◌then◌else◌, refl, sym, ap, ◌∙◌, rules}
use Rattle.std.specs.Str.{bytes_eq}
use Rattle.reg_pages.specs.Notes.{note_at, note_count}
use Rattle.reg_pages.specs.Reading.{Noted, added, noted_at}
use Rattle.reg_pages.proofs.reading.add.Goals as goal

added-new : (n : ℕ) (before : List Noted) (row : Noted) → noted_at before row.0 ≡ None
    → added n before row ≡ Ok (row ∷ before)
added-new n before row none = rw none refl

pub returns-clause-added : goal.returns-clause-added
returns-clause-added c = λ before are.
    let thing = string_bytes c.args.row.thing in
    let absent : note_at c.args.notes.now thing ≡ None = search rules in (
      (thing, c.args.row.note) ∷ before,
      added-new (note_count c.args.notes.now) before (thing, c.args.row.note) (sym (are thing) ∙ absent),
      λ other.
          c.in_ok-add.ensures.noted other
          ∙ ap (λ o. if bytes_eq thing other then Some c.args.row.note else o) (are other),
    )
