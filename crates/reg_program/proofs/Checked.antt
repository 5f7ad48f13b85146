-- Offices that a job counts.
use Rattle.std.proofs.Common.{◌≡◌, [], ◌++◌, ℕ, ℤ, Bool, true, false, List, Option, Some, None, refl, ap, subst, ◌∙◌, if◌then◌else◌, codes}
use Rattle.std.specs.Fmt.{signed_decimal}
use Rattle.std.specs.Io.KnownBytes.{Appends}
use Rattle.reg_early.specs.Moment.{day_of_moment, is_in_clock, utc_day}
use Rattle.reg_core.specs.World.{World}
use Rattle.reg_office.specs.Counting.{all_counts}
use Rattle.reg_office.specs.declared.counting.AllCounts.{AllCounts}
use Rattle.reg_program.specs.Checking.{IsChecked, counted, counts_text, held_text, published_text, requests_text}

-- ---- The clock

clocked_by : (b : Bool) (today day : ℕ) → Some today ≡ (if b then Some day else None)
    → (b ≡ true) × (today ≡ day)
clocked_by true today day h = (refl, cc)
clocked_by false today day h = absurd (cc)

-- ---- What is printed

abbrev pub counts_from : ℤ → List ℕ → List ℕ → List ℕ → ℕ → List ℕ
counts_from version published requests held acts =
    codes "version " ++ (signed_decimal version ++ (codes "\nwell kept\n"
    ++ (published ++ (requests ++ (held ++ counted (codes "acts") acts [])))))

pub is_checked : (version : ℤ) (moment : ℕ) (had has : Option (List ℕ)) (old new : World)
    (today : ℕ) (given : AllCounts) (text : List ℕ) → Some today ≡ day_of_moment moment → new ≡ old
    → given ≡ all_counts moment today old → text ≡ counts_text version given → Appends had has text
    → IsChecked version moment had has old new
is_checked version moment had has old new today given text clock same value is wrote =
    let on = clocked_by (is_in_clock moment) today (utc_day moment) clock in
    let P : List ℕ → Type 0 = λ bytes. Appends had has bytes in
    record {
      in_clock = on.0;
      same = same;
      wrote =
          subst P
          (is ∙ ap (counts_text version) (value ∙ ap (λ (day : ℕ). all_counts moment day old) on.1))
          wrote;
    }

-- the text of all counts, of its parts
pub text_of_parts : (version : ℤ) (given : AllCounts) (published requests held text : List ℕ)
    → published ≡ published_text given.others → requests ≡ requests_text given.requests
    → held ≡ held_text given.others
    → text ≡ counts_from version published requests held given.acts
    → text ≡ counts_text version given
text_of_parts version given published requests held text p r h is =
    let told = published_text given.others in
    is ∙ ap (λ (xs : List ℕ). counts_from version xs requests held given.acts) p
    ∙ ap (λ (xs : List ℕ). counts_from version told xs held given.acts) r
    ∙ ap (λ (xs : List ℕ).
    counts_from version told (requests_text given.requests) xs given.acts) h
