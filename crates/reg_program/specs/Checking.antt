-- The job that counts what is in an office.
use Rattle.std.specs.Prelude.{◌≡◌, ◌∷◌, ◌++◌, ⊤, ℕ, ℤ, Bool, true, false, [], List, Option, Result, IfErr, codes}
use Rattle.std.specs.Fmt.{decimal, signed_decimal}
use Rattle.std.specs.Io.KnownBytes.{Appends}
use Rattle.reg_early.specs.Moment.{is_in_clock, utc_day}
use Rattle.reg_core.specs.World.{World}
use Rattle.reg_core.specs.declared.counts.Counts.{Counts}
use Rattle.reg_core.specs.declared.refusal.Refusal.TheVariants.{Clock}
use Rattle.reg_office.specs.Counting.{all_counts}
use Rattle.reg_office.specs.declared.counting.AllCounts.{AllCounts}
use Rattle.reg_office.specs.declared.counting.RequestCounts.{RequestCounts}
use Rattle.reg_program.specs.Doing.{Does}
use Rattle.reg_program.specs.Tasks.{Streams, IsMoment}
use Rattle.reg_program.specs.Undone.{IsOfStoreOrPrinting, refusal_line}
use Rattle.reg_program.specs.declared.faults.Undone.{Undone}
use Rattle.reg_program.specs.declared.faults.Undone.TheVariants.{Fault, Explained, Refused}

-- a word and a number on a line of their own, and then more
abbrev pub counted : List ℕ → ℕ → List ℕ → List ℕ
counted word number more = word ++ 32 ∷ (decimal number ++ 10 ∷ more)

abbrev pub published_text : Counts → List ℕ
published_text given =
    counted (codes "registries") given.registries
    (counted (codes "entries") given.entries.all
    (counted (codes "temporary") given.entries.temporary
    (counted (codes "expired") given.entries.expired
    (counted (codes "held") given.entries.held []))))

abbrev pub requests_text : RequestCounts → List ℕ
requests_text given =
    counted (codes "requests") given.all
    (counted (codes "pending") given.pending
    (counted (codes "approved") given.approved
    (counted (codes "declined") given.declined
    (counted (codes "withdrawn") given.withdrawn []))))

abbrev pub held_text : Counts → List ℕ
held_text given =
    counted (codes "capabilities") given.caps.all
    (counted (codes "valid") given.caps.valid
    (counted (codes "prefixes") given.prefixes
    (counted (codes "blocks") given.blocks
    (counted (codes "agents") given.agents []))))

-- the version, that the office is well kept, and each count, on lines of their own
abbrev pub counts_text : ℤ → AllCounts → List ℕ
counts_text version given =
    codes "version " ++ (signed_decimal version ++ (codes "\nwell kept\n"
    ++ (published_text given.others
    ++ (requests_text given.requests
    ++ (held_text given.others ++ counted (codes "acts") given.acts [])))))

-- it is counted as at the moment, on its day, and nothing has changed
pub record IsChecked (version : ℤ) (moment : ℕ) (had has : Option (List ℕ)) (old new : World) :
    Type 0 where
  pub in_clock : is_in_clock moment ≡ true
  pub same : new ≡ old
  pub wrote : Appends had has (counts_text version (all_counts moment (utc_day moment) old))

-- a line says that the moment is none of the office's clock; or there was a fault
abbrev pub IsUnchecked : ℕ → Undone → Type 0
IsUnchecked moment (Refused line) =
    (is_in_clock moment ≡ false) × (line.items ≡ refusal_line Clock)
IsUnchecked moment (Fault failure) = IsOfStoreOrPrinting (Fault failure)
IsUnchecked moment (Explained failure why) = ⊥

-- The office that was looked at is counted as at the moment that the clock said, and its version is
-- printed; or why not.
pub record ChecksAt {S : Type 0} (world : S → World) (Holds Sound : S → Type 0) (fails : Bool)
    (io : Streams) (result : Result ⊤ Undone) (version : ℤ) (before after : S) : Type 0 where
  pub moment : ℕ
  pub is_moment : IsMoment io moment
  pub does : Does world Holds Sound fails before after result
      (IsChecked version moment io.had io.has) (λ old new why. new ≡ old)
  pub why : IfErr result (IsUnchecked moment)
