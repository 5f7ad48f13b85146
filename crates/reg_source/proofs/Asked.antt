-- What an office tells whoever shows no token.
use Rattle.std.proofs.Common.{◌≡◌, ℕ, List, Bool, true, false, Option, Some, None, Result, Ok, Err, refl, sym, ap, ◌∙◌, if◌then◌else◌}
use Rattle.std.specs.Prelude.{IfOk}
use Rattle.std.specs.FinMap.{get}
use Rattle.reg_early.specs.Moment.{is_in_clock, utc_day}
use Rattle.reg_ranges.specs.Tables.{Table}
use Rattle.reg_core.specs.Allowance.{◌>>=◌, or_refusal}
use Rattle.reg_core.specs.Answer.{Answer, change_of, public_answer, reply_of, unchanged}
use Rattle.reg_core.specs.Page.{page}
use Rattle.reg_core.specs.Step.{stamp_in}
use Rattle.reg_core.specs.View.{Published, published}
use Rattle.reg_core.specs.Journal.{recorded_if}
use Rattle.reg_core.specs.World.{World}
use Rattle.reg_core.specs.declared.command.Command.TheVariants.{Public}
use Rattle.reg_core.specs.declared.command.PublicCommand.{PublicCommand}
use Rattle.reg_core.specs.declared.command.PublicCommand.TheVariants.{Registries, Registry, RegistryCsv, PoolList, BlocksCsv}
use Rattle.reg_core.specs.declared.journal.Stamp.{Stamp}
use Rattle.reg_core.specs.declared.told.Told.{Told}
use Rattle.reg_core.specs.declared.told.Told.TheVariants as tells
use Rattle.reg_core.specs.declared.refusal.Refusal.TheVariants as no
use Rattle.reg_core.specs.declared.reply.Reply.{Reply}
use Rattle.reg_core.specs.declared.reply.Reply.TheVariants.{Accepted}
use Rattle.reg_office.specs.Caller.{step_by}
use Rattle.reg_site.specs.Site.{told_to_all}
use Rattle.reg_source.specs.Source.{Asks}

-- ---- Anybody's commands

module _ (p : Published) (name : List ℕ) (today : ℕ) where
  -- the answer of a registry, and of its listing, by its table
  abbrev shown_by : Option Table → Answer
  shown_by t =
      or_refusal no.Registry t >>= (λ table. unchanged (tells.Page (page p name table today)))

  abbrev listed_by : Option Table → Answer
  listed_by t =
      or_refusal no.Registry t >>= (λ table. unchanged (tells.Sheet (page p name table today)))

  shown_changes : (t : Option Table) → change_of (shown_by t) ≡ None
  shown_changes None = refl
  shown_changes (Some table) = refl

  listed_changes : (t : Option Table) → change_of (listed_by t) ≡ None
  listed_changes None = refl
  listed_changes (Some table) = refl

-- none of them changes anything
nothing_changes : (p : Published) (today : ℕ) (command : PublicCommand)
    → change_of (public_answer p today command) ≡ None
nothing_changes p today Registries = refl
nothing_changes p today (Registry name) = shown_changes p name today (get p.registries name)
nothing_changes p today (RegistryCsv name) = listed_changes p name today (get p.registries name)
nothing_changes p today PoolList = refl
nothing_changes p today BlocksCsv = refl

-- ---- An office

-- while it is open or not
by_clock : (is_open : Bool) (a : Answer) (told : Told)
    → reply_of (if is_open then a else Err no.Clock) ≡ Accepted told → reply_of a ≡ Accepted told
by_clock true a told h = h
by_clock false a told h = cc

stays_by_clock : (by : Stamp) (w : World) (is_open : Bool) (a : Answer) → change_of a ≡ None
    → recorded_if by w (change_of (if is_open then a else Err no.Clock)) ≡ w
stays_by_clock by w true a h = ap (recorded_if by w) h
stays_by_clock by w false a h = refl

-- what is told is told to all
told_is_told_to_all : (w : World) (moment : ℕ) (command : PublicCommand) (told : Told)
    → Accepted told ≡ (step_by w None moment (Public command)).reply
    → told_to_all (published w) moment command ≡ Accepted told
told_is_told_to_all w moment command told h =
    by_clock (is_in_clock moment) (public_answer (published w) (utc_day moment) command) told
    (sym h)

-- nothing changes
world_stays : (w : World) (moment : ℕ) (command : PublicCommand)
    → (step_by w None moment (Public command)).world ≡ w
world_stays w moment command =
    stays_by_clock (stamp_in w None moment) w (is_in_clock moment) (public_answer (published w) (utc_day moment) command)
    (nothing_changes (published w) (utc_day moment) command)

-- so an office is a source
pub office_asks : {S E : Type 0} (world : S → World) (Holds : S → Type 0) (s s' : S) (moment : ℕ)
    (command : PublicCommand) (reply : Reply) (result : Result Told E)
    → (Holds s' → reply ≡ (step_by (world s) None moment (Public command)).reply)
    → (Holds s' → world s' ≡ (step_by (world s) None moment (Public command)).world)
    → (Holds s' → Holds s) → IfOk result (λ told. reply ≡ Accepted told)
    → Asks (λ office. published (world office)) Holds s s'
    (λ p. IfOk result (λ told. told_to_all p moment command ≡ Accepted told))
office_asks world Holds s s' moment command reply (Ok told) replied changed before is = record {
  told = λ h. told_is_told_to_all (world s) moment command told (sym is ∙ replied h);
  same = λ h. ap published (changed h ∙ world_stays (world s) moment command);
  before = before;
}
office_asks world Holds s s' moment command reply (Err e) replied changed before is = record {
  told = λ h. tt;
  same = λ h. ap published (changed h ∙ world_stays (world s) moment command);
  before = before;
}
