-- What a task does with an office.
use Rattle.std.specs.Prelude.{◌≡◌, ⊤, ℕ, Bool, true, false, List, Option, None, Result, OnOk, MatchResult}
use Rattle.std.specs.Option.{option_copied}
use Rattle.std.specs.declared.time.Duration.{Duration}
use Rattle.reg_core.specs.View.{published}
use Rattle.reg_core.specs.World.{World}
use Rattle.reg_http.specs.Meeting.{ReadsMoment}
use Rattle.reg_pages.specs.declared.notes.Notes.{Notes}
use Rattle.reg_program.specs.Asking.{PrintsStep, step_of}
use Rattle.reg_program.specs.Doing.{Does}
use Rattle.reg_program.specs.Expiring.{PrintsDue}
use Rattle.reg_program.specs.Founding.{IsReady, IsUnready, RunsAll, RunsUpTo}
use Rattle.reg_program.specs.Looking.{only_looks}
use Rattle.reg_program.specs.Revoking.{IsUnrevoked, Revokes}
use Rattle.reg_program.specs.Tokens.{IsListed}
use Rattle.reg_program.specs.declared.console.Console.{Console}
use Rattle.reg_program.specs.declared.faults.Undone.{Undone}
use Rattle.reg_program.specs.declared.tasks.Task.{Task}
use Rattle.reg_program.specs.declared.tasks.Task.TheVariants.{Found, Run, Serve, Ask, Tokens, Revoke, Publish, Due}

-- What is known of standard input and output and of the clock, before and after: what is left to be
-- read, what was written, and what the clock is to say
pub record Streams : Type 0 where
  pub unread : Option (List ℕ)
  pub left : Option (List ℕ)
  pub had : Option (List ℕ)
  pub has : Option (List ℕ)
  pub readings : Option (List (Option Duration))
  pub later : Option (List (Option Duration))

abbrev pub streams : Option (List ℕ) → Option (List ℕ) → Option (List ℕ)
    → Option (List ℕ) → Option (List (Option Duration)) → Option (List (Option Duration)) → Streams
streams unread left had has readings later =
    record {
      unread = unread;
      left = left;
      had = had;
      has = has;
      readings = readings;
      later = later;
    }

-- the same of a console and a clock, before and after, by what is known of such inputs, outputs and clocks
abbrev pub streams_by : {R W E D : Type 0} → (R → Option (List ℕ)) → (W → Option (List ℕ))
    → (D → Option (List (Option Duration))) → Console R W E → Console R W E → D → D → Streams
streams_by remaining contents readings old new before after =
    streams (remaining old.input.now) (remaining new.input.now)
    (contents old.output.now) (contents new.output.now) (readings before) (readings after)

-- this is the moment that the clock said, which was read once
abbrev pub IsMoment : Streams → ℕ → Type 0
IsMoment io moment = ReadsMoment io.readings io.later moment

-- A task over the states of a keeper does what the function of its job does, at the moment that the
-- clock said. `IfServes` and `IfPublishes` say what the other two do.
abbrev pub Did : {S : Type 0} → (S → World) → (S → Type 0) → (S → Type 0) → Bool → S → S → Streams
    → Result ⊤ Undone → Task → Type 0
Did world Holds Sound fails before after io result (Found clerk) =
    (moment : ℕ) × IsMoment io moment × Does world Holds Sound fails before after result
    (IsReady moment clerk.now io.had io.has) (IsUnready moment clerk.now)
Did world Holds Sound fails before after io result (Run clerk) =
    MatchResult result
    (λ _. RunsAll world Holds Sound fails before after clerk.now io.unread io.left io.had io.has)
    (RunsUpTo world Holds Sound fails before after clerk.now io.unread io.left io.had io.has)
Did world Holds Sound fails before after io result (Serve serving site) = ⊤
Did world Holds Sound fails before after io result (Ask asked) =
    (moment : ℕ) × IsMoment io moment × PrintsStep world Holds Sound fails before after
    (step_of asked moment) asked.form io.had io.has result
Did world Holds Sound fails before after io result Tokens =
    Does world Holds Sound fails before after result (IsListed io.had io.has)
    (λ old new why. new ≡ old)
Did world Holds Sound fails before after io result (Revoke choice) =
    (moment : ℕ) × IsMoment io moment × Does world Holds Sound fails before after result
    (Revokes moment choice io.had io.has) (IsUnrevoked moment choice)
Did world Holds Sound fails before after io result (Publish folder notes) = ⊤
Did world Holds Sound fails before after io result (Due days) =
    OnOk result ((moment : ℕ) × IsMoment io moment
    × PrintsDue (λ k. published (world k)) Holds before after moment days io.had io.has)

-- a task that serves an office on a port, for so many connections, does this
abbrev pub IfServes : (ℕ → ℕ → Type 0) → Task → Type 0
IfServes Served (Found clerk) = ⊤
IfServes Served (Run clerk) = ⊤
IfServes Served (Serve serving site) = Served serving.port serving.connections
IfServes Served (Ask asked) = ⊤
IfServes Served Tokens = ⊤
IfServes Served (Revoke choice) = ⊤
IfServes Served (Publish folder notes) = ⊤
IfServes Served (Due days) = ⊤

-- a task that publishes an office in a folder, with these notes, does this
abbrev pub IfPublishes : (List ℕ → Option Notes → Type 0) → Task → Type 0
IfPublishes Placed (Found clerk) = ⊤
IfPublishes Placed (Run clerk) = ⊤
IfPublishes Placed (Serve serving site) = ⊤
IfPublishes Placed (Ask asked) = ⊤
IfPublishes Placed Tokens = ⊤
IfPublishes Placed (Revoke choice) = ⊤
IfPublishes Placed (Publish folder notes) = Placed folder.now (option_copied notes)
IfPublishes Placed (Due days) = ⊤

-- the capabilities are listed, or a command that only looks is asked
abbrev pub looks_on : Task → Bool
looks_on (Found clerk) = false
looks_on (Run clerk) = false
looks_on (Serve serving site) = false
looks_on (Ask asked) = only_looks asked.command
looks_on Tokens = true
looks_on (Revoke choice) = false
looks_on (Publish folder notes) = false
looks_on (Due days) = false

-- the path of the folder whose files are served with the office
abbrev pub site_of : Task → Option (List ℕ)
site_of (Serve serving site) = option_copied site
site_of _ = None

-- an office is begun where there is none
abbrev pub begins : Task → Bool
begins (Found clerk) = true
begins (Run clerk) = true
begins (Serve serving site) = false
begins (Ask asked) = false
begins Tokens = false
begins (Revoke choice) = false
begins (Publish folder notes) = false
begins (Due days) = false
