-- The laws of what is read.
use Rattle.std.specs.Prelude.{◌≢◌, ◌≡◌, ℕ, List, map, true, false, Some, Ok, Err}
use Rattle.reg_ranges.specs.RangeFile.{file_ranges}
use Rattle.reg_ranges.specs.declared.range_file.RowFault.TheVariants.{Memory}
use Rattle.reg_core.specs.Command.{has_command_form, needs_capability}
use Rattle.reg_core.specs.declared.command.Command.{Command}
use Rattle.reg_parse.specs.Command.{asked, routed}
use Rattle.reg_parse.specs.Route.{rows}
use Rattle.reg_parse.specs.Shown.{is_shown_whole, pattern_at, shown}

-- the texts and numbers of a command have their forms
abbrev pub CommandsHaveForm : Type 0
CommandsHaveForm =
    (method path body : List ℕ) (command : Command) → asked method path body ≡ Ok command
    → has_command_form command ≡ true

-- want of memory is a fault of a call, and of no range file
abbrev pub FilesHaveOwnFaults : Type 0
FilesHaveOwnFaults = (file : List ℕ) → file_ranges file ≢ Err Memory

-- paths of the same route, which is not public, are shown by the same text
abbrev pub PrivatePathsAreShownAlike : Type 0
PrivatePathsAreShownAlike =
    (path other : List ℕ) → routed other ≡ routed path → is_shown_whole (routed path) ≡ false
    → shown other ≡ shown path

-- the path of a command that takes a token, of whatever kind, is not shown as it is
abbrev pub PathsOfTokensAreHidden : Type 0
PathsOfTokensAreHidden =
    (method path body : List ℕ) (command : Command)
    → asked method path body ≡ Ok command → needs_capability command ≡ true
    → is_shown_whole (routed path) ≡ false

-- the pattern that stands for the paths of a row is that of the row
abbrev pub PatternsAreOfTheTable : Type 0
PatternsAreOfTheTable = map (λ r. pattern_at r.1) rows ≡ map (λ r. r.0) rows
