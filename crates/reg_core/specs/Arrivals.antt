-- The order in which requests came, as the journal has it.
use Rattle.std.specs.Prelude.{ℕ, ◌+◌, List, [], ◌∷◌, length, map, if◌then◌else◌}
use Rattle.std.specs.FinMap.{FinMap, entries, from_entries}
use Rattle.std.specs.Ordering.{nat_cmp, ordering_then}
use Rattle.std.specs.declared.cmp.Ordering.{Ordering}
use Rattle.reg_core.specs.File.{file, waiting}
use Rattle.reg_core.specs.Times.{last_moment, submits}
use Rattle.reg_core.specs.World.{World, RequestName, name_cmp}
use Rattle.reg_core.specs.declared.case_file.WaitingFile.{WaitingFile}
use Rattle.reg_core.specs.declared.journal.Act.{Act}
use Rattle.reg_core.specs.declared.journal.Arrival.{Arrival}
use Rattle.reg_core.specs.declared.request.Case.{Case}

-- the number of the last act by which a request came; 0 where there is none
abbrev pub arrival_number : List Act → RequestName → ℕ
arrival_number [] name = 0
arrival_number (act ∷ acts) name =
    if submits name act.deed then length acts + 1 else arrival_number acts name

-- with the moment of that act
abbrev pub arrival : List Act → RequestName → Arrival
arrival journal name = record {
  number = arrival_number journal name;
  moment = last_moment (submits name) journal;
}

-- which of two requests came first; of those of which no act says when, by account and reference
abbrev pub arrival_cmp : List Act → RequestName → RequestName → Ordering
arrival_cmp journal a b =
    ordering_then (nat_cmp (arrival_number journal a) (arrival_number journal b)) (name_cmp a b)

-- requests in the order in which they came
unfoldable pub by_arrival : {X : Type 0} → (journal : List Act) → FinMap name_cmp X
    → FinMap (arrival_cmp journal) X
by_arrival journal requests = from_entries (entries requests)

-- ---- Requests that wait

-- the file of one, with the moment at which it came
abbrev pub waiting_file : World → RequestName → Case → WaitingFile
waiting_file w name case =
    record { submitted = last_moment (submits name) w.journal; file = file w name case }

-- their files in the order in which they came
abbrev pub waiting_list : World → List WaitingFile
waiting_list w = map (λ e. waiting_file w e.0 e.1) (entries (by_arrival w.journal (waiting w)))
