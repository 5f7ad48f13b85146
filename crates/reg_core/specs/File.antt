-- Requests with their experts and all advice on them.
use Rattle.std.specs.Prelude.{ℕ, Bool, ◌&&◌, List, map}
use Rattle.std.specs.FinMap.{FinMap, entries}
use Rattle.reg_maps.specs.Maps.{same_text, only_if, select}
use Rattle.reg_core.specs.Advice.{is_advised}
use Rattle.reg_core.specs.Request.{request_row, is_pending}
use Rattle.reg_core.specs.World.{World, RequestName, Seat, name_cmp, seat_cmp}
use Rattle.reg_core.specs.declared.advice.Advice.{Advice}
use Rattle.reg_core.specs.declared.advice.Opinion.{Opinion}
use Rattle.reg_core.specs.declared.case_file.CaseFile.{CaseFile}
use Rattle.reg_core.specs.declared.request.Case.{Case}

abbrev pub same_name : RequestName → RequestName → Bool
same_name a b = same_text a.0 b.0 && same_text a.1 b.1

-- the rows of one request
abbrev pub seats_of : {X : Type 0} → RequestName → FinMap seat_cmp X → FinMap seat_cmp X
seats_of name m = select (λ seat x. only_if (same_name seat.0 name) x) m

-- the experts to whom a request is assigned, in order
abbrev pub experts_of : World → RequestName → List (List ℕ)
experts_of w name = map (λ e. e.0.1) (entries (seats_of name w.queue))

abbrev pub opinion : Seat → Advice → Opinion
opinion seat advice = record { expert = seat.1; advice = advice }

-- all advice on a request, by expert
abbrev pub opinions_of : World → RequestName → List Opinion
opinions_of w name = map (λ e. opinion e.0 e.1) (entries (seats_of name w.advice))

abbrev pub file : World → RequestName → Case → CaseFile
file w name case =
    record {
      request = request_row name case;
      experts = experts_of w name;
      advice =
          opinions_of w name;
    }

-- the name of its request
abbrev pub name_of : CaseFile → RequestName
name_of file = (file.request.account, file.request.reference)

-- ---- Requests that wait

-- the requests that are neither decided nor withdrawn
abbrev pub waiting : World → FinMap name_cmp Case
waiting w = select (λ name case. only_if (is_pending case.state) case) w.requests

-- their files, by account and reference
abbrev pub waiting_files : World → List CaseFile
waiting_files w = map (λ e. file w e.0 e.1) (entries (waiting w))

-- ---- Advice

-- one of the request's experts is for it
abbrev pub was_advised : World → RequestName → Bool
was_advised w name = is_advised (experts_of w name) (opinions_of w name)
