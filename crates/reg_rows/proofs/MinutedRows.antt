-- Requests with their minutes, as rows.
use Rattle.std.proofs.Common.{◌≡◌, ℕ, Bool, true, false, List, [], ◌∷◌, map, if◌then◌else◌, ◌||◌}
use Rattle.std.proofs.Common.{Option, Some, None, option_map, refl, sym, ap, ◌∙◌}
use Rattle.std.proofs.lemmas.Simd.{map-map}
use Rattle.std.specs.FinMap.{contains_key, get}
use Rattle.std.specs.List.{list_any}
use Rattle.reg_maps.specs.Maps.{only_if, same_text}
use Rattle.reg_core.specs.File.{waiting}
use Rattle.reg_core.specs.Queue.{queue_row, queue_rows}
use Rattle.reg_core.specs.Request.{is_pending, request_row, request_rows}
use Rattle.reg_core.specs.View.{as_queued, queue_of, queued_to, requests_of}
use Rattle.reg_core.specs.World.{RequestName, World}
use Rattle.reg_core.specs.declared.ask.Ask.{Ask}
use Rattle.reg_core.specs.declared.ask.Ask.TheVariants.{Renew}
use Rattle.reg_core.specs.declared.queue.QueueRow.{QueueRow}
use Rattle.reg_core.specs.declared.request.Case.{Case}
use Rattle.reg_core.specs.declared.request.Request.{Request}
use Rattle.reg_core.specs.Minutes.{ask_with, is_renewal, with_minute}
use Rattle.reg_core.proofs.KeyOrders.{name_keys}
use Rattle.reg_records.specs.declared.queued.QueuedRequest.{QueuedRequest}
use Rattle.reg_statements.specs.Content.{assembled}
use Rattle.reg_statements.specs.Defined.{rows_where}
use Rattle.reg_statements.specs.Office as office
use Rattle.reg_statements.specs.Parts.{Parts}
use Rattle.reg_statements.proofs.Minutes.{get-minuted}
use Rattle.reg_statements.proofs.RegistryRows.{select-all}
use Rattle.reg_rows.specs.Marks.{request_minuted, seen_minuted}
use Rattle.reg_rows.specs.Seats.{seen_row}
use Rattle.reg_rows.proofs.MappedRows.{rows_mapped}

-- ---- Which minute is looked up

-- of an ask that is no renewal none
pub minute_read : (ask : Ask) (minute : Option (List ℕ))
    → ask_with (if is_renewal ask then minute else None) ask ≡ ask_with minute ask
minute_read (Renew a) minute = refl
minute_read ask minute = refl

same_ask : (ask : Ask) (minute : Option (List ℕ)) → is_renewal ask ≡ false
    → ask_with minute ask ≡ ask
same_ask (Renew a) minute other = absurd (cc)
same_ask ask minute other = refl

-- where none is a renewal they are as their rows have them
pub none_renewed : (p : Parts) (rs : List Request)
    → list_any (λ r. is_renewal r.ask) rs ≡ false → rs ≡ map (request_minuted p) rs
none_renewed p [] none = refl
none_renewed p (r ∷ rs) none =
    elim (is_renewal r.ask) as (λ b. is_renewal r.ask ≡ b
    → (b || list_any (λ r. is_renewal r.ask) rs) ≡ false
    → r ∷ rs ≡ map (request_minuted p) (r ∷ rs)) [
      | true ↦ λ t none. absurd (cc)
      | false ↦ λ t none.
          λ i. record r { ask = sym (same_ask r.ask (get p.minutes (r.account, r.reference)) t) i }
          ∷ none_renewed p rs none i
    ] refl none

-- ---- Requests

pub request_found : (p : Parts) (name : RequestName)
    → option_map (request_minuted p) (option_map (request_row name) (get p.requests name))
    ≡ option_map (request_row name) (get (assembled p).requests name)
request_found p name =
    go (get p.requests name)
    ∙ ap (option_map (request_row name)) (sym (get-minuted p.minutes p.requests name))
  where
    go : (r : Option Case)
        → option_map (request_minuted p) (option_map (request_row name) r)
        ≡ option_map (request_row name) (option_map (with_minute (get p.minutes name)) r)
    go None = refl
    go (Some case) = refl

abbrev with_own : Parts → RequestName → Case → Case
with_own p name case = with_minute (get p.minutes name) case

-- a case that is chosen, with its minute or without
chosen : (p : Parts) (name : RequestName) (case : Case) (b : Bool)
    → option_map (request_row name) (only_if b (with_own p name case))
    ≡ option_map (λ case. request_minuted p (request_row name case)) (only_if b case)
chosen p name case true = refl
chosen p name case false = refl

-- those of one account
pub own_listed : (p : Parts) (account : List ℕ)
    → map (request_minuted p)
    (rows_where office.requests (λ name case. same_text name.0 account) p)
    ≡ request_rows (requests_of account (assembled p))
own_listed p account =
    rows_mapped (λ name case. only_if (same_text name.0 account) case) (with_own p)
    (λ name case. request_row name case) (request_minuted p)
    (λ name case. chosen p name case (same_text name.0 account)) name_keys p.requests

-- those that wait
pub waiting_listed : (p : Parts)
    → map (request_minuted p) (rows_where office.requests (λ name case. is_pending case.state) p)
    ≡ request_rows (waiting (assembled p))
waiting_listed p =
    rows_mapped (λ name case. only_if (is_pending case.state) case) (with_own p)
    (λ name case. request_row name case) (request_minuted p)
    (λ name case. chosen p name case (is_pending case.state)) name_keys p.requests

-- and all
pub all_listed : (p : Parts)
    → map (request_minuted p) (rows_where office.requests (λ name case. true) p)
    ≡ request_rows (assembled p).requests
all_listed p =
    rows_mapped (λ name case. Some case) (with_own p) (λ name case. request_row name case)
    (request_minuted p) (λ name case. refl) name_keys p.requests
    ∙ ap (λ m. request_rows m) (select-all name_keys (assembled p).requests)

-- ---- A queue

-- the office, of whose requests none has its minute
abbrev pub bare_world : Parts → World
bare_world p = record (assembled p) { requests = p.requests }

abbrev row_minuted : Parts → QueueRow → QueueRow
row_minuted p row =
    record row { ask = ask_with (get p.minutes (row.account, row.reference)) row.ask }

pub queue_minuted : (p : Parts) (expert : List ℕ) (rows : List QueuedRequest)
    → map seen_row rows ≡ queue_rows (queue_of expert (bare_world p))
    → map (seen_minuted p) rows ≡ queue_rows (queue_of expert (assembled p))
queue_minuted p expert rows is =
    sym (map-map (row_minuted p) seen_row rows) ∙ ap (map (row_minuted p)) is
    ∙ rows_mapped (queued_to expert (assembled p)) (with_own p) (λ name q. queue_row name q)
    (row_minuted p) each name_keys p.requests
  where
    each : (name : RequestName) (case : Case)
        → option_map (queue_row name) (queued_to expert (assembled p) name (with_own p name case))
        ≡ option_map (λ q. row_minuted p (queue_row name q))
        (queued_to expert (assembled p) name case)
    each name case =
        elim (contains_key p.queue (name, expert)) as (λ b.
        option_map (queue_row name)
        (only_if b (as_queued (get p.advice (name, expert)) (with_own p name case)))
        ≡ option_map (λ q. row_minuted p (queue_row name q))
        (only_if b (as_queued (get p.advice (name, expert)) case)))
        [ true ↦ refl | false ↦ refl ]
