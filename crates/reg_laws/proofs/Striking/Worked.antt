-- A request of alice's beside what bob does, worked out: what is struck as bob sees it. A token
-- stands for its own digest here.
use Rattle.std.proofs.Common.{◌≡◌, ℕ, Bool, ◌&&◌, not, List, [], ◌∷◌, map, refl, ap, ◌∙◌}
use Rattle.std.specs.FinMap as map
use Rattle.std.specs.FinMap.{get, contains_key, get-insert, get-empty}
use Rattle.std.specs.List.{list_any}
use Rattle.std.specs.Prelude.{Some, None, Ok, Err, codes, filter}
use Rattle.reg_core.proofs.Common.{same_text, text_keys, get-inserted, utc_day, permanent_term, Table}
use Rattle.reg_core.proofs.Common.{Answer, reply_of, change_of, desk_row, clerk_cap, founded_world}
use Rattle.reg_core.proofs.Common.{request_row, Event, run, answer_to, Stage, stages, reveals_if}
use Rattle.reg_core.proofs.Common.{stays_in, struck, requests_of, World, RequestName, applied}
use Rattle.reg_core.proofs.Common.{carried, own_times, pending, name_cmp, place_cmp, seat_cmp, link_cmp}
use Rattle.reg_laws.proofs.Types.{Ask}
use Rattle.reg_core.proofs.Common.{name_keys}
use Rattle.reg_laws.proofs.Types.{Cap, Command, Told, Entry, Approved, Declined, State}
use Rattle.reg_ranges.specs.declared.policy.Policy.TheVariants.{FirstComeFirstServed}
use Rattle.reg_ranges.specs.declared.policy.Treatment.TheVariants.{Under}
use Rattle.reg_core.specs.declared.ask.Ask.TheVariants.{Code}
use Rattle.reg_core.specs.declared.ask.Want.TheVariants.{Value}
use Rattle.reg_core.specs.declared.capability.Kind.TheVariants as kind
use Rattle.reg_core.specs.declared.change.Change.TheVariants as change
use Rattle.reg_core.specs.declared.command.ApplicantCommand.TheVariants.{OwnOne, Submit}
use Rattle.reg_core.specs.declared.command.ClerkCommand.TheVariants.{Approve, Decline}
use Rattle.reg_core.specs.declared.command.Command.TheVariants.{Applicant, Clerk}
use Rattle.reg_core.specs.declared.refusal.Refusal.TheVariants as no
use Rattle.reg_core.specs.declared.told.Told.TheVariants.{Made}
use Rattle.reg_core.specs.declared.request.Given.TheVariants as given
use Rattle.reg_core.proofs.Stepping.{own_request}
use Rattle.reg_laws.proofs.Times.{came_here}

abbrev clerk : List ℕ
clerk = codes "clerk-token-00001"

abbrev alice : List ℕ
alice = codes "alice-token-00001"

abbrev bob : List ℕ
bob = codes "bob-token-0000001"

abbrev cap_of : List ℕ → Cap
cap_of account = record { account = account; kind = kind.Applicant; until = 1800000000 }

abbrev colours : Table
colours = record {
  max = 255;
  ranges = record { lo = 0; hi = 255; treatment = Under FirstComeFirstServed; note = None } ∷ [];
}

abbrev ask : Ask
ask = Code (record {
  registry = codes "colours";
  want = Value 7;
  label = codes "red";
  evidence =
      record { contact = Some (codes "alice at home"); spec = None; rfc = None; minute = None };
})

-- the request
abbrev name : RequestName
name = (codes "alice", codes "a-1")

-- a new office with two applicants and a registry
abbrev start : World
start = applied
    (applied (applied (founded_world clerk) (change.Grant alice (cap_of (codes "alice"))))
    (change.Grant bob (cap_of (codes "bob")))) (change.Define (codes "colours") colours)

-- and after the request was made
abbrev asked : World
asked =
    carried start (Some alice) 1700000000
    (Some (change.Submit (codes "alice") (codes "a-1") ask))

abbrev at : List ℕ → Command → Event
at token command = record { caller = Some token; moment = 1700000000; command = command }

abbrev submits : Event
submits = at alice (Applicant (Submit (codes "a-1") ask))

abbrev approves : Event
approves = at clerk (Clerk (Approve (codes "alice") (codes "a-1")))

abbrev declines : Event
declines = at clerk (Clerk (Decline (codes "alice") (codes "a-1") (codes "no")))

abbrev looks : Event
looks = at bob (Applicant (OwnOne (codes "a-1")))

-- ---- What the maps have

bob-there : get start.caps bob ≡ Some (cap_of (codes "bob"))
bob-there = get-inserted text_keys _ bob (cap_of (codes "bob"))

alice-there : get start.caps alice ≡ Some (cap_of (codes "alice"))
alice-there =
    get-insert text_keys.total _ bob (cap_of (codes "bob")) alice
    ∙ get-inserted text_keys _ alice (cap_of (codes "alice"))

clerk-there : get start.caps clerk ≡ Some clerk_cap
clerk-there =
    get-insert text_keys.total _ bob (cap_of (codes "bob")) clerk
    ∙ get-insert text_keys.total _ alice (cap_of (codes "alice")) clerk
    ∙ get-inserted text_keys map.empty clerk clerk_cap

colours-there : get start.registries (codes "colours") ≡ Some colours
colours-there = get-inserted text_keys map.empty (codes "colours") colours

value-free : get start.entries (codes "colours", 7) ≡ None
value-free = get-empty place_cmp (codes "colours", 7)

not_asked : get start.requests name ≡ None
not_asked = get-empty name_cmp name

alice-none : get (requests_of (codes "alice") start) name ≡ None
alice-none = own_request (codes "alice") (codes "a-1") start ∙ not_asked

was_asked : get asked.requests name ≡ Some (pending ask)
was_asked = get-inserted name_keys start.requests name (pending ask)

bob-no_seat : get start.queue (name, codes "bob") ≡ None
bob-no_seat = get-empty seat_cmp (name, codes "bob")

alice-no_seat : get start.queue ((codes "bob", codes "a-1"), codes "alice") ≡ None
alice-no_seat = get-empty seat_cmp ((codes "bob", codes "a-1"), codes "alice")

bob-no_link : get start.agents (codes "alice", codes "bob") ≡ None
bob-no_link = get-empty link_cmp (codes "alice", codes "bob")

alice-no_link : get start.agents (codes "bob", codes "alice") ≡ None
alice-no_link = get-empty link_cmp (codes "bob", codes "alice")

bob-none : get (requests_of (codes "bob") asked) (codes "bob", codes "a-1") ≡ None
bob-none =
    own_request (codes "bob") (codes "a-1") asked
    ∙ get-insert name_keys.total start.requests name (pending ask) (codes "bob", codes "a-1")
    ∙ get-empty name_cmp (codes "bob", codes "a-1")

-- alice is shown when it came, and that it is not decided yet
asked_at : get (own_times (codes "alice") asked).own name
    ≡ Some (record { submitted = Some 1700000000; decided = None })
asked_at = came_here (codes "alice") (codes "a-1") (Some alice) 1700000000 ask start

-- ---- The events in turn

abbrev answers : World → Event → Answer
answers w e = answer_to (λ token. token) w e.caller e.moment e.command

-- an event with its answer
abbrev answered : World → Event → Answer → Stage
answered w e a =
    record {
      before = w;
      event = e;
      reply = reply_of a;
      change = change_of a;
      after = carried w e.caller e.moment (change_of a);
    }

-- the request in a state, as the desk sees it
abbrev shown : State → Told
shown state = desk_row name (record { ask = ask; state = state })

abbrev submitted : Answer
submitted = Ok
    (record {
      told = Made (request_row name (pending ask));
      change = Some (change.Submit (codes "alice") (codes "a-1") ask);
    })

submits_at : answers start submits ≡ submitted
submits_at = rw (alice-there, colours-there, value-free, alice-none) refl

-- bob has no request of this reference
abbrev looked : Answer
looked = Err no.Request

looks_at : answers asked looks ≡ looked
looks_at = rw (bob-there, bob-none) refl

abbrev declined : Answer
declined = Ok
    (record {
      told = shown (Declined (codes "no"));
      change = Some (change.Close (codes "alice") (codes "a-1") (Declined (codes "no")));
    })

declines_at : answers asked declines ≡ declined
declines_at = rw (clerk-there, was_asked) refl

-- the entry that it is given
abbrev red : Entry
red = record {
  registry = codes "colours";
  value = 7;
  label = codes "red";
  assignee = codes "alice";
  term = permanent_term (utc_day 1700000000);
}

abbrev approved : Answer
approved = Ok
    (record {
      told = shown (Approved (given.Value 7));
      change = Some (change.GiveValue (codes "alice") (codes "a-1") red);
    })

approves_at : answers asked approves ≡ approved
approves_at = rw (clerk-there, was_asked, colours-there, value-free) refl

-- the run that ends in this event
abbrev run_to : Event → Answer → List Stage
run_to last a =
    answered start submits submitted ∷ answered asked looks looked ∷ answered asked last a ∷ []

runs_to : (last : Event) (a : Answer) → answers asked last ≡ a
    → stages (λ token. token) start (submits ∷ looks ∷ last ∷ []) ≡ run_to last a
runs_to last a is =
    ap (λ x. answered start submits x ∷ stages (λ token. token)
    (carried start (Some alice) 1700000000 (change_of x)) (looks ∷ last ∷ [])) submits_at
    ∙ ap (λ x. answered start submits submitted ∷ answered asked looks x ∷ stages (λ token. token)
    (carried asked (Some bob) 1700000000 (change_of x)) (last ∷ [])) looks_at
    ∙ ap (λ x. run_to last x) is

-- ---- What is struck

-- what is left of a run with these stages, as an account sees it
abbrev left_of : List ℕ → List Stage → List Event
left_of account run =
    let unseen : RequestName → Bool =
    λ n. not (same_text n.0 account) && not (contains_key start.queue (n, account))
    && not (contains_key start.agents (n.0, account))
    && not (list_any (λ (s : Stage). reveals_if account n s.change) run) in
    map (λ (s : Stage). s.event) (filter (stays_in account unseen) run)

-- the request that is made and declined leaves no event
made_struck : struck (λ token. token) (codes "bob") start (submits ∷ looks ∷ declines ∷ [])
    ≡ looks ∷ []
made_struck =
    ap (left_of (codes "bob")) (runs_to declines declined declines_at)
    ∙ rw (alice-there, bob-there, clerk-there, bob-no_seat, bob-no_link) refl

-- what alice does herself is left, and what is about her request; that bob looked is not
made_kept : struck (λ token. token) (codes "alice") start (submits ∷ looks ∷ declines ∷ [])
    ≡ submits ∷ declines ∷ []
made_kept = ap (left_of (codes "alice")) (runs_to declines declined declines_at)
    ∙ rw (alice-there, bob-there, alice-no_seat, alice-no_link) refl

-- a request that is given a value is not struck
given_kept : struck (λ token. token) (codes "bob") start (submits ∷ looks ∷ approves ∷ [])
    ≡ submits ∷ looks ∷ approves ∷ []
given_kept =
    ap (left_of (codes "bob")) (runs_to approves approved approves_at)
    ∙ rw (alice-there, bob-there, clerk-there, bob-no_seat, bob-no_link) refl
