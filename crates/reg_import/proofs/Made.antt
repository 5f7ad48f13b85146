-- The lines of an entry make it.
use Rattle.std.proofs.Common.{◌≡◌, ◌∙◌, ℕ, Bool, true, false, List, [], ◌∷◌, ◌++◌, get_or, refl, sym, ap, subst, arith}
use Rattle.std.specs.Prelude.{◌≢◌, Option, Some, None, Ok, is_some, nat_lt, ◌&&◌, max, option_map, All, if◌then◌else◌}
use Rattle.std.proofs.lemmas.List.Elements.{All-head, All-tail}
use Rattle.std.specs.Cmp.{first_so}
use Rattle.std.specs.FinMap.{get, insert}
use Rattle.std.proofs.lemmas.Bool.{lt-ltb}
use Rattle.reg_maps.specs.Maps.{same_text}
use Rattle.reg_maps.proofs.MapLaws.{get-inserted, get-updated}
use Rattle.reg_ranges.specs.Requirements.{is_expert_policy}
use Rattle.reg_ranges.specs.Tables.{Table, treatment_of}
use Rattle.reg_ranges.specs.declared.evidence.Evidence.{Evidence}
use Rattle.reg_ranges.specs.declared.policy.Treatment.TheVariants.{Under}
use Rattle.reg_early.specs.Calendar.{year_after}
use Rattle.reg_early.specs.Moment.{is_in_clock, utc_day}
use Rattle.reg_early.specs.Terms.{early_term, permanent_term}
use Rattle.reg_early.proofs.YearAfter.{later}
use Rattle.reg_core.specs.Award.{Allowance, AwardedEntry, awarded_entry, entry_on, renewed}
use Rattle.reg_core.specs.Allowance.{allowance_on, entry_asked, entry_asked_early, entry_kept, ground_of}
use Rattle.reg_core.specs.Entry.{registration_in, with_hold}
use Rattle.reg_core.specs.Rules.{hold_rule}
use Rattle.reg_core.specs.Run.{world_after}
use Rattle.reg_core.specs.View.{published}
use Rattle.reg_core.specs.declared.ask.CodeAsk.{CodeAsk}
use Rattle.reg_core.specs.declared.ask.EarlyAsk.{EarlyAsk}
use Rattle.reg_core.specs.declared.ask.Want.TheVariants.{Value}
use Rattle.reg_core.specs.declared.decide.Decision.TheVariants.{Make}
use Rattle.reg_core.specs.Step.{acts_as_clerk}
use Rattle.reg_core.specs.Step.{carried}
use Rattle.reg_core.specs.World.{World, Place, RequestName}
use Rattle.reg_core.specs.declared.change.Change.TheVariants as change
use Rattle.reg_core.specs.declared.entry.Registration.{Registration}
use Rattle.reg_core.proofs.KeyOrders.{place_keys}
use Rattle.reg_early.specs.DayReading.{midnight}
use Rattle.reg_import.specs.Lines.{Filing, applicant_token, entry_filing, entry_lines, expert_token, filing_lines, hold_line, hold_lines, renewal_filing, renewal_lines}
use Rattle.reg_import.specs.declared.entry.EarlyStanding.{EarlyStanding}
use Rattle.reg_import.specs.declared.entry.ListedEntry.{ListedEntry}
use Rattle.reg_import.specs.declared.entry.ListedStanding.{ListedStanding}
use Rattle.reg_import.specs.declared.entry.ListedStanding.TheVariants.{ForGood, Early}
use Rattle.reg_import.specs.declared.import.Import.{Import}
use Rattle.reg_import.specs.Imported.{AreMade, EntriesAreMade, IsNewRenewal, SameRest, events_of, registration_said}
use Rattle.reg_import.specs.WholeRegisters.{renewal_token, renewal_tokens, tokens_of}
use Rattle.reg_import.proofs.Allowed.{allowed_early, allowed_for_good, allowed_renewal}
use Rattle.reg_import.proofs.Filings.{CanFile, IsFiled, SameReviews, filed_by, other_at, other_updated}
use Rattle.reg_import.proofs.Needs.{CanMake, can_make, first_name, same_text_swapped, second_name}
use Rattle.reg_import.proofs.Renewals.{day_of_midnight, letters_differ, longer_term, no_renewal, open_day, renewal_of}
use Rattle.reg_import.proofs.RowFacts.{IsRead, read_row}
use Rattle.reg_import.proofs.Steps.{Runs, held, runs_append, runs_cons, runs_nil}

-- ---- What stays

pub same_rest : (w : World) → SameRest w w
same_rest w = record { registries = refl; pool = refl; blocks = refl; agents = refl }

pub rest_then : (w v u : World) → SameRest w v → SameRest v u → SameRest w u
rest_then w v u first second = record {
  registries = second.registries ∙ first.registries;
  pool = second.pool ∙ first.pool;
  blocks = second.blocks ∙ first.blocks;
  agents = second.agents ∙ first.agents;
}

module _ (digest_of : List ℕ → List ℕ) (w : World) (by : Import) where
  abbrev pub place_of : ListedEntry → Place
  place_of entry = (by.registry, entry.value)

  -- all else stayed that other entries need
  pub record StaysBut (entry : ListedEntry) (after : World) : Type 0 where
    pub caps : (q : List ℕ) → All (λ token. q ≢ digest_of token) (tokens_of by entry)
        → get after.caps q ≡ get w.caps q
    pub acts : (moment : ℕ) → acts_as_clerk (get w.caps (digest_of by.clerk)) moment ≡ true
        → acts_as_clerk (get after.caps (digest_of by.clerk)) moment ≡ true
    pub requests : (q : RequestName) → q ≢ first_name by entry → q ≢ second_name by entry
        → get after.requests q ≡ get w.requests q
    pub reviews : (q : RequestName) → q ≢ first_name by entry → q ≢ second_name by entry
        → SameReviews w after q

  -- an entry was put at its place, and all else that is published stayed
  pub record IsPut (entry : ListedEntry) (after : World) (a : Registration) : Type 0 where
    pub there : get after.entries (place_of entry) ≡ Some a
    pub others : (place : Place) → place ≢ place_of entry → get after.entries place ≡ get w.entries place
    pub registries : after.registries ≡ w.registries
    pub pool : after.pool ≡ w.pool
    pub blocks : after.blocks ≡ w.blocks
    pub agents : after.agents ≡ w.agents

  -- its lines lead to a world in which it is there
  pub record IsMadeIn (entry : ListedEntry) (after : World) : Type 0 where
    pub runs : Runs digest_of w (entry_lines by entry) after
    pub put : IsPut entry after (registration_said entry)
    pub stays : StaysBut entry after

  pub rest_stays : (entry : ListedEntry) (after : World) → IsMadeIn entry after → SameRest w after
  rest_stays entry after made = record {
    registries = made.put.registries;
    pool = made.put.pool;
    blocks = made.put.blocks;
    agents = made.put.agents;
  }

  made_of : (entry : ListedEntry) (after : World) → IsMadeIn entry after
      → AreMade digest_of w by entry (events_of digest_of (entry_lines by entry))
      (world_after digest_of w (events_of digest_of (entry_lines by entry)))
  made_of entry after made =
      subst (AreMade digest_of w by entry (events_of digest_of (entry_lines by entry)))
      (sym made.runs.ends) (record {
        accepted = made.runs.accepted;
        made = made.put.there;
        others = made.put.others;
        registries = made.put.registries;
        pool = made.put.pool;
        blocks = made.put.blocks;
        agents = made.put.agents;
      })

  -- ---- Its tokens

  module _ (entry : ListedEntry) (q : List ℕ)
      (apart : All (λ token. q ≢ digest_of token) (tokens_of by entry)) where
    abbrev f_of : Filing
    f_of = entry_filing by entry

    abbrev Apart : List ℕ → Type 0
    Apart token = q ≢ digest_of token

    abbrev later_tokens : List (List ℕ)
    later_tokens = renewal_tokens by entry entry.standing

    abbrev more_tokens : Bool → List (List ℕ)
    more_tokens reviewed = if reviewed then expert_token by f_of ∷ later_tokens else later_tokens

    apart_more : All Apart (more_tokens f_of.reviewed)
    apart_more = All-tail Apart (applicant_token by f_of) (more_tokens f_of.reviewed) apart

    apart_first : q ≢ digest_of (applicant_token by f_of)
    apart_first = All-head Apart (applicant_token by f_of) (more_tokens f_of.reviewed) apart

    apart_expert : f_of.reviewed ≡ true → q ≢ digest_of (expert_token by f_of)
    apart_expert is =
        All-head Apart (expert_token by f_of) later_tokens
        (subst (λ b. All Apart (more_tokens b)) is apart_more)

    apart_later : All Apart later_tokens
    apart_later = by_review f_of.reviewed apart_more
      where
        by_review : (b : Bool) → All Apart (more_tokens b) → All Apart later_tokens
        by_review true all = All-tail Apart (expert_token by f_of) later_tokens all
        by_review false all = all

  -- what a first filing leaves
  stays_filed : (entry : ListedEntry) (allowance : Allowance) (e : AwardedEntry) (after : World)
      → IsFiled digest_of by (entry_filing by entry) allowance e w after → StaysBut entry after
  stays_filed entry allowance e after filed = record {
    caps = λ q apart. filed.caps q (apart_first entry q apart) (apart_expert entry q apart);
    acts = filed.acts;
    requests = λ q first second. filed.requests q first;
    reviews = λ q first second. filed.reviews q first;
  }

  -- ---- The first filing

  module _ (entry : ListedEntry) (ready : CanMake digest_of w by entry)
      (read : IsRead by entry) where
    abbrev table : Table
    table = ready.policy.0

    defined : get w.registries by.registry ≡ Some table
    defined = ready.policy.1

    treated : treatment_of table entry.value ≡ Some (Under entry.policy)
    treated = ready.policy.2

    below : nat_lt table.max entry.value ≡ false
    below = ready.below

    abbrev f : Filing
    f = entry_filing by entry

    other_expert : is_expert_policy entry.policy ≡ true
        → same_text by.expert entry.assignee ≡ false
    other_expert is =
        let apart : same_text entry.assignee by.expert ≡ false =
        sym (ap (λ b. b && same_text entry.assignee by.expert) is) ∙ read.another in
        same_text_swapped entry.assignee by.expert apart

    pub can_file : (e : AwardedEntry)
        → allowance_on (ground_of (published w) f.ask) entry.assignee f.ask
        ≡ Ok (record { award = awarded_entry e; needs_advice = is_expert_policy entry.policy })
        → CanFile digest_of by f
        (record { award = awarded_entry e; needs_advice = is_expert_policy entry.policy }) e w
    can_file e allowed = record {
      new = ready.new;
      unqueued = λ is. ready.unreviewed.0;
      unadvised = λ is. ready.unreviewed.1;
      allowed = allowed;
      award = refl;
      needs = refl;
      other = other_expert;
    }

    -- what the first filing puts there
    pub put_first : (e : AwardedEntry) (after : World) (allowance : Allowance)
        → IsFiled digest_of by f allowance e w after → (e.registry, e.value) ≡ place_of entry
        → IsPut entry after (registration_in (entry_on (utc_day (midnight entry.first)) e))
    put_first e after allowance filed same =
        let a : Registration = registration_in (entry_on (utc_day (midnight entry.first)) e) in
        let rows = subst (λ (p : Place). after.entries ≡ insert w.entries p a) same filed.entries in
        record {
          there = ap (λ m. get m (place_of entry)) rows
              ∙ get-inserted place_keys w.entries (place_of entry) a;
          others = λ place apart. ap (λ m. get m place) rows
              ∙ other_at place_keys w.entries (place_of entry) a place apart;
          registries = filed.registries;
          pool = filed.pool;
          blocks = filed.blocks;
          agents = filed.agents;
        }

  abbrev with_standing : ListedEntry → ListedStanding → ListedEntry
  with_standing entry standing = record entry { standing = standing }

  -- ---- For good

  for_good : (entry : ListedEntry) (e : Evidence)
      → let row = with_standing entry (ForGood e) in
      CanMake digest_of w by row → IsRead by row → (after : World) × IsMadeIn row after
  for_good entry e ready read =
      let row = with_standing entry (ForGood e) in
      let asked : CodeAsk = record {
        registry = by.registry;
        want = Value entry.value;
        label = entry.label;
        evidence = e;
      } in
      let given = entry_asked entry.assignee asked entry.value in
      let allowed = allowed_for_good w entry.assignee by.registry entry.value
      (table row ready read) entry.policy (defined row ready read) (treated row ready read)
      (below row ready read) entry.label e read.shown ready.free in
      let can = can_file row ready read given allowed in
      let filed = filed_by digest_of by (entry_filing by row) _ given w can in
      let runs = runs_append digest_of w filed.0 filed.0 (filing_lines by (entry_filing by row)) []
      filed.1.runs (runs_nil digest_of filed.0) in (
        filed.0,
        record {
          runs = runs;
          put = subst (λ day. IsPut row filed.0 (record {
            label = entry.label;
            assignee = entry.assignee;
            term = permanent_term day;
          })) (day_of_midnight entry.first)
              (put_first row ready read given filed.0 _ filed.1 refl);
          stays = stays_filed row _ given filed.0 filed.1;
        },
      )

  -- ---- Early allocations

  module _ (entry : ListedEntry) (st : EarlyStanding)
      (ready : CanMake digest_of w by (record entry { standing = Early st }))
      (read : IsRead by (record entry { standing = Early st })) where
    abbrev row : ListedEntry
    row = with_standing entry (Early st)

    abbrev place : Place
    place = place_of row

    -- the entry as it is allocated, and with its hold
    abbrev allocated : Bool → Registration
    allocated held =
        record {
          label = entry.label;
          assignee = entry.assignee;
          term = record {
            first = entry.first;
            expires = Some (year_after entry.first);
            renewed = false;
            held = held;
          };
        }

    abbrev asked : EarlyAsk
    asked = record {
      registry = by.registry;
      want = Value entry.value;
      label = entry.label;
      evidence = st.evidence;
    }

    abbrev given : AwardedEntry
    given = entry_asked_early entry.assignee asked entry.value

    abbrev allowance : Allowance
    allowance = record { award = awarded_entry given; needs_advice = is_expert_policy entry.policy }

    abbrev filed : (after : World) × IsFiled digest_of by (entry_filing by row) allowance given w after
    filed =
        filed_by digest_of by (entry_filing by row) allowance given w
        (can_file row ready read given
        (allowed_early w entry.assignee by.registry entry.value (table row ready read) entry.policy
        (defined row ready read) (treated row ready read) (below row ready read) entry.label
        st.evidence read.shown.0 ready.free))

    abbrev first_world : World
    first_world = filed.0

    is_filed : IsFiled digest_of by (entry_filing by row) allowance given w first_world
    is_filed = filed.1

    put : IsPut row first_world (allocated false)
    put = subst (λ day. IsPut row first_world (record {
      label = entry.label;
      assignee = entry.assignee;
      term = early_term day;
    })) (day_of_midnight entry.first)
        (put_first row ready read given first_world allowance is_filed refl)

    clock : is_in_clock (midnight entry.first) ≡ true
    clock = first_so (is_in_clock (midnight entry.first)) _ ready.new.clerk

    sooner : nat_lt entry.first (year_after entry.first) ≡ true
    sooner =
        let open_first = open_day entry.first clock in
        lt-ltb entry.first (year_after entry.first)
        (later entry.first (omega arith, omega arith) (omega arith))

    -- the entry is held, where the row says so
    record IsHeld (mark : Bool) (after : World) : Type 0 where
      runs : Runs digest_of first_world (hold_lines by row mark) after
      held_put : IsPut row after (allocated mark)
      caps : after.caps ≡ first_world.caps
      requests : after.requests ≡ first_world.requests
      queue : after.queue ≡ first_world.queue
      advice : after.advice ≡ first_world.advice

    abbrev held_world : World
    held_world = carried first_world (Some (digest_of by.clerk)) (midnight entry.first)
        (Some (change.SetHold by.registry entry.value true))

    holds : IsHeld true held_world
    holds =
        let may : hold_rule (by.registry, entry.value) true (allocated false).term
        (utc_day (midnight entry.first)) ≡ Ok (Make (change.SetHold by.registry entry.value true)) =
        rw (day_of_midnight entry.first, sooner) refl in
        let does = held digest_of first_world (digest_of by.clerk) (midnight entry.first) by.registry
        entry.value (table row ready read) (allocated false)
        (is_filed.acts (midnight entry.first) ready.new.clerk)
        (ap (λ m. get m by.registry) put.registries ∙ defined row ready read) put.there may in
        record {
          runs = runs_cons digest_of first_world held_world (hold_line by row) []
              (change.SetHold by.registry entry.value true) does (runs_nil digest_of held_world);
          held_put = record {
            there = get-updated place_keys first_world.entries place (with_hold true)
                ∙ ap (option_map (with_hold true)) put.there;
            others = λ q apart.
                other_updated place_keys first_world.entries place (with_hold true) q apart
                ∙ put.others q apart;
            registries = put.registries;
            pool = put.pool;
            blocks = put.blocks;
            agents = put.agents;
          };
          caps = refl;
          requests = refl;
          queue = refl;
          advice = refl;
        }

    hold_it : (mark : Bool) → (after : World) × IsHeld mark after
    hold_it true = (held_world, holds)
    hold_it false = (
      first_world,
      record {
        runs = runs_nil digest_of first_world;
        held_put = put;
        caps = refl;
        requests = refl;
        queue = refl;
        advice = refl;
      },
    )

    abbrev second_world : World
    second_world = (hold_it st.held).0

    is_held : IsHeld st.held second_world
    is_held = (hold_it st.held).1

    -- what stayed so far
    stays_held : StaysBut row second_world
    stays_held =
        let first = stays_filed row allowance given first_world is_filed in
        record {
          caps = λ q apart. ap (λ m. get m q) is_held.caps ∙ first.caps q apart;
          acts = λ moment acts.
              subst (λ m. acts_as_clerk (get m (digest_of by.clerk)) moment ≡ true)
              (sym is_held.caps) (first.acts moment acts);
          requests = λ q one two. ap (λ m. get m q) is_held.requests ∙ first.requests q one two;
          reviews = λ q one two expert. (
            ap (λ m. get m (q, expert)) is_held.queue ∙ (first.reviews q one two expert).0,
            ap (λ m. get m (q, expert)) is_held.advice ∙ (first.reviews q one two expert).1,
          );
        }

    -- the term that a row says, by its parts
    abbrev said_by : ℕ → Option ℕ → Registration
    said_by expires renewal =
        record {
          label = entry.label;
          assignee = entry.assignee;
          term = record {
            first = entry.first;
            expires = Some expires;
            renewed = is_some renewal;
            held = st.held;
          };
        }

    -- and it is renewed, where the row says so
    record IsRenewed (after : World) : Type 0 where
      runs : Runs digest_of second_world (renewal_lines by row st st.renewal) after
      last_put : IsPut row after (registration_said row)
      last_stays : StaysBut row after

    not_renewed : st.renewal ≡ None → IsRenewed second_world
    not_renewed is =
        let ends = no_renewal entry.first st.expires (read.shown.1 ∙ ap Ok is) in
        let same : allocated st.held ≡ said_by st.expires st.renewal =
        ap (λ day. said_by day None) ends ∙ ap (said_by st.expires) (sym is) in
        record {
          runs = subst (λ o. Runs digest_of second_world (renewal_lines by row st o) second_world)
              (sym is) (runs_nil digest_of second_world);
          last_put = subst (IsPut row second_world) same is_held.held_put;
          last_stays = stays_held;
        }

    module _ (day : ℕ) (is : st.renewal ≡ Some day) where
      abbrev again : Filing
      again = renewal_filing by row st day

      new_again : IsNewRenewal digest_of w by row st day
      new_again = ready.renewal day is

      abbrev kept : AwardedEntry
      kept = entry_kept by.registry entry.value (allocated st.held) (renewed (allocated st.held).term)

      abbrev allowance_again : Allowance
      allowance_again = record { award = awarded_entry kept; needs_advice = false }

      -- its reference is another
      other_name : ◌≢◌ {A = RequestName} (entry.assignee, again.reference)
          (entry.assignee, (entry_filing by row).reference)
      other_name same =
          letters_differ (ap (λ (n : RequestName). get_or n.1 0 0) same)

      can_again : CanFile digest_of by again allowance_again kept second_world
      can_again = record {
        new = record {
          clerk = subst (λ m. acts_as_clerk (get m (digest_of by.clerk)) again.moment ≡ true)
              (sym is_held.caps) (is_filed.acts again.moment new_again.new.clerk);
          applicant = ap (λ m. get m (digest_of (applicant_token by again))) is_held.caps
              ∙ is_filed.caps (digest_of (applicant_token by again)) new_again.other
              new_again.another ∙ new_again.new.applicant;
          expert = λ reviewed. absurd (cc);
          apart = λ reviewed. absurd (cc);
          reference = ap (λ m. get m (entry.assignee, again.reference)) is_held.requests
              ∙ is_filed.requests (entry.assignee, again.reference) other_name
              ∙ new_again.new.reference;
        };
        unqueued = λ reviewed. absurd (cc);
        unadvised = λ reviewed. absurd (cc);
        allowed = allowed_renewal second_world entry.assignee by.registry entry.value
            (table row ready read) entry.policy
            (ap (λ m. get m by.registry) is_held.held_put.registries ∙ defined row ready read)
            (treated row ready read) (below row ready read) entry.label entry.first
            (year_after entry.first) st.held st.evidence read.shown.0 is_held.held_put.there;
        award = refl;
        needs = refl;
        other = λ reviewed. absurd (cc);
      }

      filed_again : (after : World)
          × IsFiled digest_of by again allowance_again kept second_world after
      filed_again = filed_by digest_of by again allowance_again kept second_world can_again

      abbrev last_world : World
      last_world = filed_again.0

      abbrev last_entry : Registration
      last_entry = registration_in (entry_on (utc_day (midnight day)) kept)

      said_last : last_entry ≡ registration_said row
      said_last =
          let renews = renewal_of entry.first st.expires day (read.shown.1 ∙ ap Ok is) in
          let longer : max (year_after entry.first) day ≡ day = longer_term _ day renews.late in
          ap (λ d. said_by (year_after (max (year_after entry.first) d)) (Some day))
          (day_of_midnight day)
          ∙ ap (λ d. said_by (year_after d) (Some day)) longer
          ∙ ap (λ d. said_by d (Some day)) renews.ends
          ∙ ap (said_by st.expires) (sym is)

      is_renewed : IsRenewed last_world
      is_renewed = record {
        runs = subst (λ o. Runs digest_of second_world (renewal_lines by row st o) last_world)
            (sym is) filed_again.1.runs;
        last_put = subst (IsPut row last_world) said_last (record {
          there = ap (λ m. get m place) filed_again.1.entries
              ∙ get-inserted place_keys second_world.entries place last_entry;
          others = λ q apart. ap (λ m. get m q) filed_again.1.entries
              ∙ other_at place_keys second_world.entries place last_entry q apart
              ∙ is_held.held_put.others q apart;
          registries = filed_again.1.registries ∙ is_held.held_put.registries;
          pool = filed_again.1.pool ∙ is_held.held_put.pool;
          blocks = filed_again.1.blocks ∙ is_held.held_put.blocks;
          agents = filed_again.1.agents ∙ is_held.held_put.agents;
        });
        last_stays = record {
          caps = λ q apart.
              filed_again.1.caps q (apart_again q apart) (λ reviewed. absurd (cc))
              ∙ stays_held.caps q apart;
          acts = λ moment acts. filed_again.1.acts moment (stays_held.acts moment acts);
          requests = λ q one two. filed_again.1.requests q two ∙ stays_held.requests q one two;
          reviews = λ q one two expert. (
            (filed_again.1.reviews q two expert).0 ∙ (stays_held.reviews q one two expert).0,
            (filed_again.1.reviews q two expert).1 ∙ (stays_held.reviews q one two expert).1,
          );
        };
      }
        where
          apart_again : (q : List ℕ) → All (λ token. q ≢ digest_of token) (tokens_of by row)
              → q ≢ digest_of (applicant_token by again)
          apart_again q apart =
              All-head (λ token. q ≢ digest_of token) (applicant_token by again) []
              (subst (λ o. All (λ token. q ≢ digest_of token) (renewal_token by row st o)) is
              (apart_later row q apart))

    renew_it : (after : World) × IsRenewed after
    renew_it = by_renewal st.renewal refl
      where
        by_renewal : (o : Option ℕ) → st.renewal ≡ o → (after : World) × IsRenewed after
        by_renewal None is = (second_world, not_renewed is)
        by_renewal (Some day) is = (last_world day is, is_renewed day is)

    early : (after : World) × IsMadeIn row after
    early =
        let last = renew_it in
        let runs = runs_append digest_of w first_world last.0 (filing_lines by (entry_filing by row))
        (hold_lines by row st.held ++ renewal_lines by row st st.renewal) is_filed.runs
        (runs_append digest_of first_world second_world last.0 (hold_lines by row st.held)
        (renewal_lines by row st st.renewal) is_held.runs last.1.runs) in (
          last.0,
          record { runs = runs; put = last.1.last_put; stays = last.1.last_stays },
        )

  -- ---- An entry

  abbrev IsMade : ListedEntry → Type 0
  IsMade entry =
      CanMake digest_of w by entry → IsRead by entry → (after : World) × IsMadeIn entry after

  pub entry_is_made : (entry : ListedEntry) → IsMade entry
  entry_is_made entry = by_standing entry.standing refl
    where
      by_standing : (s : ListedStanding) → entry.standing ≡ s → IsMade entry
      by_standing (ForGood e) is =
          subst IsMade (ap (with_standing entry) (sym is)) (for_good entry e)
      by_standing (Early st) is =
          subst IsMade (ap (with_standing entry) (sym is)) (early entry st)

pub entries_made : (digest_of : List ℕ → List ℕ) → EntriesAreMade digest_of
entries_made digest_of w by header row entry read ready =
    let made = entry_is_made digest_of w by entry (can_make digest_of w by entry ready)
    (read_row by header row entry read) in
    made_of digest_of w by entry made.0 made.1
