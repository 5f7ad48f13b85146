-- A filing of an import: its lines are accepted, and give what its request is allowed.
use Rattle.std.proofs.Common.{◌≡◌, ◌∙◌, ℕ, Bool, true, false, cond, List, [], ◌∷◌, refl, sym, ap, subst}
use Rattle.std.specs.Prelude.{◌≢◌, ◌&&◌, not, Option, Some, None, Ok, is_some, option_map}
use Rattle.std.specs.Cmp.{first_so, second_so}
use Rattle.std.specs.declared.cmp.Ordering.{Ordering}
use Rattle.std.specs.FinMap.{FinMap, get, insert}
use Rattle.std.specs.Ordering.{eq_by_cmp}
use Rattle.reg_maps.specs.Maps.{same_text, text_cmp, update}
use Rattle.reg_maps.proofs.MapLaws.{IsKeyOrder, get-at_insert, get-inserted, get-update, text_keys, tied}
use Rattle.reg_early.specs.Moment.{is_in_clock, utc_day}
use Rattle.reg_core.specs.Allowance.{allowance_on, ground_of}
use Rattle.reg_core.specs.Award.{Allowance, Award, AwardedEntry, awarded_entry, entry_on}
use Rattle.reg_core.specs.Entry.{registration_in}
use Rattle.reg_core.specs.File.{was_advised}
use Rattle.reg_core.specs.Rules.{change_to_give}
use Rattle.reg_core.specs.Step.{acts_as_clerk, is_clerk}
use Rattle.reg_core.specs.View.{published}
use Rattle.reg_core.specs.Step.{carried}
use Rattle.reg_core.specs.World.{World, RequestName, Seat, pending}
use Rattle.reg_core.specs.declared.capability.Cap.{Cap}
use Rattle.reg_core.specs.declared.capability.Kind.TheVariants.{Applicant, Expert}
use Rattle.reg_core.specs.declared.change.Change.TheVariants as change
use Rattle.reg_core.proofs.KeyOrders.{name_keys, seat_keys}
use Rattle.reg_core.proofs.Files.{advised_is}
use Rattle.reg_import.specs.Lines.{Filing, advice_line, applicant_token, approval_line, assignment_line, expert_token, filing_lines, grant_line, submission_line}
use Rattle.reg_import.specs.declared.import.Import.{Import}
use Rattle.reg_import.specs.Imported.{FilingIsNew, imported}
use Rattle.reg_import.proofs.Steps.{LineDoes, Runs, advised, applicant_cap, approved, assigned, expert_cap, granted, runs_cons, runs_nil, submitted}

-- ---- Rows of maps

module _ {K X : Type 0} {R : K → K → Ordering} (o : IsKeyOrder R) where
  -- a row at another key stays
  pub other_at : (m : FinMap R X) (k : K) (v : X) (q : K) → q ≢ k
      → get (insert m k v) q ≡ get m q
  other_at m k v q apart = get-at_insert o m k v q ∙ by (eq_by_cmp R q k) refl
    where
      by : (b : Bool) → eq_by_cmp R q k ≡ b → cond b (Some v) (get m q) ≡ get m q
      by true is = absurd (apart (tied o q k is))
      by false is = refl

  pub other_updated : (m : FinMap R X) (k : K) (f : X → X) (q : K) → q ≢ k
      → get (update m k f) q ≡ get m q
  other_updated m k f q apart = get-update o m k f q ∙ by (eq_by_cmp R q k) refl
    where
      by : (b : Bool) → eq_by_cmp R q k ≡ b → cond b (option_map f (get m k)) (get m q) ≡ get m q
      by true is = absurd (apart (tied o q k is))
      by false is = refl

-- where nobody is, no clerk acts
nobody_acts : (moment : ℕ) → acts_as_clerk None moment ≡ true → ⊥
nobody_acts moment h = absurd (let no = second_so (is_in_clock moment) (is_clerk None moment) h in cc)

-- a clerk still acts once a token that nobody had is granted
pub acts_on : (m : FinMap text_cmp Cap) (k : List ℕ) (v : Cap) (q : List ℕ) (moment : ℕ)
    → get m k ≡ None → acts_as_clerk (get m q) moment ≡ true
    → acts_as_clerk (get (insert m k v) q) moment ≡ true
acts_on m k v q moment free acts =
    let apart : q ≢ k = λ same.
    let none : get m q ≡ None = ap (get m) same ∙ free in
    nobody_acts moment (subst (λ (c : Option Cap). acts_as_clerk c moment ≡ true) none acts) in
    subst (λ (c : Option Cap). acts_as_clerk c moment ≡ true)
    (sym (other_at text_keys m k v q apart)) acts

-- a request has the same experts and the same advice in both worlds
abbrev pub SameReviews : World → World → RequestName → Type 0
SameReviews w v name =
    (expert : List ℕ) → (get v.queue (name, expert) ≡ get w.queue (name, expert))
    × (get v.advice (name, expert) ≡ get w.advice (name, expert))

module _ (digest_of : List ℕ → List ℕ) (by : Import) (f : Filing) (allowance : Allowance)
    (e : AwardedEntry) where
  abbrev name : RequestName
  name = (f.account, f.reference)

  abbrev clerk : List ℕ
  clerk = digest_of by.clerk

  abbrev first_digest : List ℕ
  first_digest = digest_of (applicant_token by f)

  abbrev second_digest : List ℕ
  second_digest = digest_of (expert_token by f)

  -- what the lines need of an office
  pub record CanFile (w : World) : Type 0 where
    pub new : FilingIsNew digest_of w by f
    pub unqueued : f.reviewed ≡ true → get w.queue (name, by.expert) ≡ None
    pub unadvised : f.reviewed ≡ true → get w.advice (name, by.expert) ≡ None
    pub allowed : allowance_on (ground_of (published w) f.ask) f.account f.ask ≡ Ok allowance
    pub award : allowance.award ≡ awarded_entry e
    pub needs : allowance.needs_advice ≡ f.reviewed
    pub other : f.reviewed ≡ true → same_text by.expert f.account ≡ false

  -- what they come to
  pub record IsFiled (w after : World) : Type 0 where
    pub runs : Runs digest_of w (filing_lines by f) after
    pub entries : after.entries ≡ insert w.entries (e.registry, e.value)
        (registration_in (entry_on (utc_day f.moment) e))
    pub registries : after.registries ≡ w.registries
    pub pool : after.pool ≡ w.pool
    pub blocks : after.blocks ≡ w.blocks
    pub agents : after.agents ≡ w.agents
    pub caps : (q : List ℕ) → q ≢ first_digest → (f.reviewed ≡ true → q ≢ second_digest)
        → get after.caps q ≡ get w.caps q
    pub acts : (moment : ℕ) → acts_as_clerk (get w.caps clerk) moment ≡ true
        → acts_as_clerk (get after.caps clerk) moment ≡ true
    pub requests : (q : RequestName) → q ≢ name → get after.requests q ≡ get w.requests q
    pub reviews : (q : RequestName) → q ≢ name → SameReviews w after q

  -- the worlds between the lines
  abbrev granted_to : World → World
  granted_to w = carried w (Some clerk) f.moment
      (Some (change.Grant first_digest (applicant_cap f.account f.moment)))

  abbrev filed_in : World → World
  filed_in w = carried (granted_to w) (Some first_digest) f.moment
      (Some (change.Submit f.account f.reference f.ask))

  abbrev assigned_in : World → World
  assigned_in w = carried (filed_in w) (Some clerk) f.moment
      (Some (change.Assign f.account f.reference by.expert))

  abbrev expert_in : World → World
  expert_in w =
      carried (assigned_in w) (Some clerk) f.moment
      (Some (change.Grant second_digest (expert_cap by.expert f.moment)))

  abbrev advised_in : World → World
  advised_in w =
      carried (expert_in w) (Some second_digest) f.moment
      (Some (change.Advise f.account f.reference by.expert imported))

  abbrev given_in : World → World
  given_in w =
      carried w (Some clerk) f.moment
      (Some (change.GiveValue f.account f.reference (entry_on (utc_day f.moment) e)))

  module _ (w : World) (can : CanFile w) where
    clock : is_in_clock f.moment ≡ true
    clock = first_so (is_in_clock f.moment) (is_clerk (get w.caps clerk) f.moment) can.new.clerk

    acts_first : (moment : ℕ) → acts_as_clerk (get w.caps clerk) moment ≡ true
        → acts_as_clerk (get (granted_to w).caps clerk) moment ≡ true
    acts_first moment h = acts_on w.caps first_digest (applicant_cap f.account f.moment) clerk moment
        can.new.applicant h

    second_free : f.reviewed ≡ true → get (granted_to w).caps second_digest ≡ None
    second_free is = other_at text_keys w.caps first_digest (applicant_cap f.account f.moment)
        second_digest (can.new.apart is) ∙ can.new.expert is

    acts_second : f.reviewed ≡ true → (moment : ℕ) → acts_as_clerk (get w.caps clerk) moment ≡ true
        → acts_as_clerk (get (expert_in w).caps clerk) moment ≡ true
    acts_second is moment h = acts_on (granted_to w).caps second_digest
        (expert_cap by.expert f.moment) clerk moment (second_free is) (acts_first moment h)

    filed : get (filed_in w).requests name ≡ Some (pending f.ask)
    filed = get-inserted name_keys w.requests name (pending f.ask)

    first_line : LineDoes digest_of w (grant_line by f (applicant_token by f) f.account Applicant)
        (change.Grant first_digest (applicant_cap f.account f.moment))
    first_line = granted digest_of w clerk f.moment (applicant_token by f)
        (applicant_cap f.account f.moment) can.new.clerk can.new.applicant

    second_line : LineDoes digest_of (granted_to w) (submission_line f (applicant_token by f))
        (change.Submit f.account f.reference f.ask)
    second_line = submitted digest_of (granted_to w) first_digest f.moment f.account f.reference f.ask
        allowance clock
        (get-inserted text_keys w.caps first_digest (applicant_cap f.account f.moment))
        can.new.reference can.allowed

    -- the last line, from a world that has the request, and still what it was allowed by
    last_line : (v : World) → acts_as_clerk (get v.caps clerk) f.moment ≡ true
        → get v.requests name ≡ Some (pending f.ask) → published v ≡ published w
        → (f.reviewed && not (was_advised v name)) ≡ false
        → Runs digest_of v (approval_line by f ∷ []) (given_in v)
    last_line v acts there same reviewed =
        let allowed : allowance_on (ground_of (published v) f.ask) f.account f.ask ≡ Ok allowance =
        ap (λ p. allowance_on (ground_of p f.ask) f.account f.ask) same ∙ can.allowed in
        let need : (allowance.needs_advice && not (was_advised v name)) ≡ false =
        ap (λ b. b && not (was_advised v name)) can.needs ∙ reviewed in
        let does = approved digest_of v clerk f.moment f.account f.reference f.ask allowance acts there
        allowed need in
        let given = subst (λ (a : Award). LineDoes digest_of v (approval_line by f)
        (change_to_give name (utc_day f.moment) a)) can.award does in
        runs_cons digest_of v (given_in v) (approval_line by f) []
        (change.GiveValue f.account f.reference (entry_on (utc_day f.moment) e)) given
        (runs_nil digest_of (given_in v))

    plain_lines : f.reviewed ≡ false → filing_lines by f
        ≡ grant_line by f (applicant_token by f) f.account Applicant
        ∷ submission_line f (applicant_token by f) ∷ approval_line by f ∷ []
    plain_lines is = rw is refl

    full_lines : f.reviewed ≡ true → filing_lines by f
        ≡ grant_line by f (applicant_token by f) f.account Applicant
        ∷ submission_line f (applicant_token by f) ∷ assignment_line by f
        ∷ grant_line by f (expert_token by f) by.expert Expert ∷ advice_line f (expert_token by f)
        ∷ approval_line by f ∷ []
    full_lines is = rw is refl

    other_cap : (q : List ℕ) → q ≢ first_digest → get (granted_to w).caps q ≡ get w.caps q
    other_cap q apart =
        other_at text_keys w.caps first_digest (applicant_cap f.account f.moment) q apart

    other_request : (q : RequestName) → q ≢ name
        → get (given_in (filed_in w)).requests q ≡ get w.requests q
    other_request q apart =
        other_updated name_keys (filed_in w).requests name _ q apart
        ∙ other_at name_keys w.requests name (pending f.ask) q apart

    -- a request that no expert looks at
    plain : f.reviewed ≡ false → IsFiled w (given_in (filed_in w))
    plain is = record {
      runs = subst (λ ls. Runs digest_of w ls (given_in (filed_in w))) (sym (plain_lines is))
          (runs_cons digest_of w (given_in (filed_in w)) _ _ _ first_line
          (runs_cons digest_of (granted_to w) (given_in (filed_in w)) _ _ _ second_line
          (last_line (filed_in w) (acts_first f.moment can.new.clerk) filed refl (rw is refl))));
      entries = refl;
      registries = refl;
      pool = refl;
      blocks = refl;
      agents = refl;
      caps = λ q first second. other_cap q first;
      acts = acts_first;
      requests = other_request;
      reviews = λ q apart expert. (refl, refl);
    }

    other_seat : (q : RequestName) (expert : List ℕ) → q ≢ name
        → ◌≢◌ {A = Seat} (q, expert) (name, by.expert)
    other_seat q expert apart same = apart (ap (λ (s : Seat). s.0) same)

    third_line : f.reviewed ≡ true → LineDoes digest_of (filed_in w) (assignment_line by f)
        (change.Assign f.account f.reference by.expert)
    third_line is = assigned digest_of (filed_in w) clerk f.moment f.account f.reference by.expert f.ask
        (acts_first f.moment can.new.clerk) filed (can.unqueued is) (can.other is)

    fourth_line : f.reviewed ≡ true → LineDoes digest_of (assigned_in w)
        (grant_line by f (expert_token by f) by.expert Expert)
        (change.Grant second_digest (expert_cap by.expert f.moment))
    fourth_line is = granted digest_of (assigned_in w) clerk f.moment (expert_token by f)
        (expert_cap by.expert f.moment) (acts_first f.moment can.new.clerk) (second_free is)

    fifth_line : f.reviewed ≡ true → LineDoes digest_of (expert_in w) (advice_line f (expert_token by f))
        (change.Advise f.account f.reference by.expert imported)
    fifth_line is = advised digest_of (expert_in w) second_digest f.moment f.account f.reference by.expert
        f.ask clock
        (get-inserted text_keys (granted_to w).caps second_digest (expert_cap by.expert f.moment))
        filed (get-inserted seat_keys w.queue (name, by.expert) tt) (can.unadvised is)

    is_advised : was_advised (advised_in w) name ≡ true
    is_advised = advised_is (advised_in w) name (
      by.expert,
      ap is_some (get-inserted seat_keys w.queue (name, by.expert) tt),
      imported,
      get-inserted seat_keys w.advice (name, by.expert) imported,
      refl,
    )

    -- one that the expert looks at
    full : f.reviewed ≡ true → IsFiled w (given_in (advised_in w))
    full is = record {
      runs = subst (λ ls. Runs digest_of w ls (given_in (advised_in w))) (sym (full_lines is))
          (runs_cons digest_of w (given_in (advised_in w)) _ _ _ first_line
          (runs_cons digest_of (granted_to w) (given_in (advised_in w)) _ _ _ second_line
          (runs_cons digest_of (filed_in w) (given_in (advised_in w)) _ _ _ (third_line is)
          (runs_cons digest_of (assigned_in w) (given_in (advised_in w)) _ _ _ (fourth_line is)
          (runs_cons digest_of (expert_in w) (given_in (advised_in w)) _ _ _ (fifth_line is)
          (last_line (advised_in w) (acts_second is f.moment can.new.clerk) filed refl
          (rw (is, is_advised) refl)))))));
      entries = refl;
      registries = refl;
      pool = refl;
      blocks = refl;
      agents = refl;
      caps = λ q first second.
          other_at text_keys (granted_to w).caps second_digest (expert_cap by.expert f.moment) q (second is)
          ∙ other_cap q first;
      acts = acts_second is;
      requests = other_request;
      reviews = λ q apart expert. (
        other_at seat_keys w.queue (name, by.expert) tt (q, expert) (other_seat q expert apart),
        other_at seat_keys w.advice (name, by.expert) imported (q, expert)
            (other_seat q expert apart),
      );
    }

    -- the lines of a filing are accepted, and give what its request is allowed
    pub filed_by : (after : World) × IsFiled w after
    filed_by = by_review f.reviewed refl
      where
        by_review : (b : Bool) → f.reviewed ≡ b → (after : World) × IsFiled w after
        by_review true is = (given_in (advised_in w), full is)
        by_review false is = (given_in (filed_in w), plain is)
