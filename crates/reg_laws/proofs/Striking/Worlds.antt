-- Two worlds that agree but for hidden requests: after the same change of both, and after a change
-- of a hidden request in the first.
use Rattle.std.proofs.Common.{◌≡◌, Bool, true, false, cond, ◌&&◌, not, List, [], ◌∷◌, map, ℕ, refl, sym, ap, ◌∙◌}
use Rattle.std.specs.Prelude.{Option, Some, None}
use Rattle.reg_core.proofs.Common.{eq_by_cmp, both_true, both_ways, same_text, tied, get-at_insert}
use Rattle.reg_core.proofs.Common.{registration_in, same_name, holder_in, reveals_if, is_hidden, World}
use Rattle.reg_core.proofs.Common.{RequestName, name_cmp, Place, Seat, seat_cmp, Link, link_cmp}
use Rattle.reg_core.proofs.Common.{in_state, pending, applied, recorded_if, act_by, acts_of, deeds_of}
use Rattle.reg_core.proofs.Common.{with_acts, acts_without, is_seen}
use Rattle.reg_core.proofs.Journals.{AreAbout, deeds_about}
use Rattle.reg_laws.proofs.Types.{Act, Advice, Change, Case, Deed, Stamp}
use Rattle.reg_core.proofs.Common.{name_keys, seat_keys, link_keys, same_text-itself}
use Rattle.reg_laws.proofs.Types.{Approved}
use Rattle.std.specs.FinMap as map
use Rattle.std.specs.FinMap.{FinMap, get, insert, contains_key}
use Rattle.std.specs.FinSet.{FinSet}
use Rattle.reg_maps.proofs.HiddenKeys.{AgreeBut, both_insert, both_update, one_insert, one_update}
use Rattle.reg_core.specs.declared.change.Change.TheVariants.{Submit, Close, Assign, Advise, GiveValue, GiveBlock, SetAgent}
use Rattle.reg_core.specs.declared.request.Given.TheVariants.{Value, Block}
use Rattle.reg_core.proofs.Files.{same_name-itself}
use Rattle.reg_laws.proofs.Agents.{there_after}
use Rattle.reg_core.proofs.Outcomes.Dues.{change_about}

-- the rows of a hidden request: its own, and those of its experts and of their advice
abbrev pub at_seat : (RequestName → Bool) → Seat → Bool
at_seat hidden seat = hidden seat.0

-- a world with the requests of another one, with what its experts have of them, and with its journal
abbrev pub with_requests_of : World → World → World
with_requests_of w v = record v {
  requests = w.requests;
  queue = w.queue;
  advice = w.advice;
  journal = w.journal;
}

abbrev without_requests : World → World
without_requests w = record w {
  requests = map.empty;
  queue = map.empty;
  advice = map.empty;
  journal = [];
}

pub record Agree (hidden : RequestName → Bool) (w v : World) : Type 0 where
  pub rest : without_requests w ≡ without_requests v
  pub requests : AgreeBut hidden w.requests v.requests
  pub queue : AgreeBut (at_seat hidden) w.queue v.queue
  pub advice : AgreeBut (at_seat hidden) w.advice v.advice
  pub acts : acts_without hidden w.journal ≡ acts_without hidden v.journal

pub agree_itself : (hidden : RequestName → Bool) (w : World) → Agree hidden w w
agree_itself hidden w =
    let same : AgreeBut (at_seat hidden) w.queue w.queue = λ seat h. refl in
    record {
      rest = refl;
      requests = λ name h. refl;
      queue = same;
      advice = λ seat h. refl;
      acts = refl;
    }

-- so the first is the second but for the requests
pub agree_rest : {hidden : RequestName → Bool} {w v : World} → Agree hidden w v
    → with_requests_of w v ≡ w
agree_rest {w = w} a =
    sym (λ i. record (a.rest i) {
      requests = w.requests;
      queue = w.queue;
      advice = w.advice;
      journal = w.journal;
    })

-- ---- Acts

-- what is seen of a journal after acts is what is seen of these, after what is seen of it
seen_with : (hidden : RequestName → Bool) (acts journal : List Act)
    → acts_without hidden (with_acts acts journal)
    ≡ with_acts (acts_without hidden acts) (acts_without hidden journal)
seen_with hidden [] journal = refl
seen_with hidden (act ∷ acts) journal =
    seen_with hidden acts (act ∷ journal) ∙ by (is_seen hidden act)
  where
    seen : List Act
    seen = acts_without hidden acts

    old : List Act
    old = acts_without hidden journal

    by : (b : Bool)
        → with_acts seen (cond b (act ∷ old) old) ≡ with_acts (cond b (act ∷ seen) seen) old
    by true = refl
    by false = refl

-- of acts that are about a hidden request none is seen
none_seen : (hidden : RequestName → Bool) (stamp : Stamp) (about : Option RequestName)
    → is_hidden hidden about ≡ true → (deeds : List Deed) → AreAbout about deeds
    → acts_without hidden (map (act_by stamp) deeds) ≡ []
none_seen hidden stamp about h [] all = refl
none_seen hidden stamp about h (deed ∷ deeds) all =
    let rest = acts_without hidden (map (act_by stamp) deeds) in
    ap (λ b. cond (not b) (act_by stamp deed ∷ rest) rest) (ap (is_hidden hidden) all.0 ∙ h)
    ∙ none_seen hidden stamp about h deeds all.1

-- ---- Changes of requests

-- the change shows the account no hidden request
abbrev pub IsQuiet : List ℕ → (RequestName → Bool) → Option Change → Type 0
IsQuiet account hidden made =
    (name : RequestName) → hidden name ≡ true → reveals_if account name made ≡ false

-- what is made, if anything, is of a hidden request; or of none
abbrev pub IsOfHidden : Bool → (RequestName → Bool) → Option Change → Type 0
IsOfHidden b hidden made =
    (change : Change) → made ≡ Some change → is_hidden hidden (change_about change) ≡ b

module _ (hidden : RequestName → Bool) (w v : World) (a : Agree hidden w v) where
  requests_set : (m n : FinMap name_cmp Case) → AgreeBut hidden m n
      → Agree hidden (record w { requests = m }) (record v { requests = n })
  requests_set m n same =
      record {
        rest = a.rest;
        requests = same;
        queue = a.queue;
        advice = a.advice;
        acts = a.acts;
      }

  queue_set : (m n : FinSet seat_cmp) → AgreeBut (at_seat hidden) m n
      → Agree hidden (record w { queue = m }) (record v { queue = n })
  queue_set m n same =
      record {
        rest = a.rest;
        requests = a.requests;
        queue = same;
        advice = a.advice;
        acts = a.acts;
      }

  advice_set : (m n : FinMap seat_cmp Advice) → AgreeBut (at_seat hidden) m n
      → Agree hidden (record w { advice = m }) (record v { advice = n })
  advice_set m n same =
      record {
        rest = a.rest;
        requests = a.requests;
        queue = a.queue;
        advice = same;
        acts = a.acts;
      }

  -- of both worlds
  agree_both : (change : Change) → Agree hidden (applied w change) (applied v change)
  agree_both (Submit account reference ask) =
      requests_set _ _
      (both_insert name_keys hidden _ _ a.requests (account, reference) (pending ask))
  agree_both (Close account reference state) =
      requests_set _ _
      (both_update name_keys hidden _ _ a.requests (account, reference) (in_state state))
  agree_both (Assign account reference expert) =
      queue_set _ _
      (both_insert seat_keys (at_seat hidden) _ _ a.queue ((account, reference), expert) tt)
  agree_both (Advise account reference expert advice) =
      advice_set _ _
      (both_insert seat_keys (at_seat hidden) _ _ a.advice ((account, reference), expert) advice)
  agree_both (GiveValue account reference entry) =
      let place : Place = (entry.registry, entry.value) in
      let there = registration_in entry in
      let new = λ (x : World). record x { entries = insert x.entries place there } in
      let given = in_state (Approved (Value entry.value)) in
      let requests = both_update name_keys hidden _ _ a.requests (account, reference) given in
      record {
        rest = ap new a.rest;
        requests = requests;
        queue = a.queue;
        advice = a.advice;
        acts = a.acts;
      }
  agree_both (GiveBlock account reference holding) =
      let there = holder_in holding in
      let new = λ (x : World). record x { blocks = insert x.blocks holding.block there } in
      let given = in_state (Approved (Block holding.block)) in
      let requests = both_update name_keys hidden _ _ a.requests (account, reference) given in
      record {
        rest = ap new a.rest;
        requests = requests;
        queue = a.queue;
        advice = a.advice;
        acts = a.acts;
      }
  agree_both change =
      let rest = ap (λ x. applied x change) a.rest in
      record {
        rest = rest;
        requests = a.requests;
        queue = a.queue;
        advice = a.advice;
        acts = a.acts;
      }

  -- and so with its acts, at one moment and by one caller
  pub agree_if : (s t : Stamp) → s ≡ t → (made : Option Change)
      → Agree hidden (recorded_if s w made) (recorded_if t v made)
  agree_if s t same None = a
  agree_if s t same (Some change) =
      let both = agree_both change in
      let caps = ap (λ (x : World). x.caps) a.rest in
      let blocks = ap (λ (x : World). x.blocks) a.rest in
      record {
        rest = both.rest;
        requests = both.requests;
        queue = both.queue;
        advice = both.advice;
        acts =
            seen_with hidden (acts_of s w change) w.journal
            ∙ (λ i. with_acts
            (acts_without hidden (map (act_by (same i)) (deeds_of (caps i) (blocks i) change)))
            (a.acts i))
            ∙ sym (seen_with hidden (acts_of t v change) v.journal);
      }

  -- of a hidden request, in the first world alone: where it gives it nothing, they go on to agree
  agree_hidden : (account : List ℕ) (change : Change)
      → is_hidden hidden (change_about change) ≡ true → IsQuiet account hidden (Some change)
      → Agree hidden (applied w change) v
  agree_hidden of (Submit account reference ask) h quiet =
      requests_set _ _
      (one_insert name_keys hidden _ _ a.requests (account, reference) (pending ask) h)
  agree_hidden of (Close account reference state) h quiet =
      requests_set _ _
      (one_update name_keys hidden _ _ a.requests (account, reference) (in_state state) h)
  agree_hidden of (Assign account reference expert) h quiet =
      queue_set _ _
      (one_insert seat_keys (at_seat hidden) _ _ a.queue ((account, reference), expert) tt h)
  agree_hidden of (Advise account reference expert advice) h quiet =
      advice_set _ _
      (one_insert seat_keys (at_seat hidden) _ _ a.advice ((account, reference), expert) advice h)
  agree_hidden of (GiveValue account reference entry) h quiet =
      let name : RequestName = (account, reference) in
      absurd (both_ways (same_name name name) (quiet name h) (same_name-itself name))
  agree_hidden of (GiveBlock account reference holding) h quiet =
      let name : RequestName = (account, reference) in
      absurd (both_ways (same_name name name) (quiet name h) (same_name-itself name))
  agree_hidden of change h quiet = absurd (cc)

  pub agree_hidden_if : (account : List ℕ) (stamp : Stamp) (made : Option Change)
      → IsOfHidden true hidden made → IsQuiet account hidden made
      → Agree hidden (recorded_if stamp w made) v
  agree_hidden_if of stamp None h quiet = a
  agree_hidden_if of stamp (Some change) h quiet =
      let one = agree_hidden of change (h change refl) quiet in
      record {
        rest = one.rest;
        requests = one.requests;
        queue = one.queue;
        advice = one.advice;
        acts =
            seen_with hidden (acts_of stamp w change) w.journal
            ∙ ap (λ acts. with_acts acts (acts_without hidden w.journal))
            (none_seen hidden stamp (change_about change) (h change refl)
            (deeds_of w.caps w.blocks change) (deeds_about w.caps w.blocks change))
            ∙ a.acts;
      }

-- ---- What the account is blind to

-- no hidden request is assigned to the account, or of an applicant whose agent the account is
pub record Blind (account : List ℕ) (hidden : RequestName → Bool) (w : World) : Type 0 where
  pub no_seat : (name : RequestName) → hidden name ≡ true → get w.queue (name, account) ≡ None
  pub no_link : (name : RequestName) → hidden name ≡ true
      → contains_key w.agents (name.0, account) ≡ false

module _
    (account : List ℕ) (hidden : RequestName → Bool) (w : World) (blind : Blind account hidden w)
  where
    no_seat : (change : Change) → IsQuiet account hidden (Some change) → (name : RequestName)
        → hidden name ≡ true → get (applied w change).queue (name, account) ≡ None
    no_seat (Assign applicant reference expert) quiet name h =
        get-at_insert seat_keys w.queue new tt old ∙ by (eq_by_cmp seat_cmp old new) refl
      where
        new : Seat
        new = ((applicant, reference), expert)

        old : Seat
        old = (name, account)

        shown : Seat → Bool
        shown seat = same_name seat.0 name && same_text seat.1 account

        by : (t : Bool) → eq_by_cmp seat_cmp old new ≡ t → cond t (Some tt) (get w.queue old) ≡ None
        by true t =
            let at_new : shown new ≡ true =
            ap shown (sym (tied seat_keys old new t))
            ∙ both_true (same_name-itself name) (same_text-itself account) in
            absurd (both_ways (shown new) (quiet name h) at_new)
        by false t = blind.no_seat name h
    no_seat change quiet name h = blind.no_seat name h

    no_link : (change : Change) → IsQuiet account hidden (Some change) → (name : RequestName)
        → hidden name ≡ true → contains_key (applied w change).agents (name.0, account) ≡ false
    no_link (SetAgent principal agent reads) quiet name h =
        there_after reads new w.agents old ∙ by (eq_by_cmp link_cmp old new) refl reads refl
      where
        new : Link
        new = (principal, agent)

        old : Link
        old = (name.0, account)

        shown : Link → Bool
        shown link = same_text link.0 name.0 && same_text link.1 account

        by : (t : Bool) → eq_by_cmp link_cmp old new ≡ t → (said : Bool) → reads ≡ said
            → cond t said (contains_key w.agents old) ≡ false
        by true t true is =
            let at_new : shown new ≡ true =
            ap shown (sym (tied link_keys old new t))
            ∙ both_true (same_text-itself name.0) (same_text-itself account) in
            let unsaid : shown new ≡ false =
            ap (λ b. b && shown new) (sym is) ∙ quiet name h in
            absurd (both_ways (shown new) unsaid at_new)
        by true t false is = refl
        by false t said is = blind.no_link name h
    no_link change quiet name h = blind.no_link name h

    pub blind_if : (stamp : Stamp) (made : Option Change) → IsQuiet account hidden made
        → Blind account hidden (recorded_if stamp w made)
    blind_if stamp None quiet = blind
    blind_if stamp (Some change) quiet =
        record { no_seat = no_seat change quiet; no_link = no_link change quiet }

-- ---- What the account is unaware of

-- the account is blind to hidden requests, of which none is its own, in two worlds that agree on all
-- others
pub record Unaware (account : List ℕ) (hidden : RequestName → Bool) (w v : World) : Type 0 where
  pub agree : Agree hidden w v
  pub not_own : (name : RequestName) → hidden name ≡ true → same_text name.0 account ≡ false
  pub blind_w : Blind account hidden w
  pub blind_v : Blind account hidden v
