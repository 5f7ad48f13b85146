-- The first item of evidence that is wanting is named.
use Rattle.std.proofs.Common.{◌≡◌, Bool, true, false, cond, not, ◌&&◌, List, [], ◌∷◌, ◌⊎◌, inl, inr, refl, sym, ap, subst, ◌∙◌}
use Rattle.std.specs.Prelude.{Option, Some, None, Result, Ok, Err, filter, is_some}
use Rattle.reg_core.proofs.Common.{is_eligible, early_unmet, is_early_met, EarlyEvidence, PublishedRfc}
use Rattle.reg_core.proofs.Common.{Table, Evidence, EvidenceItem, Stream, Track, Policy, is_met}
use Rattle.reg_core.proofs.Common.{is_met_early, World}
use Rattle.reg_laws.proofs.Types.{Want, Refusal, Refused}
use Rattle.reg_ranges.specs.Requirements.{first_item, is_closed_policy, is_expert_policy, asked_items, is_ietf, is_standards_or_bcp, has_rfc, is_met as meets, unmet}
use Rattle.reg_ranges.specs.declared.evidence.Item.TheVariants as item
use Rattle.reg_ranges.specs.declared.evidence.Stream.TheVariants as stream
use Rattle.reg_ranges.specs.declared.evidence.Track.TheVariants as track
use Rattle.reg_ranges.specs.declared.policy.Policy.TheVariants as policy
use Rattle.reg_core.specs.FirstRefusals.{Decides}
use Rattle.reg_core.specs.declared.refusal.Refusal.TheVariants as no
use Rattle.reg_laws.proofs.FirstRefusals.Policies.{decides_one}
use Rattle.reg_laws.proofs.Lines.Turns.{IsFair, fails}
use Rattle.reg_laws.specs.AskLines.{assigns_values, is_reviewed, allocates_early, asks_for, IsUnderSuch, NamesRfc, IsMissing, IsMissingEarly, items, early_items, item_lines, IsWantingFor, evidence_lines, early_lines}

-- ---- The tests say what the words of the lines do

pub open_is : (policy : Policy) → not (is_closed_policy policy) ≡ assigns_values policy
open_is policy.PrivateUse = refl
open_is policy = refl

pub reviewed_is : (policy : Policy) → is_expert_policy policy ≡ is_reviewed policy
reviewed_is policy.PrivateUse = refl
reviewed_is policy = refl

eligible_is : (policy : Policy) (rfc : Bool) → is_eligible policy rfc ≡ allocates_early rfc policy
eligible_is policy.PrivateUse rfc = refl
eligible_is policy rfc = refl

-- what a policy asks for are those of all items that it asks for, in their order
asked_in_order : (policy : Policy) → is_closed_policy policy ≡ false
    → asked_items policy ≡ filter (λ i. asks_for i policy) items
asked_in_order policy.PrivateUse h = absurd (cc)
asked_in_order policy.ExperimentalUse h = absurd (cc)
asked_in_order policy.HierarchicalAllocation h = absurd (cc)
asked_in_order policy h = refl

-- ---- Items

-- an item is wanting or it is not, as a test says
abbrev Tells : Bool → Type 0 → Type 0
Tells b So = ((b ≡ true) × So) ⊎ ((b ≡ false) × (¬ So))

none_is : {A : Type 0} (o : Option A) → Tells (not (is_some o)) (o ≡ None)
none_is None = inl (refl, refl)
none_is (Some x) = inr (refl, λ is. absurd (cc))

false_is : (b : Bool) → Tells (not b) (b ≡ false)
false_is true = inr (refl, λ is. absurd (cc))
false_is false = inl (refl, refl)

-- an RFC of which a test is true
named_is : (e : Evidence) (test : PublishedRfc → Bool) (So : PublishedRfc → Type 0)
    → ((rfc : PublishedRfc) → Tells (not (test rfc)) (¬ (So rfc)))
    → Tells (not (has_rfc test e.rfc)) (¬ (NamesRfc e So))
named_is e test So each = by e.rfc refl
  where
    by : (o : Option PublishedRfc) → e.rfc ≡ o
        → Tells (not (has_rfc test o)) (¬ (NamesRfc e So))
    by None is = inl (refl, λ named. let both = sym is ∙ named.1 in absurd (cc))
    by (Some rfc) is =
        elim (each rfc) [
          | inl wants ↦
              inl (
                wants.0,
                λ named.
                    let both = sym is ∙ named.1 in
                    let same : rfc ≡ named.0 = cc in wants.1 (subst So (sym same) named.2),
              )
          | inr has ↦ inr (has.0, λ none. has.1 (λ so. none (rfc, is, so)))
        ]

ietf_is : (s : Stream) → Tells (not (is_ietf s)) (¬ (s ≡ stream.Ietf))
ietf_is stream.Ietf = inr (refl, λ other. other refl)
ietf_is s = inl (refl, λ is. absurd (cc))

abbrev IsOnTrack : Track → Type 0
IsOnTrack t = (t ≡ track.Standards) ⊎ (t ≡ track.Bcp)

neither : (t : Track) → ¬ (t ≡ track.Standards) → ¬ (t ≡ track.Bcp) → ¬ (IsOnTrack t)
neither t first second is = elim is [ inl a ↦ first a | inr b ↦ second b ]

track_is : (t : Track) → Tells (not (is_standards_or_bcp t)) (¬ (IsOnTrack t))
track_is track.Standards = inr (refl, λ other. other (inl refl))
track_is track.Bcp = inr (refl, λ other. other (inr refl))
track_is track.Informational =
    inl (refl, neither track.Informational (λ a. absurd (cc)) (λ b. absurd (cc)))
track_is track.Experimental =
    inl (refl, neither track.Experimental (λ a. absurd (cc)) (λ b. absurd (cc)))
track_is track.Historic = inl (refl, neither track.Historic (λ a. absurd (cc)) (λ b. absurd (cc)))

-- a first thing, which a test decides, and a second
both_are : {A B : Type 0} (a b : Bool) → (A → a ≡ true) → (a ≡ true → A) → Tells b B
    → Tells (a && b) (A × B)
both_are true b to of tells =
    elim tells [
      | inl so ↦ inl (so.0, (of refl, so.1))
      | inr none ↦ inr (none.0, λ both. none.1 both.1)
    ]
both_are false b to of tells = inr (refl, λ both. let t = to both.0 in absurd (cc))

filter_both : (a u : EvidenceItem → Bool) (xs : List EvidenceItem)
    → filter u (filter a xs) ≡ filter (λ i. a i && u i) xs
filter_both a u [] = refl
filter_both a u (x ∷ xs) =
    elim (a x) as (λ b. filter u (cond b (x ∷ filter a xs) (filter a xs))
    ≡ cond (b && u x) (x ∷ filter (λ i. a i && u i) xs) (filter (λ i. a i && u i) xs)) [
      | true ↦ ap (λ ys. cond (u x) (x ∷ ys) ys) (filter_both a u xs)
      | false ↦ filter_both a u xs
    ]

module _ (w : World) where
  -- a check that names the first of the items that pass a test is fair, where each passes that is
  -- wanting
  module _ (test : EvidenceItem → Bool) (IsWanting : EvidenceItem → Type 0)
      (tells : (i : EvidenceItem) → Tells (test i) (IsWanting i))
      (check : Option EvidenceItem → Result (Unit {0}) Refusal) (met : check None ≡ Ok tt)
      (named : (i : EvidenceItem) → test i ≡ true → check (Some i) ≡ Err (no.Evidence i)) where
    items_fair : (xs : List EvidenceItem)
        → IsFair w (item_lines IsWanting xs) (check (first_item (filter test xs)))
    items_fair [] = record {
      refused = λ refusal h more. let both = sym met ∙ h in absurd (cc);
      passed = λ x h more a by. by;
    }
    items_fair (i ∷ rest) = by (test i) refl (tells i) (items_fair rest)
      where
        by : (b : Bool) → test i ≡ b → Tells b (IsWanting i)
            → IsFair w (item_lines IsWanting rest) (check (first_item (filter test rest)))
            → IsFair w (item_lines IsWanting (i ∷ rest))
            (check (first_item (cond b (i ∷ filter test rest) (filter test rest))))
        by true t (inl wants) fair = record {
          refused = λ refusal h more.
              let both = sym (named i t) ∙ h in
              let same : no.Evidence i ≡ refusal = cc in inl (wants.1, ap Refused (sym same));
          passed = λ x h. let both = sym (named i t) ∙ h in absurd (cc);
        }
        by true t (inr has) fair = let never = has.0 in absurd (cc)
        by false t (inl wants) fair = let never = wants.0 in absurd (cc)
        by false t (inr has) fair = record {
          refused = λ refusal h more. inr (has.1, fair.refused refusal h more);
          passed = λ x h more a by. inr (has.1, fair.passed x h more a by);
        }

  module _ (table : Table) (want : Want) (policy : Policy) (decides : Decides table want policy) where
    -- what is so of the policy that decides
    pub under_is : (test : Policy → Bool) → IsUnderSuch test table want → test policy ≡ true
    under_is test such = ap test (decides_one table want policy such.0 decides such.1) ∙ such.2

    pub is_under : (test : Policy → Bool) → test policy ≡ true → IsUnderSuch test table want
    is_under test t = (policy, decides, t)

    wanting_is : (e : Evidence) (i : EvidenceItem) → Tells (not (meets e i)) (IsMissing e i)
        → Tells (asks_for i policy && not (meets e i)) (IsWantingFor table want e i)
    wanting_is e i =
        both_are (asks_for i policy) (not (meets e i)) (under_is (asks_for i)) (is_under (asks_for i))

    each_item : (e : Evidence) (i : EvidenceItem)
        → Tells (asks_for i policy && not (meets e i)) (IsWantingFor table want e i)
    each_item e item.Contact = wanting_is e item.Contact (none_is e.contact)
    each_item e item.Specification = wanting_is e item.Specification (none_is e.spec)
    each_item e item.Rfc = wanting_is e item.Rfc (none_is e.rfc)
    each_item e item.Stream =
        wanting_is e item.Stream (named_is e (λ rfc. is_ietf rfc.stream)
        (λ rfc. rfc.stream ≡ stream.Ietf) (λ rfc. ietf_is rfc.stream))
    each_item e item.Track =
        wanting_is e item.Track (named_is e (λ rfc. is_standards_or_bcp rfc.track)
        (λ rfc. IsOnTrack rfc.track) (λ rfc. track_is rfc.track))
    each_item e item.Minute = wanting_is e item.Minute (none_is e.minute)
    each_item e i = inr (refl, λ both. both.1)

    unmet_is : (e : Evidence) → is_closed_policy policy ≡ false
        → unmet policy e ≡ filter (λ i. asks_for i policy && not (meets e i)) items
    unmet_is e one_by_one =
        ap (filter (λ i. not (meets e i))) (asked_in_order policy one_by_one)
        ∙ filter_both (λ i. asks_for i policy) (λ i. not (meets e i)) items

    -- the evidence of an assignment
    pub evidence_fair : (e : Evidence) → is_closed_policy policy ≡ false
        → IsFair w (evidence_lines table want e) (is_met (first_item (unmet policy e)))
    evidence_fair e one_by_one =
        subst (λ xs. IsFair w (evidence_lines table want e) (is_met (first_item xs)))
        (sym (unmet_is e one_by_one))
        (items_fair (λ i. asks_for i policy && not (meets e i)) (IsWantingFor table want e)
        (each_item e) is_met refl (λ i t. refl) items)

    -- that of an early allocation
    abbrev is_asked : EvidenceItem → Bool
    is_asked item.Draft = true
    is_asked item.Stable = true
    is_asked item.Interest = true
    is_asked item.Chair = true
    is_asked item.Director = true
    is_asked other = false

    abbrev missing_early : EarlyEvidence → EvidenceItem → Bool
    missing_early e i = is_asked i && not (is_early_met policy e i)

    each_early : (e : EarlyEvidence) (i : EvidenceItem)
        → Tells (missing_early e i) (IsMissingEarly e i)
    each_early e item.Draft = none_is e.draft
    each_early e item.Stable = false_is e.stable
    each_early e item.Interest = false_is e.interest
    each_early e item.Chair = none_is e.chair
    each_early e item.Director = none_is e.director
    each_early e i = inr (refl, λ none. none)

    named_early : (e : EarlyEvidence) (i : EvidenceItem) → missing_early e i ≡ true
        → is_met_early (Some i) ≡ Err (no.Evidence i)
    named_early e item.Policy t = absurd (cc)
    named_early e i t = refl

    early_items_fair : (e : EarlyEvidence)
        → IsFair w (item_lines (IsMissingEarly e) early_items)
        (is_met_early (first_item (filter (missing_early e) early_items)))
    early_items_fair e =
        items_fair (missing_early e) (IsMissingEarly e) (each_early e) is_met_early refl
        (named_early e) early_items

    pub early_fair : (e : EarlyEvidence)
        → IsFair w (early_lines table want e) (is_met_early (first_item (early_unmet policy e)))
    early_fair e = by (is_eligible policy e.will_be_rfc) refl
      where
        is : (b : Bool) → is_eligible policy e.will_be_rfc ≡ b
            → allocates_early e.will_be_rfc policy ≡ b
        is b t = sym (eligible_is policy e.will_be_rfc) ∙ t

        by : (b : Bool) → is_eligible policy e.will_be_rfc ≡ b
            → IsFair w (early_lines table want e)
            (is_met_early (first_item (cond (not b)
            (item.Policy ∷ filter (λ i. not (is_early_met policy e i)) early_items)
            (filter (λ i. not (is_early_met policy e i)) early_items))))
        by true t = record {
          refused = λ refusal h more.
              inr (
                λ none. none (is_under (allocates_early e.will_be_rfc) (is true t)),
                (early_items_fair e).refused refusal h more,
              );
          passed = λ x h more a goes.
              inr (
                λ none. none (is_under (allocates_early e.will_be_rfc) (is true t)),
                (early_items_fair e).passed x h more a goes,
              );
        }
        by false t = record {
          refused = λ refusal h more.
              let same : no.Early ≡ refusal = cc in
              inl (
                fails (allocates_early e.will_be_rfc policy)
                    (under_is (allocates_early e.will_be_rfc)) (is false t),
                ap Refused (sym same),
              );
          passed = λ x h. absurd (cc);
        }
