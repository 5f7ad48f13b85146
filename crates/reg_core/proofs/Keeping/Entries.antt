-- Entries that are given duly fit the place at which they are given.
use Rattle.std.proofs.Common.{◌≡◌, ℕ, ◌^◌, true, ◌&&◌, List, refl, sym, ap, subst, ◌∙◌, nat_lt, arith}
use Rattle.std.specs.Prelude.{Option, Some, None, is_some}
use Rattle.std.specs.Cmp.{first_so, second_so}
use Rattle.std.specs.Cmp.Derive.{both_true}
use Rattle.std.specs.FinMap.{get}
use Rattle.std.proofs.lemmas.Bool.Decides.{nat_tests}
use Rattle.reg_early.specs.Forms.{has_early_form}
use Rattle.reg_early.specs.Terms.{may_be_held}
use Rattle.reg_early.specs.declared.term.Term.{Term}
use Rattle.reg_ranges.specs.Texts.{is_text}
use Rattle.reg_ranges.specs.declared.policy.Policy.{Policy}
use Rattle.reg_core.specs.Ask.{has_want_form, has_evidence_form, has_ask_form, registry_of}
use Rattle.reg_core.specs.Entry.{registration_in, has_day_form, has_term_form, has_registration_form}
use Rattle.reg_core.specs.MayBeGiven.{IsUnder, IsEntry, IsOwnEntry, IsDuly, place_of}
use Rattle.reg_core.specs.Names.{is_name}
use Rattle.reg_core.specs.Registry.{has_table_form}
use Rattle.reg_core.specs.WellKept.{WellKept, has_entry_form, is_open_at, is_registered_to}
use Rattle.reg_core.specs.World.{World, Place}
use Rattle.reg_core.specs.declared.ask.Ask.{Ask}
use Rattle.reg_core.specs.declared.ask.Ask.TheVariants.{Code, Early, Renew, Permanent, Block}
use Rattle.reg_core.specs.declared.entry.Entry.{Entry}
use Rattle.reg_core.specs.declared.entry.Registration.{Registration}
use Rattle.reg_core.proofs.Checks.{under_is_open, under_is_below}
use Rattle.reg_core.proofs.SamenessIsDecided.{same_text-itself}
use Rattle.reg_core.proofs.Terms.{permanent_form, early_form, renewal_form, settlement_form, renewal_held, settlement_held}

-- whoever has the entry that stands there has this one in its place
abbrev pub Replaces : Option Registration → Registration → Type 0
Replaces existing a =
    (account : List ℕ) → is_registered_to account existing ≡ true
    → is_registered_to account (Some a) ≡ true

-- the entry is of the registry that the ask names, in the name of the account, and has its form;
-- its value is assigned one by one; it replaces what stands there, and is held only if it expires
pub record IsFit (w : World) (account : List ℕ) (ask : Ask) (entry : Entry) : Type 0 where
  pub of_registry : registry_of ask ≡ Some entry.registry
  pub assignee : entry.assignee ≡ account
  pub policy : Policy
  pub under : IsUnder w entry.registry entry.value policy
  pub label : is_text entry.label ≡ true
  pub term : has_term_form entry.term ≡ true
  pub replaces : Replaces (get w.entries (place_of entry)) (registration_in entry)
  pub held : may_be_held entry.term ≡ true

module _ (w : World) (kept : WellKept w) (account : List ℕ) (entry : Entry) where
  -- a new entry
  new_fits : (ask : Ask) (registry label : List ℕ) (term : Term) (policy : Policy)
      → registry_of ask ≡ Some registry → is_text label ≡ true → has_term_form term ≡ true
      → may_be_held term ≡ true → IsEntry account registry label term entry → IsUnder w registry entry.value policy
      → get w.entries (registry, entry.value) ≡ None → IsFit w account ask entry
  new_fits ask registry label term policy of label_form form may is under free = record {
    of_registry = of ∙ ap Some (sym is.registry_is);
    assignee = is.assignee_is;
    policy = policy;
    under = subst (λ r. IsUnder w r entry.value policy) (sym is.registry_is) under;
    label = ap is_text is.label_is ∙ label_form;
    term = ap has_term_form is.term_is ∙ form;
    replaces = subst (λ o. Replaces o (registration_in entry)) (sym gone) (λ other h. absurd (cc));
    held = ap may_be_held is.term_is ∙ may;
  }
    where
      gone : get w.entries (place_of entry) ≡ None
      gone = ap (λ r. get w.entries (r, entry.value)) is.registry_is ∙ free

  -- what stands at a place has its form
  standing_form : (place : Place) (a : Registration) → get w.entries place ≡ Some a
      → has_registration_form a ≡ true
  standing_form place a is =
      second_so (is_name place.0 && nat_lt place.1 (2 ^ 32)) (has_registration_form a)
      (kept.entries place a is)

  standing_label : (place : Place) (a : Registration) → get w.entries place ≡ Some a
      → is_text a.label ≡ true
  standing_label place a is =
      first_so (is_text a.label) (is_name a.assignee)
      (first_so (is_text a.label && is_name a.assignee) (has_term_form a.term)
      (standing_form place a is))

  pub standing_term : (place : Place) (a : Registration) → get w.entries place ≡ Some a
      → has_term_form a.term ≡ true
  standing_term place a is =
      second_so (is_text a.label && is_name a.assignee) (has_term_form a.term)
      (standing_form place a is)

  -- the account's own entry, in another term
  own_fits : (ask : Ask) (registry : List ℕ) (v : ℕ) (a : Registration) (term : Term)
      (policy : Policy) → registry_of ask ≡ Some registry → has_term_form term ≡ true
      → may_be_held term ≡ true → entry.value ≡ v → IsEntry account registry a.label term entry
      → IsUnder w registry v policy → IsOwnEntry w account registry v a → IsFit w account ask entry
  own_fits ask registry v a term policy of form may at is under own = record {
    of_registry = of ∙ ap Some (sym is.registry_is);
    assignee = is.assignee_is;
    policy = policy;
    under = subst (λ (p : Place). IsUnder w p.0 p.1 policy) (sym place) under;
    label = ap is_text is.label_is ∙ standing_label (registry, v) a own.stands;
    term = ap has_term_form is.term_is ∙ form;
    replaces = subst (λ o. Replaces o (registration_in entry)) (sym stands)
        (subst (λ x. Replaces (Some a) (record (registration_in entry) { assignee = x }))
        (own.own ∙ sym is.assignee_is) (λ other h. h));
    held = ap may_be_held is.term_is ∙ may;
  }
    where
      place : place_of entry ≡ (registry, v)
      place = λ i. (is.registry_is i, at i)

      stands : get w.entries (place_of entry) ≡ Some a
      stands = ap (get w.entries) place ∙ own.stands

  -- a line for each ask
  pub duly_fits : (ask : Ask) (today : ℕ) → has_ask_form ask ≡ true → has_day_form today ≡ true
      → IsDuly w today account ask entry → IsFit w account ask entry
  duly_fits (Code ask) today form day duly =
      let label = second_so (is_name ask.registry && has_want_form ask.want) (is_text ask.label)
      (first_so (is_name ask.registry && has_want_form ask.want && is_text ask.label)
      (has_evidence_form ask.evidence) form) in
      new_fits (Code ask) ask.registry ask.label _ duly.1.policy refl label
      (permanent_form today day) refl duly.0 duly.1.under duly.1.free
  duly_fits (Early ask) today form day duly =
      let label = second_so (is_name ask.registry && has_want_form ask.want) (is_text ask.label)
      (first_so (is_name ask.registry && has_want_form ask.want && is_text ask.label)
      (has_early_form ask.evidence) form) in
      new_fits (Early ask) ask.registry ask.label _ duly.1.policy refl label
      (early_form today day) refl duly.0 duly.1.under duly.1.free
  duly_fits (Renew ask) today form day duly =
      let own = duly.4.entry in
      own_fits (Renew ask) ask.registry ask.value duly.1 duly.2 duly.4.policy refl
      (renewal_form duly.1.term today (is_some ask.iesg) duly.2
      (standing_term (ask.registry, ask.value) duly.1 own.stands) day duly.5)
      (renewal_held duly.1.term today (is_some ask.iesg) duly.2
      (kept.held (ask.registry, ask.value) duly.1 own.stands) duly.5)
      duly.0 duly.3 duly.4.under own
  duly_fits (Permanent ask) today form day duly =
      let own = duly.4.entry in
      own_fits (Permanent ask) ask.registry ask.value duly.1 duly.2 duly.4.policy refl
      (settlement_form duly.1.term duly.2
      (standing_term (ask.registry, ask.value) duly.1 own.stands) duly.5)
      (settlement_held duly.1.term duly.2 duly.5) duly.0 duly.3 duly.4.under own
  duly_fits (Block ask) today form day duly = absurd duly

  -- what is so of the world with a fit entry
  module _ (ask : Ask) (fit : IsFit w account ask entry) where
    pub value_form : nat_lt entry.value (2 ^ 32) ≡ true
    value_form =
        let below = under_is_below w kept entry.registry entry.value fit.policy fit.under in
        grind (arith, nat_tests, below)

    pub entry_form : is_name account ≡ true
        → has_entry_form (place_of entry) (registration_in entry) ≡ true
    entry_form mine =
        let registry = first_so (is_name entry.registry) (has_table_form fit.under.table)
        (kept.registries entry.registry fit.under.table fit.under.is_there) in
        both_true (both_true registry value_form)
        (both_true (both_true fit.label (ap is_name fit.assignee ∙ mine)) fit.term)

    pub entry_open : is_open_at (get w.registries entry.registry) entry.value ≡ true
    entry_open = under_is_open w entry.registry entry.value fit.policy fit.under

    pub entry_own : is_registered_to account (Some (registration_in entry)) ≡ true
    entry_own =
        subst (λ x. is_registered_to x (Some (registration_in entry)) ≡ true) fit.assignee
        (same_text-itself entry.assignee)
