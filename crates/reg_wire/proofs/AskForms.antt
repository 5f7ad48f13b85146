-- What the form of an ask says of its parts.
use Rattle.std.proofs.Common.{◌≡◌, ℕ, ◌^◌, List, Bool, true, ◌&&◌, nat_lt}
use Rattle.std.specs.Cmp.{first_so, second_so}
use Rattle.reg_ranges.specs.Texts.{is_text}
use Rattle.reg_ranges.specs.declared.evidence.Evidence.{Evidence}
use Rattle.reg_early.specs.Forms.{has_early_form}
use Rattle.reg_early.specs.declared.evidence.EarlyEvidence.{EarlyEvidence}
use Rattle.reg_core.specs.Names.{is_name}
use Rattle.reg_core.specs.Ask.{has_evidence_form, has_note_form, has_renewal_form, has_rfc_form, has_want_form}
use Rattle.reg_core.specs.declared.ask.RenewalAsk.{RenewalAsk}
use Rattle.reg_core.specs.declared.ask.Want.{Want}

pub record HasEvidenceForm (e : Evidence) : Type 0 where
  pub contact : has_note_form e.contact ≡ true
  pub spec : has_note_form e.spec ≡ true
  pub rfc : has_rfc_form e.rfc ≡ true
  pub minute : has_note_form e.minute ≡ true

pub evidence_formed : (e : Evidence) → has_evidence_form e ≡ true → HasEvidenceForm e
evidence_formed e h =
    let three = has_note_form e.contact && has_note_form e.spec && has_rfc_form e.rfc in
    let two = has_note_form e.contact && has_note_form e.spec in
    let before_minute = first_so three (has_note_form e.minute) h in
    let before_rfc = first_so two (has_rfc_form e.rfc) before_minute in
    record {
      contact = first_so (has_note_form e.contact) (has_note_form e.spec) before_rfc;
      spec = second_so (has_note_form e.contact) (has_note_form e.spec) before_rfc;
      rfc = second_so two (has_rfc_form e.rfc) before_minute;
      minute = second_so three (has_note_form e.minute) h;
    }

pub record HasEarlyForm (e : EarlyEvidence) : Type 0 where
  pub draft : has_note_form e.draft ≡ true
  pub chair : has_note_form e.chair ≡ true
  pub director : has_note_form e.director ≡ true

pub early_formed : (e : EarlyEvidence) → has_early_form e ≡ true → HasEarlyForm e
early_formed e h =
    let two = has_note_form e.draft && has_note_form e.chair in
    let before_director = first_so two (has_note_form e.director) h in
    record {
      draft = first_so (has_note_form e.draft) (has_note_form e.chair) before_director;
      chair = second_so (has_note_form e.draft) (has_note_form e.chair) before_director;
      director = second_so two (has_note_form e.director) h;
    }

-- of a value that is wanted, of the registry of this name
pub record HasWantedForm (name : List ℕ) (value : Want) (called : List ℕ) : Type 0 where
  pub registry : is_name name ≡ true
  pub want : has_want_form value ≡ true
  pub label : is_text called ≡ true

-- of an ask for such a value, whatever is shown for it
pub record HasWantAndEvidence (name : List ℕ) (value : Want) (called : List ℕ) (shown : Bool)
    : Type 0 where
  pub wanted : HasWantedForm name value called
  pub evidence : shown ≡ true

pub want_formed : (name : List ℕ) (value : Want) (called : List ℕ) (shown : Bool)
    → (is_name name && has_want_form value && is_text called && shown) ≡ true
    → HasWantAndEvidence name value called shown
want_formed name value called shown h =
    let two = is_name name && has_want_form value in
    let before_shown = first_so (two && is_text called) shown h in
    let before_label = first_so two (is_text called) before_shown in
    record {
      wanted = record {
        registry = first_so (is_name name) (has_want_form value) before_label;
        want = second_so (is_name name) (has_want_form value) before_label;
        label = second_so two (is_text called) before_shown;
      };
      evidence = second_so (two && is_text called) shown h;
    }

-- of an ask for a value that was allocated
pub record HasValueAndEvidence (name : List ℕ) (below shown : Bool) : Type 0 where
  pub registry : is_name name ≡ true
  pub value : below ≡ true
  pub evidence : shown ≡ true

pub value_formed : (name : List ℕ) (below shown : Bool)
    → (is_name name && below && shown) ≡ true → HasValueAndEvidence name below shown
value_formed name below shown h =
    let before_shown = first_so (is_name name && below) shown h in
    record {
      registry = first_so (is_name name) below before_shown;
      value = second_so (is_name name) below before_shown;
      evidence = second_so (is_name name && below) shown h;
    }

-- of an ask for another year
pub record HasRenewalForm (ask : RenewalAsk) : Type 0 where
  pub registry : is_name ask.registry ≡ true
  pub value : nat_lt ask.value (2 ^ 32) ≡ true
  pub evidence : has_early_form ask.evidence ≡ true
  pub iesg : has_note_form ask.iesg ≡ true

pub renewal_formed : (ask : RenewalAsk) → has_renewal_form ask ≡ true → HasRenewalForm ask
renewal_formed ask h =
    let below = nat_lt ask.value (2 ^ 32) in
    let shown = has_early_form ask.evidence in
    let three = is_name ask.registry && below && shown in
    let parts =
    value_formed ask.registry below shown (first_so three (has_note_form ask.iesg) h) in
    record {
      registry = parts.registry;
      value = parts.value;
      evidence = parts.evidence;
      iesg = second_so three (has_note_form ask.iesg) h;
    }
