-- An ask that is read has its form.
use Rattle.std.proofs.Common.{◌≡◌, ◌&&◌, ℕ, Bool, true, false, Option, Some, None, Ok, refl, cond}
use Rattle.std.specs.Prelude.{⊤}
use Rattle.serde_json.specs.Data.{Data}
use Rattle.serde_json.specs.Find.{get, as_object}
use Rattle.reg_ranges.specs.Rfcs.{PublishedRfc}
use Rattle.reg_ranges.specs.Texts.{is_within, is_text}
use Rattle.reg_ranges.specs.declared.evidence.Stream.{Stream}
use Rattle.reg_ranges.specs.declared.evidence.Track.{Track}
use Rattle.reg_early.specs.Forms.{has_early_form}
use Rattle.reg_core.specs.Names.{is_name}
use Rattle.reg_core.specs.Ask.{has_rfc_form, has_evidence_form, has_want_form, has_ask_form, has_block_form, has_code_form, has_early_ask_form, has_permanence_form, has_renewal_form}
use Rattle.reg_core.specs.declared.ask.Ask.TheVariants.{Code, Early, Renew, Permanent, Block}
use Rattle.reg_core.specs.declared.ask.Want.TheVariants as want
use Rattle.reg_core.specs.declared.item.Item.TheVariants as item
use Rattle.reg_core.specs.declared.wire_refusal.WireRefusal.TheVariants as refusal
use Rattle.reg_core.specs.declared.ask_kind.AskKind.{AskKind}
use Rattle.reg_core.specs.declared.ask_kind.AskKind.TheVariants as kind
use Rattle.reg_parse.specs.declared.bodies.value.AllocatedValue.{AllocatedValue}
use Rattle.reg_parse.specs.declared.bodies.value.WantedValue.{WantedValue}
use Rattle.reg_core.specs.Item.{item_name}
use Rattle.reg_json.specs.Members.{Reading, ◌>>=◌, needed, member_in, optional_truth, only, is_among, number_form}
use Rattle.reg_parse.specs.Bodies.Rfc.{rfc_form, rfc_items, rfc_with, stream_form, track_form}
use Rattle.reg_parse.specs.Bodies.EarlyEvidence.{early_evidence_of}
use Rattle.reg_parse.specs.Bodies.Evidence.{evidence_of}
use Rattle.reg_parse.specs.Bodies.Value.{allocated_value_of, policy_form, want_by, wanted_value_of}
use Rattle.reg_parse.specs.Bodies.Ask.{ask_of, ask_kind_form, ask_of_kind, block_of, block_items, code_of, code_items, code_with, early_of, early_items, early_with, permanence_of, permanence_items, permanence_with, renewal_of, renewal_items, renewal_with, size_form}
use Rattle.reg_parse.proofs.Formed.{Passes, Gives, is_below, after_any, after_passing, ok-passes, err-passes, guard, after, mapped, or_refusal-passes, needed-passes, optional-passes, note-passes, text_form-gives, number_form-gives}

-- ---- evidence

abbrev is_numbered : PublishedRfc → Bool
is_numbered rfc = is_within 1 99999 rfc.number

among-gives : (b : Bool) (n : ℕ) (s : Stream) (t : Track) (y : PublishedRfc)
    → cond b (rfc_with n s t) None ≡ Some y → is_numbered y ≡ true
among-gives true n s t y e = guard is_numbered (record { number = n; stream = s; track = t }) y e
among-gives false n s t y e = cc

rfc_form-gives : Gives is_numbered rfc_form
unfolding rfc_form
rfc_form-gives json =
    after is_numbered _
    (λ n. after is_numbered _
    (λ s. after is_numbered _ (λ t. among-gives (is_among rfc_items (as_object json)) n s t)
    (member_in item.Track track_form json)) (member_in item.Stream stream_form json))
    (member_in item.Number number_form json)

evidence_of-passes : (json : Data) → Passes has_evidence_form (evidence_of json)
unfolding evidence_of
evidence_of-passes json =
    after_passing (note-passes item.Contact json)
    (λ c hc. after_passing (note-passes item.Specification json)
    (λ s hs. after_passing
    (optional-passes has_rfc_form item.Rfc rfc_form json refl rfc_form-gives)
    (λ r hr. after_passing (note-passes item.Minute json)
    (λ m hm. ok-passes has_evidence_form _ (rw (hc, hs, hr, hm) refl)))))

early_evidence_of-passes : (json : Data) → Passes has_early_form (early_evidence_of json)
unfolding early_evidence_of
early_evidence_of-passes json =
    after_passing (note-passes item.Draft json)
    (λ d hd. after_any (optional_truth item.Stable json)
    (λ s. after_any (optional_truth item.Interest json)
    (λ i. after_passing (note-passes item.Chair json)
    (λ c hc. after_passing (note-passes item.Director json)
    (λ a ha. after_any (optional_truth item.WillBeRfc json)
    (λ p. ok-passes has_early_form _ (rw (hd, hc, ha) refl)))))))

-- ---- values

abbrev has_wanted_form : WantedValue → Bool
has_wanted_form value =
    is_name value.registry && has_want_form value.want && is_text value.label

abbrev has_allocated_form : AllocatedValue → Bool
has_allocated_form value = is_name value.registry && is_below value.value

want_by-passes : (value least : Option Data) → Passes has_want_form (want_by value least)
want_by-passes (Some value) None =
    or_refusal-passes has_want_form (refusal.Field item.Value) _
    (mapped has_want_form want.Value (number_form value) (number_form-gives value))
want_by-passes None (Some least) =
    or_refusal-passes has_want_form (refusal.Field item.Least) _
    (mapped has_want_form want.Least (policy_form least) (λ policy e. refl))
want_by-passes (Some value) (Some least) = err-passes _ (refusal.Field item.Value)
want_by-passes None None = err-passes _ (refusal.Field item.Value)

wanted_value_of-passes : (json : Data) → Passes has_wanted_form (wanted_value_of json)
unfolding wanted_value_of
wanted_value_of-passes json =
    after_passing (needed-passes is_name item.Registry _ json (text_form-gives is_name))
    (λ r hr. after_passing
    (want_by-passes (get (item_name item.Value) json) (get (item_name item.Least) json))
    (λ w hw. after_passing (needed-passes is_text item.Label _ json (text_form-gives is_text))
    (λ l hl. ok-passes has_wanted_form _ (rw (hr, hw, hl) refl))))

allocated_value_of-passes : (json : Data) → Passes has_allocated_form (allocated_value_of json)
unfolding allocated_value_of
allocated_value_of-passes json =
    after_passing (needed-passes is_name item.Registry _ json (text_form-gives is_name))
    (λ r hr. after_passing (needed-passes is_below item.Value _ json number_form-gives)
    (λ v hv. ok-passes has_allocated_form _ (rw (hr, hv) refl)))

-- ---- asks

-- an ask of a value and of evidence passes where both pass
with_evidence-passes : {V E A : Type 0} (of_value : V → Bool) (of_evidence : E → Bool)
    (test : A → Bool) (ask : V → E → A) (value : Reading V) (evidence : Reading E)
    (others : Reading ⊤) → Passes of_value value → Passes of_evidence evidence
    → ((v : V) (e : E) → of_value v ≡ true → of_evidence e ≡ true → test (ask v e) ≡ true)
    → Passes test (value >>= (λ v. evidence >>= (λ e. others >>= (λ none. Ok (ask v e)))))
with_evidence-passes of_value of_evidence test ask value evidence others hv he h =
    after_passing hv
    (λ v is_v. after_passing he
    (λ e is_e. after_any others (λ none. ok-passes test _ (h v e is_v is_e))))

code_of-passes : (json : Data) → Passes has_code_form (code_of json)
unfolding code_of
code_of-passes json =
    with_evidence-passes has_wanted_form has_evidence_form has_code_form code_with
    (wanted_value_of json) (evidence_of json) (only code_items json)
    (wanted_value_of-passes json) (evidence_of-passes json) (λ v e hv he. rw (hv, he) refl)

early_of-passes : (json : Data) → Passes has_early_ask_form (early_of json)
unfolding early_of
early_of-passes json =
    with_evidence-passes has_wanted_form has_early_form has_early_ask_form early_with
    (wanted_value_of json) (early_evidence_of json) (only early_items json)
    (wanted_value_of-passes json) (early_evidence_of-passes json) (λ v e hv he. rw (hv, he) refl)

renewal_of-passes : (json : Data) → Passes has_renewal_form (renewal_of json)
unfolding renewal_of
renewal_of-passes json =
    after_passing (allocated_value_of-passes json)
    (λ v hv. after_passing (early_evidence_of-passes json)
    (λ e he. after_passing (note-passes item.Iesg json)
    (λ m hm. after_any (only renewal_items json)
    (λ o. ok-passes has_renewal_form (renewal_with v e m) (rw (hv, he, hm) refl)))))

permanence_of-passes : (json : Data) → Passes has_permanence_form (permanence_of json)
unfolding permanence_of
permanence_of-passes json =
    with_evidence-passes has_allocated_form has_evidence_form has_permanence_form permanence_with
    (allocated_value_of json) (evidence_of json) (only permanence_items json)
    (allocated_value_of-passes json) (evidence_of-passes json) (λ v e hv he. rw (hv, he) refl)

block_of-passes : (json : Data) → Passes has_block_form (block_of json)
unfolding block_of
block_of-passes json =
    after_any (needed item.Size size_form json)
    (λ s. after_passing
    (needed-passes is_text item.Organization _ json (text_form-gives is_text))
    (λ g hg. after_passing (needed-passes is_text item.Address _ json (text_form-gives is_text))
    (λ a ha. after_any (only block_items json)
    (λ o. ok-passes has_block_form _ (rw (hg, ha) refl)))))

-- an ask has the form of its kind
ask_of_kind-passes : (k : AskKind) (json : Data) → Passes has_ask_form (ask_of_kind k json)
ask_of_kind-passes kind.Code json =
    after_passing (code_of-passes json) (λ x is. ok-passes has_ask_form (Code x) is)
ask_of_kind-passes kind.Early json =
    after_passing (early_of-passes json) (λ x is. ok-passes has_ask_form (Early x) is)
ask_of_kind-passes kind.Renew json =
    after_passing (renewal_of-passes json) (λ x is. ok-passes has_ask_form (Renew x) is)
ask_of_kind-passes kind.Permanent json =
    after_passing (permanence_of-passes json) (λ x is. ok-passes has_ask_form (Permanent x) is)
ask_of_kind-passes kind.Block json =
    after_passing (block_of-passes json) (λ x is. ok-passes has_ask_form (Block x) is)

pub ask_of-passes : (json : Data) → Passes has_ask_form (ask_of json)
unfolding ask_of
ask_of-passes json =
    after_any (needed item.Kind ask_kind_form json) (λ k. ask_of_kind-passes k json)
