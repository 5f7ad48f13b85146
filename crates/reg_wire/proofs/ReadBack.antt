-- An ask is read back from its JSON.
use Rattle.std.proofs.Common.{◌≡◌, ◌∙◌, ℕ, ◌^◌, List, [], ◌∷◌, get_or, map, Bool, true, false, Option, Some, None, Ok, refl, ap, nat_lt, arith, option_and_then}
use Rattle.std.specs.Cmp.{first_so, second_so}
use Rattle.std.proofs.lemmas.Bool.Decides.{nat_tests}
use Rattle.serde_json.specs.Data.{Data, string}
use Rattle.reg_blocks.specs.Size.{word_of}
use Rattle.reg_blocks.specs.declared.size.Size.{Size}
use Rattle.reg_blocks.specs.declared.size.Size.TheVariants as size
use Rattle.reg_ranges.specs.Rfcs.{PublishedRfc}
use Rattle.reg_ranges.specs.Texts.{is_text, is_within}
use Rattle.reg_ranges.specs.Words.{policy_word, read_policy, read_stream, read_track, stream_word, track_word}
use Rattle.reg_ranges.specs.declared.evidence.Evidence.{Evidence}
use Rattle.reg_ranges.specs.declared.evidence.Stream.{Stream}
use Rattle.reg_ranges.specs.declared.evidence.Stream.TheVariants as stream
use Rattle.reg_ranges.specs.declared.evidence.Track.{Track}
use Rattle.reg_ranges.specs.declared.evidence.Track.TheVariants as track
use Rattle.reg_ranges.specs.declared.policy.Policy.{Policy}
use Rattle.reg_ranges.specs.declared.policy.Policy.TheVariants as policy
use Rattle.reg_early.specs.Forms.{has_early_form}
use Rattle.reg_early.specs.declared.evidence.EarlyEvidence.{EarlyEvidence}
use Rattle.reg_core.specs.Names.{is_name}
use Rattle.reg_core.specs.Ask.{has_note_form, has_rfc_form, has_evidence_form, has_want_form, has_block_form, has_code_form, has_early_ask_form, has_permanence_form, has_renewal_form, has_ask_form}
use Rattle.reg_core.specs.declared.ask.Ask.{Ask}
use Rattle.reg_core.specs.declared.ask.Ask.TheVariants.{Code, Early, Renew, Permanent, Block}
use Rattle.reg_core.specs.declared.ask.BlockAsk.{BlockAsk}
use Rattle.reg_core.specs.declared.ask.CodeAsk.{CodeAsk}
use Rattle.reg_core.specs.declared.ask.EarlyAsk.{EarlyAsk}
use Rattle.reg_core.specs.declared.ask.PermanenceAsk.{PermanenceAsk}
use Rattle.reg_core.specs.declared.ask.RenewalAsk.{RenewalAsk}
use Rattle.reg_core.specs.declared.ask.Want.{Want}
use Rattle.reg_core.specs.declared.ask.Want.TheVariants.{Value, Least}
use Rattle.reg_core.specs.declared.item.Item.{Item}
use Rattle.reg_core.specs.declared.item.Item.TheVariants as item
use Rattle.reg_core.specs.Item.{item_name}
use Rattle.reg_print.specs.Trees.Members.{Listed, object_with, text, text_if, true_if, whole_number}
use Rattle.reg_print.specs.Trees.Ask.{ask_tree, block_members, block_tree, code_members, code_tree, early_members, early_tree, least_if, permanence_members, permanence_tree, renewal_members, renewal_tree, rfc_if, rfc_tree, value_if}
use Rattle.reg_print.proofs.ListedMembers.{ascends}
use Rattle.reg_core.specs.declared.ask_kind.AskKind.{AskKind}
use Rattle.reg_core.specs.declared.ask_kind.AskKind.TheVariants as kind
use Rattle.reg_parse.specs.declared.bodies.value.AllocatedValue.{AllocatedValue}
use Rattle.reg_parse.specs.declared.bodies.value.WantedValue.{WantedValue}
use Rattle.reg_json.specs.Members.{Reading, ◌>>=◌, needed, formed, number_form, optional, optional_truth, text_form, truth_by}
use Rattle.reg_parse.specs.Bodies.Rfc.{rfc_form}
use Rattle.reg_parse.specs.Bodies.EarlyEvidence.{early_evidence_items, early_evidence_of}
use Rattle.reg_parse.specs.Bodies.Evidence.{evidence_of}
use Rattle.reg_parse.specs.Bodies.Value.{allocated_value_of, want_by, want_of, wanted_value_of}
use Rattle.reg_parse.specs.Bodies.Ask.{ask_of, ask_of_kind, ask_kind_form, block_items, block_of, size_form, size_named, code_items, code_of, early_items, early_of, permanence_items, permanence_of, renewal_items, renewal_of}
use Rattle.reg_wire.proofs.AskForms.{HasWantedForm, early_formed, evidence_formed, renewal_formed, value_formed, want_formed}
use Rattle.reg_wire.proofs.ListedMembers.{find_listed, get-object_with, needed-object_with, optional-object_with, only-object_with}

-- ---- words

policy_back : (p : Policy) → read_policy (policy_word p) ≡ Some p
policy_back policy.PrivateUse = refl
policy_back other = refl

stream_back : (s : Stream) → read_stream (stream_word s) ≡ Some s
stream_back stream.Ietf = refl
stream_back other = refl

track_back : (t : Track) → read_track (track_word t) ≡ Some t
track_back track.Standards = refl
track_back other = refl

size_back : (s : Size) → size_named (word_of s) ≡ Some s
size_back size.MaL = refl
size_back size.MaM = refl
size_back size.MaS = refl

-- ---- members

named_back : (form : List ℕ → Bool) (s : List ℕ) → form s ≡ true
    → text_form form (string s) ≡ Some s
named_back form s h = rw h refl

note_back : (part : Item) (note : Option (List ℕ)) → has_note_form note ≡ true
    → formed part (text_form is_text) (text_if note) ≡ Ok note
note_back part None h = refl
note_back part (Some s) h = rw h refl

mark_back : (part : Item) (b : Bool) → truth_by part (true_if b) ≡ Ok b
mark_back part true = refl
mark_back part false = refl

number_back : (n : ℕ) → nat_lt n (2 ^ 32) ≡ true
    → option_and_then number_form (whole_number n) ≡ Some n
number_back n h = rw h refl

-- what is read of a text, a note or a mark that is listed so
text_read : (part : Item) (form : List ℕ → Bool) (s : List ℕ) (ms : Listed) → ascends ms ≡ true
    → find_listed (item_name part) ms ≡ text s → form s ≡ true
    → needed part (text_form form) (object_with ms) ≡ Ok s
text_read part form s ms h found is =
    needed-object_with part (text_form form) s ms h
    (ap (option_and_then (text_form form)) found ∙ named_back form s is)

note_read : (part : Item) (note : Option (List ℕ)) (ms : Listed) → ascends ms ≡ true
    → find_listed (item_name part) ms ≡ text_if note → has_note_form note ≡ true
    → optional part (text_form is_text) (object_with ms) ≡ Ok note
note_read part note ms h found is =
    optional-object_with part (text_form is_text) note ms h
    (ap (formed part (text_form is_text)) found ∙ note_back part note is)

truth_back : (part : Item) (b : Bool) (ms : Listed) → ascends ms ≡ true
    → find_listed (item_name part) ms ≡ true_if b → optional_truth part (object_with ms) ≡ Ok b
truth_back part b ms h found =
    ap (truth_by part) (get-object_with (item_name part) ms h ∙ found) ∙ mark_back part b

-- what is read on after a part that was read
read_on : {A B : Type 0} {part : Reading A} {x : A} {y : B} (more : A → Reading B) → part ≡ Ok x
    → more x ≡ Ok y → (part >>= more) ≡ Ok y
read_on more h k = rw h k

-- ---- evidence

small : (n : ℕ) → is_within 1 99999 n ≡ true → nat_lt n (2 ^ 32) ≡ true
small n h = grind (arith, nat_tests)

rfc_form-rfc_tree : (rfc : PublishedRfc) → is_within 1 99999 rfc.number ≡ true
    → rfc_form (rfc_tree rfc) ≡ Some rfc
unfolding rfc_form
rfc_form-rfc_tree rfc h =
    rw (small rfc.number h, stream_back rfc.stream, track_back rfc.track, h) refl

rfc_back : (rfc : Option PublishedRfc) → has_rfc_form rfc ≡ true
    → formed item.Rfc rfc_form (rfc_if rfc) ≡ Ok rfc
rfc_back None h = refl
rfc_back (Some rfc) h = rw (rfc_form-rfc_tree rfc h) refl

-- these members list this evidence
record ListEvidence (ms : Listed) (e : Evidence) : Type 0 where
  ascending : ascends ms ≡ true
  contact : find_listed (item_name item.Contact) ms ≡ text_if e.contact
  spec : find_listed (item_name item.Specification) ms ≡ text_if e.spec
  rfc : find_listed (item_name item.Rfc) ms ≡ rfc_if e.rfc
  minute : find_listed (item_name item.Minute) ms ≡ text_if e.minute

evidence_back : (ms : Listed) (e : Evidence) → ListEvidence ms e → has_evidence_form e ≡ true
    → evidence_of (object_with ms) ≡ Ok e
unfolding evidence_of
evidence_back ms e l h =
    let shown = evidence_formed e h in
    read_on _ (note_read item.Contact e.contact ms l.ascending l.contact shown.contact)
    (read_on _ (note_read item.Specification e.spec ms l.ascending l.spec shown.spec)
    (read_on _
    (optional-object_with item.Rfc rfc_form e.rfc ms l.ascending
    (ap (formed item.Rfc rfc_form) l.rfc ∙ rfc_back e.rfc shown.rfc))
    (read_on _ (note_read item.Minute e.minute ms l.ascending l.minute shown.minute) refl)))

-- these members list this evidence for an early allocation
record ListEarlyEvidence (ms : Listed) (e : EarlyEvidence) : Type 0 where
  ascending : ascends ms ≡ true
  found : map (λ part. find_listed (item_name part) ms) early_evidence_items
      ≡ text_if e.draft ∷ true_if e.stable ∷ true_if e.interest ∷ text_if e.chair
      ∷ text_if e.director ∷ true_if e.will_be_rfc ∷ []

found_at : {found listed : List (Option Data)} (i : ℕ) → found ≡ listed
    → get_or found i None ≡ get_or listed i None
found_at i h = ap (λ os. get_or os i None) h

early_evidence_back : (ms : Listed) (e : EarlyEvidence) → ListEarlyEvidence ms e
    → has_early_form e ≡ true → early_evidence_of (object_with ms) ≡ Ok e
unfolding early_evidence_of
early_evidence_back ms e l h =
    let shown = early_formed e h in
    read_on _ (note_read item.Draft e.draft ms l.ascending (found_at 0 l.found) shown.draft)
    (read_on _ (truth_back item.Stable e.stable ms l.ascending (found_at 1 l.found))
    (read_on _ (truth_back item.Interest e.interest ms l.ascending (found_at 2 l.found))
    (read_on _ (note_read item.Chair e.chair ms l.ascending (found_at 3 l.found) shown.chair)
    (read_on _
    (note_read item.Director e.director ms l.ascending (found_at 4 l.found) shown.director)
    (read_on _ (truth_back item.WillBeRfc e.will_be_rfc ms l.ascending (found_at 5 l.found))
    refl)))))

-- ---- values

want_by_back : (w : Want) → has_want_form w ≡ true → want_by (value_if w) (least_if w) ≡ Ok w
want_by_back (Value v) h = rw h refl
want_by_back (Least p) h = rw (policy_back p) refl

-- these members list this value, which is wanted
record ListWanted (ms : Listed) (w : WantedValue) : Type 0 where
  ascending : ascends ms ≡ true
  registry : find_listed (item_name item.Registry) ms ≡ text w.registry
  value : find_listed (item_name item.Value) ms ≡ value_if w.want
  least : find_listed (item_name item.Least) ms ≡ least_if w.want
  label : find_listed (item_name item.Label) ms ≡ text w.label

want_back : (ms : Listed) (w : WantedValue) → ListWanted ms w → has_want_form w.want ≡ true
    → want_of (object_with ms) ≡ Ok w.want
want_back ms w l h =
    rw (
      get-object_with (item_name item.Value) ms l.ascending,
      get-object_with (item_name item.Least) ms l.ascending,
      l.value,
      l.least,
    ) (want_by_back w.want h)

wanted_back : (ms : Listed) (w : WantedValue) → ListWanted ms w
    → HasWantedForm w.registry w.want w.label → wanted_value_of (object_with ms) ≡ Ok w
unfolding wanted_value_of
wanted_back ms w l h =
    read_on _ (text_read item.Registry is_name w.registry ms l.ascending l.registry h.registry)
    (read_on _ (want_back ms w l h.want)
    (read_on _ (text_read item.Label is_text w.label ms l.ascending l.label h.label) refl))

-- these members list this value, which was allocated
record ListAllocated (ms : Listed) (v : AllocatedValue) : Type 0 where
  ascending : ascends ms ≡ true
  registry : find_listed (item_name item.Registry) ms ≡ text v.registry
  value : find_listed (item_name item.Value) ms ≡ whole_number v.value

allocated_back : (ms : Listed) (v : AllocatedValue) → ListAllocated ms v
    → is_name v.registry ≡ true → nat_lt v.value (2 ^ 32) ≡ true
    → allocated_value_of (object_with ms) ≡ Ok v
unfolding allocated_value_of
allocated_back ms v l named below =
    read_on _ (text_read item.Registry is_name v.registry ms l.ascending l.registry named)
    (read_on _
    (needed-object_with item.Value number_form v.value ms l.ascending
    (ap (option_and_then number_form) l.value ∙ number_back v.value below))
    refl)

-- ---- asks

code_back : (ask : CodeAsk) → has_code_form ask ≡ true → code_of (code_tree ask) ≡ Ok ask
unfolding code_of
code_back ask h =
    let ms = code_members ask in
    let parts = want_formed ask.registry ask.want ask.label (has_evidence_form ask.evidence) h in
    let wanted : WantedValue =
    record { registry = ask.registry; want = ask.want; label = ask.label } in
    read_on _
    (wanted_back ms wanted
    (record { ascending = refl; registry = refl; value = refl; least = refl; label = refl })
    parts.wanted)
    (read_on _
    (evidence_back ms ask.evidence
    (record { ascending = refl; contact = refl; spec = refl; rfc = refl; minute = refl })
    parts.evidence)
    (read_on _ (only-object_with code_items ms refl refl) refl))

early_back : (ask : EarlyAsk) → has_early_ask_form ask ≡ true
    → early_of (early_tree ask) ≡ Ok ask
unfolding early_of
early_back ask h =
    let ms = early_members ask in
    let parts = want_formed ask.registry ask.want ask.label (has_early_form ask.evidence) h in
    let wanted : WantedValue =
    record { registry = ask.registry; want = ask.want; label = ask.label } in
    read_on _
    (wanted_back ms wanted
    (record { ascending = refl; registry = refl; value = refl; least = refl; label = refl })
    parts.wanted)
    (read_on _
    (early_evidence_back ms ask.evidence (record { ascending = refl; found = refl })
    parts.evidence)
    (read_on _ (only-object_with early_items ms refl refl) refl))

renewal_back : (ask : RenewalAsk) → has_renewal_form ask ≡ true
    → renewal_of (renewal_tree ask) ≡ Ok ask
unfolding renewal_of
renewal_back ask h =
    let ms = renewal_members ask in
    let parts = renewal_formed ask h in
    let allocated : AllocatedValue = record { registry = ask.registry; value = ask.value } in
    read_on _
    (allocated_back ms allocated (record { ascending = refl; registry = refl; value = refl })
    parts.registry parts.value)
    (read_on _
    (early_evidence_back ms ask.evidence (record { ascending = refl; found = refl })
    parts.evidence)
    (read_on _ (note_read item.Iesg ask.iesg ms refl refl parts.iesg)
    (read_on _ (only-object_with renewal_items ms refl refl) refl)))

permanence_back : (ask : PermanenceAsk) → has_permanence_form ask ≡ true
    → permanence_of (permanence_tree ask) ≡ Ok ask
unfolding permanence_of
permanence_back ask h =
    let ms = permanence_members ask in
    let parts =
    value_formed ask.registry (nat_lt ask.value (2 ^ 32)) (has_evidence_form ask.evidence) h in
    let allocated : AllocatedValue = record { registry = ask.registry; value = ask.value } in
    read_on _
    (allocated_back ms allocated (record { ascending = refl; registry = refl; value = refl })
    parts.registry parts.value)
    (read_on _
    (evidence_back ms ask.evidence
    (record { ascending = refl; contact = refl; spec = refl; rfc = refl; minute = refl })
    parts.evidence)
    (read_on _ (only-object_with permanence_items ms refl refl) refl))

block_back : (ask : BlockAsk) → has_block_form ask ≡ true → block_of (block_tree ask) ≡ Ok ask
unfolding block_of
block_back ask h =
    let ms = block_members ask in
    read_on _ (needed-object_with item.Size size_form ask.size ms refl (size_back ask.size))
    (read_on _
    (text_read item.Organization is_text ask.organization ms refl refl
    (first_so (is_text ask.organization) (is_text ask.address) h))
    (read_on _
    (text_read item.Address is_text ask.address ms refl refl
    (second_so (is_text ask.organization) (is_text ask.address) h))
    (read_on (λ others. Ok ask) (only-object_with block_items ms refl refl) refl)))

-- an ask of a kind, which its word names
kind_back : (k : AskKind) (ask : Ask) (ms : Listed) → ascends ms ≡ true
    → option_and_then ask_kind_form (find_listed (item_name item.Kind) ms) ≡ Some k
    → ask_of_kind k (object_with ms) ≡ Ok ask → ask_of (object_with ms) ≡ Ok ask
unfolding ask_of
kind_back k ask ms h named read =
    ap (λ found. found >>= (λ asked. ask_of_kind asked (object_with ms)))
    (needed-object_with item.Kind ask_kind_form k ms h named) ∙ read

pub ask_of-ask_tree : (ask : Ask) → has_ask_form ask ≡ true → ask_of (ask_tree ask) ≡ Ok ask
ask_of-ask_tree (Code ask) h =
    kind_back kind.Code (Code ask) (code_members ask) refl refl
    (read_on _ (code_back ask h) refl)
ask_of-ask_tree (Early ask) h =
    kind_back kind.Early (Early ask) (early_members ask) refl refl
    (read_on _ (early_back ask h) refl)
ask_of-ask_tree (Renew ask) h =
    kind_back kind.Renew (Renew ask) (renewal_members ask) refl refl
    (read_on _ (renewal_back ask h) refl)
ask_of-ask_tree (Permanent ask) h =
    kind_back kind.Permanent (Permanent ask) (permanence_members ask) refl refl
    (read_on _ (permanence_back ask h) refl)
ask_of-ask_tree (Block ask) h =
    kind_back kind.Block (Block ask) (block_members ask) refl refl
    (read_on _ (block_back ask h) refl)
