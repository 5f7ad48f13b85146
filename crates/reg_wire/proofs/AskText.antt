-- The text that is printed of an ask is the JSON of the ask.
use Rattle.std.proofs.Common.{◌≡◌, ℕ, ◌^◌, ◌<◌, List, [], ◌∷◌, Bool, true, false, Option, Some, None, Ok, refl, nat_lt, arith, lit≤, codes}
use Rattle.std.specs.Cmp.{first_so, second_so}
use Rattle.std.proofs.lemmas.Bool.Decides.{nat_tests}
use Rattle.std.proofs.lemmas.Str.{IsUtf8-from_ascii}
use Rattle.json.proofs.Printed.Utf8.{are_ascii, IsUtf8-are_ascii}
use Rattle.serde_json.specs.Written.{compact_text}
use Rattle.reg_blocks.specs.Size.{word_of}
use Rattle.reg_blocks.specs.declared.size.Size.{Size}
use Rattle.reg_blocks.specs.declared.size.Size.TheVariants as size
use Rattle.reg_ranges.specs.Rfcs.{PublishedRfc}
use Rattle.reg_ranges.specs.Texts.{is_text, is_within, ascii_text}
use Rattle.reg_ranges.specs.Words.{policy_word, stream_word, track_word}
use Rattle.reg_ranges.specs.declared.evidence.Stream.{Stream}
use Rattle.reg_ranges.specs.declared.evidence.Stream.TheVariants as stream
use Rattle.reg_ranges.specs.declared.evidence.Track.{Track}
use Rattle.reg_ranges.specs.declared.evidence.Track.TheVariants as track
use Rattle.reg_ranges.specs.declared.policy.Policy.{Policy}
use Rattle.reg_ranges.specs.declared.policy.Policy.TheVariants as policy
use Rattle.reg_early.specs.Forms.{has_early_form}
use Rattle.reg_core.specs.Names.{is_name, ascii_name}
use Rattle.reg_core.specs.Ask.{has_note_form, has_rfc_form, has_evidence_form, has_want_form, has_block_form, has_code_form, has_early_ask_form, has_permanence_form, has_renewal_form, has_ask_form}
use Rattle.reg_core.specs.declared.ask.Ask.{Ask}
use Rattle.reg_core.specs.declared.ask.Ask.TheVariants.{Code, Early, Renew, Permanent, Block}
use Rattle.reg_core.specs.declared.ask.BlockAsk.{BlockAsk}
use Rattle.reg_core.specs.declared.ask.CodeAsk.{CodeAsk}
use Rattle.reg_core.specs.declared.ask.EarlyAsk.{EarlyAsk}
use Rattle.reg_core.specs.declared.ask.PermanenceAsk.{PermanenceAsk}
use Rattle.reg_core.specs.declared.ask.RenewalAsk.{RenewalAsk}
use Rattle.reg_core.specs.declared.ask.Want.{Want}
use Rattle.reg_core.specs.declared.ask.Want.TheVariants.{Value, Least}
use Rattle.reg_print.specs.Trees.Members.{Listed, object_with, text, text_if, true_if, whole_number}
use Rattle.reg_json.specs.Members.{object_of}
use Rattle.reg_print.specs.Trees.Ask.{ask_tree, block_members, code_members, early_members, least_if, permanence_members, renewal_members, rfc_if, rfc_members, rfc_tree, value_if}
use Rattle.reg_print.proofs.ListedMembers.{ascends}
use Rattle.reg_wire.proofs.AskForms.{early_formed, evidence_formed, renewal_formed, value_formed, want_formed}
use Rattle.reg_wire.proofs.TreeText.{◌▸◌, AreReadable, IfReadable, Readable, boolean-readable, member-readable, number-readable, object_of-compact_text, object_with-readable, string-readable}

-- ---- words

policy_ascii : (p : Policy) → are_ascii (policy_word p) ≡ true
policy_ascii policy.PrivateUse = refl
policy_ascii other = refl

stream_ascii : (s : Stream) → are_ascii (stream_word s) ≡ true
stream_ascii stream.Ietf = refl
stream_ascii other = refl

track_ascii : (t : Track) → are_ascii (track_word t) ≡ true
track_ascii track.Standards = refl
track_ascii other = refl

size_ascii : (s : Size) → are_ascii (word_of s) ≡ true
size_ascii size.MaL = refl
size_ascii size.MaM = refl
size_ascii size.MaS = refl

-- ---- members

-- a word of the office's own, as a policy's
word_member : (n : ℕ) (k s : List ℕ) → are_ascii k ≡ true → are_ascii s ≡ true
    → AreReadable n ((k, text s) ∷ [])
word_member n k s named h =
    member-readable n k (text s) named (string-readable n s (IsUtf8-are_ascii s h))

text_member : (n : ℕ) (k s : List ℕ) → are_ascii k ≡ true → is_text s ≡ true
    → AreReadable n ((k, text s) ∷ [])
text_member n k s named h =
    member-readable n k (text s) named (string-readable n s (IsUtf8-from_ascii s (ascii_text s h)))

name_member : (n : ℕ) (k s : List ℕ) → are_ascii k ≡ true → is_name s ≡ true
    → AreReadable n ((k, text s) ∷ [])
name_member n k s named h =
    member-readable n k (text s) named (string-readable n s (IsUtf8-from_ascii s (ascii_name s h)))

note_readable : (n : ℕ) (note : Option (List ℕ)) → has_note_form note ≡ true
    → IfReadable n (text_if note)
note_readable n None h = tt
note_readable n (Some s) h = string-readable n s (IsUtf8-from_ascii s (ascii_text s h))

note_member : (n : ℕ) (k : List ℕ) (note : Option (List ℕ)) → are_ascii k ≡ true
    → has_note_form note ≡ true → AreReadable n ((k, text_if note) ∷ [])
note_member n k note named h = member-readable n k (text_if note) named (note_readable n note h)

mark_readable : (n : ℕ) (b : Bool) → IfReadable n (true_if b)
mark_readable n true = boolean-readable n true
mark_readable n false = tt

mark_member : (n : ℕ) (k : List ℕ) (b : Bool) → are_ascii k ≡ true
    → AreReadable n ((k, true_if b) ∷ [])
mark_member n k b named = member-readable n k (true_if b) named (mark_readable n b)

below_word : (n : ℕ) → nat_lt n (2 ^ 32) ≡ true → n < 2 ^ 64
below_word n h = grind (arith, nat_tests)

number_member : (n : ℕ) (k : List ℕ) (v : ℕ) → are_ascii k ≡ true → nat_lt v (2 ^ 32) ≡ true
    → AreReadable n ((k, whole_number v) ∷ [])
number_member n k v named h =
    member-readable n k (whole_number v) named (number-readable n v (below_word v h))

value_readable : (w : Want) → has_want_form w ≡ true → IfReadable 1 (value_if w)
value_readable (Value v) h = number-readable 1 v (below_word v h)
value_readable (Least p) h = tt

value_member : (w : Want) → has_want_form w ≡ true
    → AreReadable 1 ((codes "value", value_if w) ∷ [])
value_member w h = member-readable 1 (codes "value") (value_if w) refl (value_readable w h)

least_readable : (w : Want) → IfReadable 1 (least_if w)
least_readable (Value v) = tt
least_readable (Least p) =
    string-readable 1 (policy_word p) (IsUtf8-are_ascii (policy_word p) (policy_ascii p))

least_member : (w : Want) → AreReadable 1 ((codes "least", least_if w) ∷ [])
least_member w = member-readable 1 (codes "least") (least_if w) refl (least_readable w)

small : (n : ℕ) → is_within 1 99999 n ≡ true → nat_lt n (2 ^ 32) ≡ true
small n h = grind (arith, nat_tests)

rfc_tree-readable : (rfc : PublishedRfc) → is_within 1 99999 rfc.number ≡ true
    → Readable 1 (rfc_tree rfc)
rfc_tree-readable rfc h =
    object_with-readable 0 (rfc_members rfc) refl
    (number_member 0 (codes "number") rfc.number refl (small rfc.number h)
    ▸ word_member 0 (codes "stream") (stream_word rfc.stream) refl (stream_ascii rfc.stream)
    ▸ word_member 0 (codes "track") (track_word rfc.track) refl (track_ascii rfc.track))

rfc_readable : (rfc : Option PublishedRfc) → has_rfc_form rfc ≡ true → IfReadable 1 (rfc_if rfc)
rfc_readable None h = tt
rfc_readable (Some rfc) h = rfc_tree-readable rfc h

rfc_member : (rfc : Option PublishedRfc) → has_rfc_form rfc ≡ true
    → AreReadable 1 ((codes "rfc", rfc_if rfc) ∷ [])
rfc_member rfc h = member-readable 1 (codes "rfc") (rfc_if rfc) refl (rfc_readable rfc h)

-- ---- asks

code_readable : (ask : CodeAsk) → has_code_form ask ≡ true → AreReadable 1 (code_members ask)
code_readable ask h =
    let parts = want_formed ask.registry ask.want ask.label (has_evidence_form ask.evidence) h in
    let shown = evidence_formed ask.evidence parts.evidence in
    note_member 1 (codes "contact") ask.evidence.contact refl shown.contact
    ▸ word_member 1 (codes "kind") (codes "code") refl refl
    ▸ text_member 1 (codes "label") ask.label refl parts.wanted.label
    ▸ least_member ask.want
    ▸ note_member 1 (codes "minute") ask.evidence.minute refl shown.minute
    ▸ name_member 1 (codes "registry") ask.registry refl parts.wanted.registry
    ▸ rfc_member ask.evidence.rfc shown.rfc
    ▸ note_member 1 (codes "specification") ask.evidence.spec refl shown.spec
    ▸ value_member ask.want parts.wanted.want

early_readable : (ask : EarlyAsk) → has_early_ask_form ask ≡ true
    → AreReadable 1 (early_members ask)
early_readable ask h =
    let parts = want_formed ask.registry ask.want ask.label (has_early_form ask.evidence) h in
    let shown = early_formed ask.evidence parts.evidence in
    note_member 1 (codes "chair") ask.evidence.chair refl shown.chair
    ▸ note_member 1 (codes "director") ask.evidence.director refl shown.director
    ▸ note_member 1 (codes "draft") ask.evidence.draft refl shown.draft
    ▸ mark_member 1 (codes "interest") ask.evidence.interest refl
    ▸ word_member 1 (codes "kind") (codes "early") refl refl
    ▸ text_member 1 (codes "label") ask.label refl parts.wanted.label
    ▸ least_member ask.want
    ▸ name_member 1 (codes "registry") ask.registry refl parts.wanted.registry
    ▸ mark_member 1 (codes "stable") ask.evidence.stable refl
    ▸ value_member ask.want parts.wanted.want
    ▸ mark_member 1 (codes "will_be_rfc") ask.evidence.will_be_rfc refl

renewal_readable : (ask : RenewalAsk) → has_renewal_form ask ≡ true
    → AreReadable 1 (renewal_members ask)
renewal_readable ask h =
    let parts = renewal_formed ask h in
    let shown = early_formed ask.evidence parts.evidence in
    note_member 1 (codes "chair") ask.evidence.chair refl shown.chair
    ▸ note_member 1 (codes "director") ask.evidence.director refl shown.director
    ▸ note_member 1 (codes "draft") ask.evidence.draft refl shown.draft
    ▸ note_member 1 (codes "iesg") ask.iesg refl parts.iesg
    ▸ mark_member 1 (codes "interest") ask.evidence.interest refl
    ▸ word_member 1 (codes "kind") (codes "renew") refl refl
    ▸ name_member 1 (codes "registry") ask.registry refl parts.registry
    ▸ mark_member 1 (codes "stable") ask.evidence.stable refl
    ▸ number_member 1 (codes "value") ask.value refl parts.value
    ▸ mark_member 1 (codes "will_be_rfc") ask.evidence.will_be_rfc refl

permanence_readable : (ask : PermanenceAsk) → has_permanence_form ask ≡ true
    → AreReadable 1 (permanence_members ask)
permanence_readable ask h =
    let parts =
    value_formed ask.registry (nat_lt ask.value (2 ^ 32)) (has_evidence_form ask.evidence) h in
    let shown = evidence_formed ask.evidence parts.evidence in
    note_member 1 (codes "contact") ask.evidence.contact refl shown.contact
    ▸ word_member 1 (codes "kind") (codes "permanent") refl refl
    ▸ note_member 1 (codes "minute") ask.evidence.minute refl shown.minute
    ▸ name_member 1 (codes "registry") ask.registry refl parts.registry
    ▸ rfc_member ask.evidence.rfc shown.rfc
    ▸ note_member 1 (codes "specification") ask.evidence.spec refl shown.spec
    ▸ number_member 1 (codes "value") ask.value refl parts.value

block_readable : (ask : BlockAsk) → has_block_form ask ≡ true → AreReadable 1 (block_members ask)
block_readable ask h =
    text_member 1 (codes "address") ask.address refl
    (second_so (is_text ask.organization) (is_text ask.address) h)
    ▸ word_member 1 (codes "kind") (codes "block") refl refl
    ▸ text_member 1 (codes "organization") ask.organization refl
    (first_so (is_text ask.organization) (is_text ask.address) h)
    ▸ word_member 1 (codes "size") (word_of ask.size) refl (size_ascii ask.size)

-- the text of an object whose members read back
object_of-members_text : (ms : Listed) → ascends ms ≡ true → AreReadable 1 ms
    → object_of (compact_text (object_with ms)) ≡ Ok (object_with ms)
object_of-members_text ms h r =
    object_of-compact_text 2 ms (lit≤ tt) (object_with-readable 1 ms h r)

-- the bytes that are printed of an ask are one JSON object, the ask's
pub object_of-ask_text : (ask : Ask) → has_ask_form ask ≡ true
    → object_of (compact_text (ask_tree ask)) ≡ Ok (ask_tree ask)
object_of-ask_text (Code ask) h =
    object_of-members_text (code_members ask) refl (code_readable ask h)
object_of-ask_text (Early ask) h =
    object_of-members_text (early_members ask) refl (early_readable ask h)
object_of-ask_text (Renew ask) h =
    object_of-members_text (renewal_members ask) refl (renewal_readable ask h)
object_of-ask_text (Permanent ask) h =
    object_of-members_text (permanence_members ask) refl (permanence_readable ask h)
object_of-ask_text (Block ask) h =
    object_of-members_text (block_members ask) refl (block_readable ask h)
