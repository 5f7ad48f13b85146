-- Why an ask is refused, line by line, in the words of the published registers.
use Rattle.std.specs.Prelude.{◌≡◌, ◌⊎◌, ℕ, Bool, true, false, List, [], ◌∷◌, Some, None, IsSome}
use Rattle.std.specs.FinMap.{get}
use Rattle.reg_early.specs.declared.evidence.EarlyEvidence.{EarlyEvidence}
use Rattle.reg_early.specs.declared.term.Term.{Term}
use Rattle.reg_ranges.specs.Rfcs.{PublishedRfc}
use Rattle.reg_ranges.specs.Tables.{Table, treatment_of}
use Rattle.reg_ranges.specs.declared.evidence.Evidence.{Evidence}
use Rattle.reg_ranges.specs.declared.evidence.Item.{Item as EvidenceItem}
use Rattle.reg_ranges.specs.declared.evidence.Item.TheVariants as item
use Rattle.reg_ranges.specs.declared.evidence.Stream.TheVariants as stream
use Rattle.reg_ranges.specs.declared.evidence.Track.TheVariants as track
use Rattle.reg_ranges.specs.declared.policy.Policy.{Policy}
use Rattle.reg_ranges.specs.declared.policy.Policy.TheVariants as policy
use Rattle.reg_ranges.specs.declared.policy.Treatment.TheVariants.{Under}
use Rattle.reg_core.specs.BlocksGiven.{NoneIsFreeIn}
use Rattle.reg_core.specs.FirstRefusals.{Decides, IsAbove}
use Rattle.reg_core.specs.World.{World}
use Rattle.reg_core.specs.declared.ask.Ask.{Ask}
use Rattle.reg_core.specs.declared.ask.Ask.TheVariants.{Code, Early, Renew, Permanent, Block}
use Rattle.reg_core.specs.declared.ask.Want.{Want}
use Rattle.reg_core.specs.declared.ask.Want.TheVariants.{Value, Least}
use Rattle.reg_core.specs.declared.refusal.Refusal.TheVariants as no
use Rattle.reg_laws.specs.AnswerLines.{Lines, refuses, ◌or_else◌, of_row}

-- ---- Policies

-- values are assigned one by one under it: not under those of RFC 8126 sections 4.1 to 4.3
abbrev pub assigns_values : Policy → Bool
assigns_values policy.PrivateUse = false
assigns_values policy.ExperimentalUse = false
assigns_values policy.HierarchicalAllocation = false
assigns_values other = true

-- experts review what is asked for under it (RFC 8126 sections 4.5 and 4.6)
abbrev pub is_reviewed : Policy → Bool
is_reviewed policy.ExpertReview = true
is_reviewed policy.SpecificationRequired = true
is_reviewed other = false

-- values under it are allocated early, also where the specification will be no RFC (RFC 7120
-- section 2)
abbrev pub allocates_early : Bool → Policy → Bool
allocates_early will_be_rfc policy.RfcRequired = true
allocates_early will_be_rfc policy.IetfReview = true
allocates_early will_be_rfc policy.StandardsAction = true
allocates_early will_be_rfc policy.SpecificationRequired = will_be_rfc
allocates_early will_be_rfc other = false

-- it asks for this item of evidence (RFC 8126 section 4)
abbrev pub asks_for : EvidenceItem → Policy → Bool
asks_for item.Contact policy = assigns_values policy
asks_for item.Specification policy.SpecificationRequired = true
asks_for item.Rfc policy.RfcRequired = true
asks_for item.Rfc policy.IetfReview = true
asks_for item.Rfc policy.StandardsAction = true
asks_for item.Stream policy.IetfReview = true
asks_for item.Stream policy.StandardsAction = true
asks_for item.Track policy.StandardsAction = true
asks_for item.Minute policy.IesgApproval = true
asks_for other policy = false

-- the test is true of the policy that decides about what is wanted
abbrev pub IsUnderSuch : (Policy → Bool) → Table → Want → Type 0
IsUnderSuch test table want = (policy : Policy) × Decides table want policy × (test policy ≡ true)

-- ---- Evidence

-- an RFC is named of which this is so
abbrev pub NamesRfc : Evidence → (PublishedRfc → Type 0) → Type 0
NamesRfc e So = (rfc : PublishedRfc) × (e.rfc ≡ Some rfc) × So rfc

-- the item is missing: a text or an RFC, the IETF's stream, or Standards Track and BCP
abbrev pub IsMissing : Evidence → EvidenceItem → Type 0
IsMissing e item.Contact = e.contact ≡ None
IsMissing e item.Specification = e.spec ≡ None
IsMissing e item.Rfc = e.rfc ≡ None
IsMissing e item.Stream = ¬ (NamesRfc e (λ rfc. rfc.stream ≡ stream.Ietf))
IsMissing e item.Track =
    ¬ (NamesRfc e (λ rfc. (rfc.track ≡ track.Standards) ⊎ (rfc.track ≡ track.Bcp)))
IsMissing e item.Minute = e.minute ≡ None
IsMissing e other = ⊥

-- the same of what an early allocation asks for
abbrev pub IsMissingEarly : EarlyEvidence → EvidenceItem → Type 0
IsMissingEarly e item.Draft = e.draft ≡ None
IsMissingEarly e item.Stable = e.stable ≡ false
IsMissingEarly e item.Interest = e.interest ≡ false
IsMissingEarly e item.Chair = e.chair ≡ None
IsMissingEarly e item.Director = e.director ≡ None
IsMissingEarly e other = ⊥

-- the items in the order in which they are asked, of an assignment and of an early allocation
abbrev pub items : List EvidenceItem
items =
    item.Contact ∷ item.Specification ∷ item.Rfc ∷ item.Stream ∷ item.Track ∷ item.Minute ∷ []

abbrev pub early_items : List EvidenceItem
early_items = item.Draft ∷ item.Stable ∷ item.Interest ∷ item.Chair ∷ item.Director ∷ []

-- a line for each of these items, which applies where it is wanting
abbrev pub item_lines : (EvidenceItem → Type 0) → List EvidenceItem → Lines → Lines
item_lines IsWanting [] more = more
item_lines IsWanting (i ∷ rest) more =
    refuses (no.Evidence i) (IsWanting i) or_else item_lines IsWanting rest more

-- the policy that decides asks for the item, and it is missing
abbrev pub IsWantingFor : Table → Want → Evidence → EvidenceItem → Type 0
IsWantingFor table want e i = IsUnderSuch (asks_for i) table want × IsMissing e i

-- ---- What is wanted of a registry

-- the value is no larger than the largest, and a policy decides by which values are assigned
abbrev pub want_lines : Table → Want → Lines → Lines
want_lines table want more =
    refuses no.Range (IsAbove table want)
    or_else refuses no.Policy (¬ (IsUnderSuch assigns_values table want))
    or_else more

-- the evidence of an assignment, and of an early allocation
abbrev pub evidence_lines : Table → Want → Evidence → Lines → Lines
evidence_lines table want e more = item_lines (IsWantingFor table want e) items more

abbrev pub early_lines : Table → Want → EarlyEvidence → Lines → Lines
early_lines table want e more =
    refuses no.Early (¬ (IsUnderSuch (allocates_early e.will_be_rfc) table want))
    or_else item_lines (IsMissingEarly e) early_items more

-- each value of the registry under the policy has an entry
abbrev pub IsUsedUp : World → List ℕ → Table → Policy → Type 0
IsUsedUp w registry table policy =
    (v : ℕ) → treatment_of table v ≡ Some (Under policy) → IsSome (get w.entries (registry, v))

-- a value without an entry
abbrev pub free_lines : World → List ℕ → Table → Want → Lines → Lines
free_lines w registry table (Value v) more =
    refuses no.Taken (IsSome (get w.entries (registry, v))) or_else more
free_lines w registry table (Least policy) more =
    refuses no.Exhausted (IsUsedUp w registry table policy) or_else more

-- an entry of the account's own, which has an expiry
abbrev pub entry_lines : World → List ℕ → List ℕ → ℕ → (Term → Lines) → Lines
entry_lines w account registry v more =
    of_row no.Entry (get w.entries (registry, v)) (λ a.
    refuses no.Entry (¬ (a.assignee ≡ account))
    or_else refuses no.Permanent (a.term.expires ≡ None)
    or_else more a.term)

-- ---- Asks

-- the lines of an ask of an account, and those after them
abbrev pub ask_lines : World → List ℕ → Ask → Lines → Lines
ask_lines w account (Code ask) more =
    of_row no.Registry (get w.registries ask.registry) (λ table.
    want_lines table ask.want (evidence_lines table ask.want ask.evidence
    (free_lines w ask.registry table ask.want more)))
ask_lines w account (Early ask) more =
    of_row no.Registry (get w.registries ask.registry) (λ table.
    want_lines table ask.want (early_lines table ask.want ask.evidence
    (free_lines w ask.registry table ask.want more)))
ask_lines w account (Renew ask) more =
    of_row no.Registry (get w.registries ask.registry) (λ table.
    want_lines table (Value ask.value) (early_lines table (Value ask.value) ask.evidence
    (entry_lines w account ask.registry ask.value (λ term.
    refuses no.Renewed ((term.renewed ≡ true) × (ask.iesg ≡ None)) or_else more))))
ask_lines w account (Permanent ask) more =
    of_row no.Registry (get w.registries ask.registry) (λ table.
    want_lines table (Value ask.value) (evidence_lines table (Value ask.value) ask.evidence
    (entry_lines w account ask.registry ask.value (λ term. more))))
ask_lines w account (Block ask) more = refuses no.Exhausted (NoneIsFreeIn w ask.size) or_else more

-- ---- Review

-- experts review what is wanted of the registry
abbrev pub IsReviewedIn : World → List ℕ → Want → Type 0
IsReviewedIn w registry want =
    (table : Table) × (get w.registries registry ≡ Some table)
    × IsUnderSuch is_reviewed table want

-- experts review the ask: neither a renewal nor one for a block
abbrev pub IsReviewed : World → Ask → Type 0
IsReviewed w (Code ask) = IsReviewedIn w ask.registry ask.want
IsReviewed w (Early ask) = IsReviewedIn w ask.registry ask.want
IsReviewed w (Renew ask) = ⊥
IsReviewed w (Permanent ask) = IsReviewedIn w ask.registry (Value ask.value)
IsReviewed w (Block ask) = ⊥
