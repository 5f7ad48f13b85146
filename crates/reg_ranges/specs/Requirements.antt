-- What the policies of RFC 8126 section 4 ask for.
use Rattle.std.specs.Prelude.{Bool, true, false, not, List, [], ◌∷◌, filter, Option, Some, None, is_some}
use Rattle.reg_ranges.specs.Rfcs.{PublishedRfc}
use Rattle.reg_ranges.specs.declared.policy.Policy.{Policy}
use Rattle.reg_ranges.specs.declared.policy.Policy.TheVariants as policy
use Rattle.reg_ranges.specs.declared.evidence.Stream.{Stream}
use Rattle.reg_ranges.specs.declared.evidence.Stream.TheVariants as stream
use Rattle.reg_ranges.specs.declared.evidence.Track.{Track}
use Rattle.reg_ranges.specs.declared.evidence.Track.TheVariants as track
use Rattle.reg_ranges.specs.declared.evidence.Item.{Item}
use Rattle.reg_ranges.specs.declared.evidence.Item.TheVariants as item
use Rattle.reg_ranges.specs.declared.evidence.Evidence.{Evidence}

abbrev pub is_ietf : Stream → Bool
is_ietf stream.Ietf = true
is_ietf stream.Irtf = false
is_ietf stream.Iab = false
is_ietf stream.Independent = false
is_ietf stream.Editorial = false

abbrev pub is_standards_or_bcp : Track → Bool
is_standards_or_bcp track.Standards = true
is_standards_or_bcp track.Bcp = true
is_standards_or_bcp track.Informational = false
is_standards_or_bcp track.Experimental = false
is_standards_or_bcp track.Historic = false

-- there is an RFC, and it passes the test
abbrev pub has_rfc : (PublishedRfc → Bool) → Option PublishedRfc → Bool
has_rfc test None = false
has_rfc test (Some rfc) = test rfc

-- the items that the policy asks for, in the order in which they are asked; Policy where it assigns
-- no single values
abbrev pub asked_items : Policy → List Item
asked_items policy.PrivateUse = item.Policy ∷ []
asked_items policy.ExperimentalUse = item.Policy ∷ []
asked_items policy.HierarchicalAllocation = item.Policy ∷ []
asked_items policy.FirstComeFirstServed = item.Contact ∷ []
asked_items policy.ExpertReview = item.Contact ∷ []
asked_items policy.SpecificationRequired = item.Contact ∷ item.Specification ∷ []
asked_items policy.RfcRequired = item.Contact ∷ item.Rfc ∷ []
asked_items policy.IetfReview = item.Contact ∷ item.Rfc ∷ item.Stream ∷ []
asked_items policy.StandardsAction = item.Contact ∷ item.Rfc ∷ item.Stream ∷ item.Track ∷ []
asked_items policy.IesgApproval = item.Contact ∷ item.Minute ∷ []

-- whether the evidence meets an item: a text or an RFC by being there, its stream by being the
-- IETF's, its track by being Standards Track or BCP
abbrev pub is_met : Evidence → Item → Bool
is_met e item.Policy = false
is_met e item.Contact = is_some e.contact
is_met e item.Specification = is_some e.spec
is_met e item.Rfc = is_some e.rfc
is_met e item.Stream = has_rfc (λ rfc. is_ietf rfc.stream) e.rfc
is_met e item.Track = has_rfc (λ rfc. is_standards_or_bcp rfc.track) e.rfc
is_met e item.Minute = is_some e.minute
is_met e item.Draft = false
is_met e item.Stable = false
is_met e item.Interest = false
is_met e item.Chair = false
is_met e item.Director = false

-- the items that the policy asks for and the evidence does not meet, in order
abbrev pub unmet : Policy → Evidence → List Item
unmet policy e = filter (λ i. not (is_met e i)) (asked_items policy)

abbrev pub first_item : List Item → Option Item
first_item [] = None
first_item (i ∷ rest) = Some i

-- a designated expert has to approve (RFC 8126 sections 4.5 and 4.6)
abbrev pub is_expert_policy : Policy → Bool
is_expert_policy policy.PrivateUse = false
is_expert_policy policy.ExperimentalUse = false
is_expert_policy policy.HierarchicalAllocation = false
is_expert_policy policy.FirstComeFirstServed = false
is_expert_policy policy.ExpertReview = true
is_expert_policy policy.SpecificationRequired = true
is_expert_policy policy.RfcRequired = false
is_expert_policy policy.IetfReview = false
is_expert_policy policy.StandardsAction = false
is_expert_policy policy.IesgApproval = false

-- the operator assigns no single values there (RFC 8126 sections 4.1 to 4.3)
abbrev pub is_closed_policy : Policy → Bool
is_closed_policy policy.PrivateUse = true
is_closed_policy policy.ExperimentalUse = true
is_closed_policy policy.HierarchicalAllocation = true
is_closed_policy policy.FirstComeFirstServed = false
is_closed_policy policy.ExpertReview = false
is_closed_policy policy.SpecificationRequired = false
is_closed_policy policy.RfcRequired = false
is_closed_policy policy.IetfReview = false
is_closed_policy policy.StandardsAction = false
is_closed_policy policy.IesgApproval = false
