-- What an early allocation asks for (RFC 7120, section 2).
use Rattle.std.specs.Prelude.{Bool, true, false, not, List, [], ◌∷◌, filter, is_some}
use Rattle.reg_ranges.specs.declared.policy.Policy.{Policy}
use Rattle.reg_ranges.specs.declared.policy.Policy.TheVariants as policy
use Rattle.reg_ranges.specs.declared.evidence.Item.{Item}
use Rattle.reg_ranges.specs.declared.evidence.Item.TheVariants as item
use Rattle.reg_early.specs.declared.evidence.EarlyEvidence.{EarlyEvidence}

-- values under the policy are allocated early; under Specification Required only where the
-- specification will be an RFC
abbrev pub is_eligible : Policy → Bool → Bool
is_eligible policy.PrivateUse will_be_rfc = false
is_eligible policy.ExperimentalUse will_be_rfc = false
is_eligible policy.HierarchicalAllocation will_be_rfc = false
is_eligible policy.FirstComeFirstServed will_be_rfc = false
is_eligible policy.ExpertReview will_be_rfc = false
is_eligible policy.SpecificationRequired will_be_rfc = will_be_rfc
is_eligible policy.RfcRequired will_be_rfc = true
is_eligible policy.IetfReview will_be_rfc = true
is_eligible policy.StandardsAction will_be_rfc = true
is_eligible policy.IesgApproval will_be_rfc = false

-- what is asked, in this order
abbrev pub early_items : List Item
early_items =
    item.Policy ∷ item.Draft ∷ item.Stable ∷ item.Interest ∷ item.Chair ∷ item.Director ∷ []

-- whether an item is met: a text by being there, a statement by being true
abbrev pub is_early_met : Policy → EarlyEvidence → Item → Bool
is_early_met p e item.Policy = is_eligible p e.will_be_rfc
is_early_met p e item.Contact = false
is_early_met p e item.Specification = false
is_early_met p e item.Rfc = false
is_early_met p e item.Stream = false
is_early_met p e item.Track = false
is_early_met p e item.Minute = false
is_early_met p e item.Draft = is_some e.draft
is_early_met p e item.Stable = e.stable
is_early_met p e item.Interest = e.interest
is_early_met p e item.Chair = is_some e.chair
is_early_met p e item.Director = is_some e.director

-- the items that are not met, in order
abbrev pub early_unmet : Policy → EarlyEvidence → List Item
early_unmet p e = filter (λ i. not (is_early_met p e i)) early_items
