-- The policies of ranges by the names that RFC 8126 gives them.
use Rattle.std.specs.Prelude.{ℕ, List, [], codes, Option, Some, None}
use Rattle.reg_ranges.specs.declared.policy.Policy.{Policy}
use Rattle.reg_ranges.specs.declared.policy.Policy.TheVariants as policy
use Rattle.reg_ranges.specs.declared.policy.Treatment.{Treatment}
use Rattle.reg_ranges.specs.declared.policy.Treatment.TheVariants as treatment

-- the name of a policy (RFC 8126 section 4)
abbrev pub policy_name : Policy → List ℕ
policy_name policy.PrivateUse = codes "Private Use"
policy_name policy.ExperimentalUse = codes "Experimental Use"
policy_name policy.HierarchicalAllocation = codes "Hierarchical Allocation"
policy_name policy.FirstComeFirstServed = codes "First Come First Served"
policy_name policy.ExpertReview = codes "Expert Review"
policy_name policy.SpecificationRequired = codes "Specification Required"
policy_name policy.RfcRequired = codes "RFC Required"
policy_name policy.IetfReview = codes "IETF Review"
policy_name policy.StandardsAction = codes "Standards Action"
policy_name policy.IesgApproval = codes "IESG Approval"

-- the name of a policy, or the word for values that are not available (RFC 8126 section 6)
abbrev pub treatment_name : Treatment → List ℕ
treatment_name (treatment.Under p) = policy_name p
treatment_name treatment.Reserved = codes "Reserved"

-- the name of a policy; nothing where there is none
abbrev pub named_policy : Option Policy → List ℕ
named_policy None = []
named_policy (Some p) = policy_name p
