-- The words by which policies, treatments, streams, tracks and items of evidence are written.
use Rattle.std.specs.Prelude.{ℕ, List, [], ◌∷◌, Option, Some, find, codes, option_map, ◌≡◌, ◌↔◌, if◌then◌else◌}
use Rattle.std.specs.Str.{bytes_eq}
use Rattle.reg_ranges.specs.declared.policy.Policy.{Policy}
use Rattle.reg_ranges.specs.declared.policy.Policy.TheVariants as policy
use Rattle.reg_ranges.specs.declared.policy.Treatment.{Treatment}
use Rattle.reg_ranges.specs.declared.policy.Treatment.TheVariants as treatment
use Rattle.reg_ranges.specs.declared.evidence.Stream.{Stream}
use Rattle.reg_ranges.specs.declared.evidence.Stream.TheVariants as stream
use Rattle.reg_ranges.specs.declared.evidence.Track.{Track}
use Rattle.reg_ranges.specs.declared.evidence.Track.TheVariants as track
use Rattle.reg_ranges.specs.declared.evidence.Item.{Item}
use Rattle.reg_ranges.specs.declared.evidence.Item.TheVariants as item

-- the value whose word this is
abbrev pub read_among : {T : Type 0} → List T → (T → List ℕ) → List ℕ → Option T
read_among values word s = find (λ x. bytes_eq (word x) s) values

-- exactly the word of a value reads to that value
abbrev pub ReadsWords : {T : Type 0} → (T → List ℕ) → (List ℕ → Option T) → Type 0
ReadsWords {T} word read = (x : T) (s : List ℕ) → (read s ≡ Some x) ↔ (s ≡ word x)

-- all policies
abbrev pub policies : List Policy
policies =
    policy.PrivateUse ∷ policy.ExperimentalUse ∷ policy.HierarchicalAllocation
    ∷ policy.FirstComeFirstServed ∷ policy.ExpertReview
    ∷ policy.SpecificationRequired ∷ policy.RfcRequired ∷ policy.IetfReview ∷ policy.StandardsAction
    ∷ policy.IesgApproval ∷ []

-- the word of a policy, and the policy that a word reads to; so of treatments, streams, tracks and
-- items
abbrev pub policy_word : Policy → List ℕ
policy_word policy.PrivateUse = codes "private-use"
policy_word policy.ExperimentalUse = codes "experimental-use"
policy_word policy.HierarchicalAllocation = codes "hierarchical-allocation"
policy_word policy.FirstComeFirstServed = codes "first-come-first-served"
policy_word policy.ExpertReview = codes "expert-review"
policy_word policy.SpecificationRequired = codes "specification-required"
policy_word policy.RfcRequired = codes "rfc-required"
policy_word policy.IetfReview = codes "ietf-review"
policy_word policy.StandardsAction = codes "standards-action"
policy_word policy.IesgApproval = codes "iesg-approval"

abbrev pub read_policy : List ℕ → Option Policy
read_policy s = read_among policies policy_word s

abbrev pub treatment_word : Treatment → List ℕ
treatment_word (treatment.Under p) = policy_word p
treatment_word treatment.Reserved = codes "reserved"

abbrev pub read_treatment : List ℕ → Option Treatment
read_treatment s =
    (if bytes_eq s (codes "reserved") then Some treatment.Reserved else option_map treatment.Under
    (read_policy s))

abbrev pub streams : List Stream
streams = stream.Ietf ∷ stream.Irtf ∷ stream.Iab ∷ stream.Independent ∷ stream.Editorial ∷ []

abbrev pub stream_word : Stream → List ℕ
stream_word stream.Ietf = codes "ietf"
stream_word stream.Irtf = codes "irtf"
stream_word stream.Iab = codes "iab"
stream_word stream.Independent = codes "independent"
stream_word stream.Editorial = codes "editorial"

abbrev pub read_stream : List ℕ → Option Stream
read_stream s = read_among streams stream_word s

abbrev pub tracks : List Track
tracks =
    track.Standards ∷ track.Bcp ∷ track.Informational ∷ track.Experimental ∷ track.Historic ∷ []

abbrev pub track_word : Track → List ℕ
track_word track.Standards = codes "standards"
track_word track.Bcp = codes "bcp"
track_word track.Informational = codes "informational"
track_word track.Experimental = codes "experimental"
track_word track.Historic = codes "historic"

abbrev pub read_track : List ℕ → Option Track
read_track s = read_among tracks track_word s

abbrev pub item_word : Item → List ℕ
item_word item.Policy = codes "policy"
item_word item.Contact = codes "contact"
item_word item.Specification = codes "specification"
item_word item.Rfc = codes "rfc"
item_word item.Stream = codes "stream"
item_word item.Track = codes "track"
item_word item.Minute = codes "minute"
item_word item.Draft = codes "draft"
item_word item.Stable = codes "stable"
item_word item.Interest = codes "interest"
item_word item.Chair = codes "chair"
item_word item.Director = codes "director"
