-- The JSON of an ask.
use Rattle.std.specs.Prelude.{[], ◌∷◌, ◌++◌, Option, None, option_map, codes}
use Rattle.serde_json.specs.Data.{Data}
use Rattle.reg_blocks.specs.Size.{word_of}
use Rattle.reg_ranges.specs.Rfcs.{PublishedRfc}
use Rattle.reg_ranges.specs.Words.{policy_word, stream_word, track_word}
use Rattle.reg_early.specs.declared.evidence.EarlyEvidence.{EarlyEvidence}
use Rattle.reg_core.specs.AskKind.{ask_kind_word}
use Rattle.reg_core.specs.declared.ask.Ask.{Ask}
use Rattle.reg_core.specs.declared.ask.Ask.TheVariants.{Code, Early, Renew, Permanent, Block}
use Rattle.reg_core.specs.declared.ask.BlockAsk.{BlockAsk}
use Rattle.reg_core.specs.declared.ask.CodeAsk.{CodeAsk}
use Rattle.reg_core.specs.declared.ask.EarlyAsk.{EarlyAsk}
use Rattle.reg_core.specs.declared.ask.PermanenceAsk.{PermanenceAsk}
use Rattle.reg_core.specs.declared.ask.RenewalAsk.{RenewalAsk}
use Rattle.reg_core.specs.declared.ask.Want.{Want}
use Rattle.reg_core.specs.declared.ask.Want.TheVariants.{Value, Least}
use Rattle.reg_core.specs.declared.ask_kind.AskKind.TheVariants as kind
use Rattle.reg_print.specs.Trees.Members.{Listed, object_with, text, text_if, true_if, whole_number}

abbrev pub rfc_members : PublishedRfc → Listed
rfc_members rfc =
    (codes "number", whole_number rfc.number)
    ∷ (codes "stream", text (stream_word rfc.stream))
    ∷ (codes "track", text (track_word rfc.track))
    ∷ []

abbrev pub rfc_tree : PublishedRfc → Data
rfc_tree rfc = object_with (rfc_members rfc)

abbrev pub rfc_if : Option PublishedRfc → Option Data
rfc_if rfc = option_map rfc_tree rfc

-- the value that is wanted, where it is one of the asker's choice
abbrev pub value_if : Want → Option Data
value_if (Value v) = whole_number v
value_if (Least policy) = None

-- the policy whose least value is wanted, where it is that
abbrev pub least_if : Want → Option Data
least_if (Value v) = None
least_if (Least policy) = text (policy_word policy)

abbrev pub code_members : CodeAsk → Listed
code_members ask =
    (codes "contact", text_if ask.evidence.contact)
    ∷ (codes "kind", text (ask_kind_word kind.Code))
    ∷ (codes "label", text ask.label)
    ∷ (codes "least", least_if ask.want)
    ∷ (codes "minute", text_if ask.evidence.minute)
    ∷ (codes "registry", text ask.registry)
    ∷ (codes "rfc", rfc_if ask.evidence.rfc)
    ∷ (codes "specification", text_if ask.evidence.spec)
    ∷ (codes "value", value_if ask.want)
    ∷ []

abbrev pub code_tree : CodeAsk → Data
code_tree ask = object_with (code_members ask)

-- the texts among the evidence for an early allocation
abbrev pub early_text_members : EarlyEvidence → Listed
early_text_members evidence =
    (codes "chair", text_if evidence.chair)
    ∷ (codes "director", text_if evidence.director)
    ∷ (codes "draft", text_if evidence.draft)
    ∷ []

abbrev pub early_members : EarlyAsk → Listed
early_members ask =
    early_text_members ask.evidence
    ++ (codes "interest", true_if ask.evidence.interest)
    ∷ (codes "kind", text (ask_kind_word kind.Early))
    ∷ (codes "label", text ask.label)
    ∷ (codes "least", least_if ask.want)
    ∷ (codes "registry", text ask.registry)
    ∷ (codes "stable", true_if ask.evidence.stable)
    ∷ (codes "value", value_if ask.want)
    ∷ (codes "will_be_rfc", true_if ask.evidence.will_be_rfc)
    ∷ []

-- the JSON of an ask; of those of early allocations
abbrev pub early_tree : EarlyAsk → Data
early_tree ask = object_with (early_members ask)

abbrev pub renewal_members : RenewalAsk → Listed
renewal_members ask =
    early_text_members ask.evidence
    ++ (codes "iesg", text_if ask.iesg)
    ∷ (codes "interest", true_if ask.evidence.interest)
    ∷ (codes "kind", text (ask_kind_word kind.Renew))
    ∷ (codes "registry", text ask.registry)
    ∷ (codes "stable", true_if ask.evidence.stable)
    ∷ (codes "value", whole_number ask.value)
    ∷ (codes "will_be_rfc", true_if ask.evidence.will_be_rfc)
    ∷ []

abbrev pub renewal_tree : RenewalAsk → Data
renewal_tree ask = object_with (renewal_members ask)

abbrev pub permanence_members : PermanenceAsk → Listed
permanence_members ask =
    (codes "contact", text_if ask.evidence.contact)
    ∷ (codes "kind", text (ask_kind_word kind.Permanent))
    ∷ (codes "minute", text_if ask.evidence.minute)
    ∷ (codes "registry", text ask.registry)
    ∷ (codes "rfc", rfc_if ask.evidence.rfc)
    ∷ (codes "specification", text_if ask.evidence.spec)
    ∷ (codes "value", whole_number ask.value)
    ∷ []

abbrev pub permanence_tree : PermanenceAsk → Data
permanence_tree ask = object_with (permanence_members ask)

abbrev pub block_members : BlockAsk → Listed
block_members ask =
    (codes "address", text ask.address)
    ∷ (codes "kind", text (ask_kind_word kind.Block))
    ∷ (codes "organization", text ask.organization)
    ∷ (codes "size", text (word_of ask.size))
    ∷ []

abbrev pub block_tree : BlockAsk → Data
block_tree ask = object_with (block_members ask)

abbrev pub ask_tree : Ask → Data
ask_tree (Code ask) = code_tree ask
ask_tree (Early ask) = early_tree ask
ask_tree (Renew ask) = renewal_tree ask
ask_tree (Permanent ask) = permanence_tree ask
ask_tree (Block ask) = block_tree ask
