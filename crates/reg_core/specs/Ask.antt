-- What an ask is.
use Rattle.std.specs.Prelude.{ℕ, Bool, true, false, ◌&&◌, ◌==◌, ◌^◌, nat_lt, bytes_eq, List, Option, Some, None}
use Rattle.std.specs.Option.{option_eq}
pub use Rattle.reg_ranges.specs.Forms.{has_evidence_form}
use Rattle.reg_early.specs.Forms.{has_early_form}
use Rattle.reg_early.specs.Sameness.{same_early_evidence}
use Rattle.reg_ranges.specs.Forms.{is_none_or, is_rfc}
use Rattle.reg_ranges.specs.Rfcs.{PublishedRfc}
use Rattle.reg_ranges.specs.Sameness.{same_policy, same_evidence}
use Rattle.reg_ranges.specs.Texts.{is_text}
use Rattle.reg_core.specs.Names.{is_name}
use Rattle.reg_blocks.specs.declared.size.Size.{Size}
use Rattle.reg_blocks.specs.declared.size.Size.TheVariants.{MaL, MaM, MaS}
use Rattle.reg_core.specs.declared.ask.BlockAsk.{BlockAsk}
use Rattle.reg_core.specs.declared.ask.CodeAsk.{CodeAsk}
use Rattle.reg_core.specs.declared.ask.EarlyAsk.{EarlyAsk}
use Rattle.reg_core.specs.declared.ask.PermanenceAsk.{PermanenceAsk}
use Rattle.reg_core.specs.declared.ask.RenewalAsk.{RenewalAsk}
use Rattle.reg_core.specs.declared.ask.Ask.{Ask}
use Rattle.reg_core.specs.declared.ask.Ask.TheVariants.{Code, Early, Renew, Permanent, Block}
use Rattle.reg_core.specs.declared.ask.Want.{Want}
use Rattle.reg_core.specs.declared.ask.Want.TheVariants.{Value, Least}

-- ---- Forms

-- a text that may be missing
abbrev pub has_note_form : Option (List ℕ) → Bool
has_note_form = is_none_or is_text

-- an RFC that may be missing
abbrev pub has_rfc_form : Option PublishedRfc → Bool
has_rfc_form = is_none_or is_rfc

-- each part of an ask has its form, and so has an ask, with a line for each kind
abbrev pub has_want_form : Want → Bool
has_want_form (Value v) = nat_lt v (2 ^ 32)
has_want_form (Least policy) = true

abbrev pub has_code_form : CodeAsk → Bool
has_code_form ask =
    is_name ask.registry && has_want_form ask.want && is_text ask.label
    && has_evidence_form ask.evidence

abbrev pub has_early_ask_form : EarlyAsk → Bool
has_early_ask_form ask =
    is_name ask.registry && has_want_form ask.want && is_text ask.label
    && has_early_form ask.evidence

abbrev pub has_renewal_form : RenewalAsk → Bool
has_renewal_form ask =
    is_name ask.registry && nat_lt ask.value (2 ^ 32) && has_early_form ask.evidence
    && has_note_form ask.iesg

abbrev pub has_permanence_form : PermanenceAsk → Bool
has_permanence_form ask =
    is_name ask.registry && nat_lt ask.value (2 ^ 32) && has_evidence_form ask.evidence

abbrev pub has_block_form : BlockAsk → Bool
has_block_form ask = is_text ask.organization && is_text ask.address

abbrev pub has_ask_form : Ask → Bool
has_ask_form (Code ask) = has_code_form ask
has_ask_form (Early ask) = has_early_ask_form ask
has_ask_form (Renew ask) = has_renewal_form ask
has_ask_form (Permanent ask) = has_permanence_form ask
has_ask_form (Block ask) = has_block_form ask

-- ---- Registries

-- the registry that an ask names; one for a block names none
abbrev pub registry_of : Ask → Option (List ℕ)
registry_of (Code ask) = Some ask.registry
registry_of (Early ask) = Some ask.registry
registry_of (Renew ask) = Some ask.registry
registry_of (Permanent ask) = Some ask.registry
registry_of (Block ask) = None

-- ---- Sameness

-- two asks are the same; of two kinds they never are
abbrev pub same_want : Want → Want → Bool
same_want (Value v) (Value u) = v == u
same_want (Least p) (Least q) = same_policy p q
same_want (Value v) (Least q) = false
same_want (Least p) (Value u) = false

abbrev pub same_code : CodeAsk → CodeAsk → Bool
same_code a b =
    bytes_eq a.registry b.registry
    && (same_want a.want b.want
    && (bytes_eq a.label b.label && same_evidence a.evidence b.evidence))

abbrev pub same_early : EarlyAsk → EarlyAsk → Bool
same_early a b =
    bytes_eq a.registry b.registry
    && (same_want a.want b.want
    && (bytes_eq a.label b.label && same_early_evidence a.evidence b.evidence))

abbrev pub same_renewal : RenewalAsk → RenewalAsk → Bool
same_renewal a b =
    bytes_eq a.registry b.registry
    && (a.value == b.value
    && (same_early_evidence a.evidence b.evidence && option_eq bytes_eq a.iesg b.iesg))

abbrev pub same_permanence : PermanenceAsk → PermanenceAsk → Bool
same_permanence a b =
    bytes_eq a.registry b.registry
    && (a.value == b.value && same_evidence a.evidence b.evidence)

abbrev pub same_size : Size → Size → Bool
same_size MaL MaL = true
same_size MaM MaM = true
same_size MaS MaS = true
same_size a b = false

abbrev pub same_block : BlockAsk → BlockAsk → Bool
same_block a b =
    same_size a.size b.size
    && (bytes_eq a.organization b.organization && bytes_eq a.address b.address)

abbrev pub same_ask : Ask → Ask → Bool
same_ask (Code a) (Code b) = same_code a b
same_ask (Early a) (Early b) = same_early a b
same_ask (Renew a) (Renew b) = same_renewal a b
same_ask (Permanent a) (Permanent b) = same_permanence a b
same_ask (Block a) (Block b) = same_block a b
same_ask a b = false
