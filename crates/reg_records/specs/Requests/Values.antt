-- The values that are written of a request, in the order of the columns.
use Rattle.std.specs.Prelude.{ℕ, List, [], ◌∷◌, ◌++◌, replicate, Option, Some, None}
use Rattle.std.specs.Fmt.{decimal}
use Rattle.sqlite.specs.Order.{Row}
use Rattle.sqlite.specs.Values.{or_null}
use Rattle.sqlite.specs.declared.types.Value.{Value as SqlValue}
use Rattle.sqlite.specs.declared.types.Value.TheVariants.{Null, Text}
use Rattle.reg_blocks.specs.Digits.{block_text}
use Rattle.reg_blocks.specs.Size.{word_of as size_word}
use Rattle.reg_ranges.specs.Words.{policy_word, stream_word, track_word}
use Rattle.reg_ranges.specs.declared.evidence.Evidence.{Evidence}
use Rattle.reg_early.specs.declared.evidence.EarlyEvidence.{EarlyEvidence}
use Rattle.reg_core.specs.Request.{state_word, word_of}
use Rattle.reg_core.specs.declared.ask.Ask.{Ask}
use Rattle.reg_core.specs.declared.ask.Ask.TheVariants as ask
use Rattle.reg_core.specs.declared.ask.BlockAsk.{BlockAsk}
use Rattle.reg_core.specs.declared.ask.Want.{Want}
use Rattle.reg_core.specs.declared.ask.Want.TheVariants as want
use Rattle.reg_core.specs.declared.request.Given.{Given}
use Rattle.reg_core.specs.declared.request.Given.TheVariants as given
use Rattle.reg_core.specs.declared.request.Request.{Request}
use Rattle.reg_core.specs.declared.request.State.{State}
use Rattle.reg_core.specs.declared.request.State.TheVariants.{Pending, Approved, Declined, Withdrawn}
use Rattle.reg_core.specs.AskKind.{ask_kind_word, ask_kind_of}
use Rattle.reg_records.specs.Columns.{whole_value, flag_value}

-- ---- What is asked for

-- the value that is wanted, where one is named
abbrev pub value_wanted : Want → SqlValue
value_wanted (want.Value v) = whole_value v
value_wanted (want.Least policy) = Null

-- the policy whose least value is wanted, where one is
abbrev pub least_wanted : Want → SqlValue
least_wanted (want.Value v) = Null
least_wanted (want.Least policy) = Text (policy_word policy)

-- contact, specification, rfc_number, rfc_stream, rfc_track, minute
abbrev pub evidence_values : Evidence → Row
evidence_values evidence =
    or_null Text evidence.contact
    ∷ or_null Text evidence.spec
    ∷ or_null (λ rfc. whole_value rfc.number) evidence.rfc
    ∷ or_null (λ rfc. Text (stream_word rfc.stream)) evidence.rfc
    ∷ or_null (λ rfc. Text (track_word rfc.track)) evidence.rfc
    ∷ or_null Text evidence.minute
    ∷ []

-- draft, stable, interest, chair, director, will_be_rfc
abbrev pub early_values : EarlyEvidence → Row
early_values evidence =
    or_null Text evidence.draft
    ∷ flag_value evidence.stable
    ∷ flag_value evidence.interest
    ∷ or_null Text evidence.chair
    ∷ or_null Text evidence.director
    ∷ flag_value evidence.will_be_rfc
    ∷ []

-- size, organization, address
abbrev pub block_values : BlockAsk → Row
block_values ask =
    Text (size_word ask.size) ∷ Text ask.organization ∷ Text ask.address ∷ []

-- columns that are not there
abbrev pub nulls : ℕ → Row
nulls count = replicate count Null

-- registry, value, least, label
abbrev pub wanted_values : Ask → Row
wanted_values (ask.Code ask) =
    Text ask.registry ∷ value_wanted ask.want ∷ least_wanted ask.want ∷ Text ask.label ∷ []
wanted_values (ask.Early ask) =
    Text ask.registry ∷ value_wanted ask.want ∷ least_wanted ask.want ∷ Text ask.label ∷ []
wanted_values (ask.Renew ask) = Text ask.registry ∷ whole_value ask.value ∷ nulls 2
wanted_values (ask.Permanent ask) = Text ask.registry ∷ whole_value ask.value ∷ nulls 2
wanted_values (ask.Block ask) = nulls 4

-- what is shown for an assignment, by an ask for one
abbrev pub shown_values : Ask → Row
shown_values (ask.Code ask) = evidence_values ask.evidence
shown_values (ask.Early ask) = nulls 6
shown_values (ask.Renew ask) = nulls 6
shown_values (ask.Permanent ask) = evidence_values ask.evidence
shown_values (ask.Block ask) = nulls 6

-- what is shown for an early allocation, by an ask for one
abbrev pub early_shown_values : Ask → Row
early_shown_values (ask.Code ask) = nulls 6
early_shown_values (ask.Early ask) = early_values ask.evidence
early_shown_values (ask.Renew ask) = early_values ask.evidence
early_shown_values (ask.Permanent ask) = nulls 6
early_shown_values (ask.Block ask) = nulls 6

-- the block, by an ask for one
abbrev pub block_wanted_values : Ask → Row
block_wanted_values (ask.Code ask) = nulls 3
block_wanted_values (ask.Early ask) = nulls 3
block_wanted_values (ask.Renew ask) = nulls 3
block_wanted_values (ask.Permanent ask) = nulls 3
block_wanted_values (ask.Block ask) = block_values ask

-- what an ask has no column for is NULL
abbrev pub asked_values : Ask → Row
asked_values ask =
    wanted_values ask ++ shown_values ask ++ early_shown_values ask ++ block_wanted_values ask

-- an ask's kind and what it asks for
abbrev pub ask_values : Ask → Row
ask_values ask = Text (ask_kind_word (ask_kind_of ask)) ∷ asked_values ask

-- ---- Where a request stands

-- what was given, as a text: a value in decimal, a block as the digits of its prefix
abbrev pub text_of : Given → List ℕ
text_of (given.Value v) = decimal v
text_of (given.Block block) = block_text block

-- what an approved request was given
abbrev pub given_text : State → Option (List ℕ)
given_text Pending = None
given_text (Approved given) = Some (text_of given)
given_text (Declined reason) = None
given_text Withdrawn = None

-- why a declined request was given nothing
abbrev pub reason_text : State → Option (List ℕ)
reason_text Pending = None
reason_text (Approved given) = None
reason_text (Declined reason) = Some reason
reason_text Withdrawn = None

-- state, given, reason
abbrev pub state_values : State → Row
state_values state =
    Text (state_word (word_of state))
    ∷ or_null Text (given_text state)
    ∷ or_null Text (reason_text state)
    ∷ []

-- ---- The row

-- account and reference, the ask, the state
abbrev pub request_values : Request → Row
request_values request =
    Text request.account ∷ Text request.reference ∷ ask_values request.ask
    ++ state_values request.state
