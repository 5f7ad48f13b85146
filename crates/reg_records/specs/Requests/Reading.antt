-- The request that a row holds, where each of its columns has its form.
use Rattle.std.specs.Prelude.{ℕ, Bool, List, map, Option, Some, None, if◌then◌else◌, option_map}
use Rattle.std.specs.List.{list_all, range_with_len}
use Rattle.std.specs.Str.{bytes_eq}
use Rattle.sqlite.specs.Order.{Row, column}
use Rattle.sqlite.specs.declared.types.Value.{Value as SqlValue}
use Rattle.reg_blocks.specs.Block.{SizedPrefix}
use Rattle.reg_blocks.specs.Digits.{read_block, block_text}
use Rattle.reg_ranges.specs.Forms.{is_rfc}
use Rattle.reg_ranges.specs.Numbers.{read_number}
use Rattle.reg_ranges.specs.Rfcs.{PublishedRfc}
use Rattle.reg_ranges.specs.Texts.{is_text}
use Rattle.reg_ranges.specs.Words.{read_policy, read_stream, read_track}
use Rattle.reg_ranges.specs.declared.evidence.Evidence.{Evidence}
use Rattle.reg_ranges.specs.declared.evidence.Stream.{Stream}
use Rattle.reg_ranges.specs.declared.evidence.Track.{Track}
use Rattle.reg_ranges.specs.declared.policy.Policy.{Policy}
use Rattle.reg_early.specs.declared.evidence.EarlyEvidence.{EarlyEvidence}
use Rattle.reg_core.specs.Names.{is_name}
use Rattle.reg_core.specs.declared.ask.Ask.{Ask}
use Rattle.reg_core.specs.declared.ask.Ask.TheVariants as ask
use Rattle.reg_core.specs.declared.ask.BlockAsk.{BlockAsk}
use Rattle.reg_core.specs.declared.ask.CodeAsk.{CodeAsk}
use Rattle.reg_core.specs.declared.ask.EarlyAsk.{EarlyAsk}
use Rattle.reg_core.specs.declared.ask.PermanenceAsk.{PermanenceAsk}
use Rattle.reg_core.specs.declared.ask.RenewalAsk.{RenewalAsk}
use Rattle.reg_core.specs.declared.ask.Want.{Want}
use Rattle.reg_core.specs.declared.ask.Want.TheVariants as want
use Rattle.reg_core.specs.declared.request.Given.{Given}
use Rattle.reg_core.specs.declared.request.Given.TheVariants as award
use Rattle.reg_core.specs.declared.request.Request.{Request}
use Rattle.reg_core.specs.declared.request.State.{State}
use Rattle.reg_core.specs.declared.request.State.TheVariants as state
use Rattle.reg_core.specs.declared.request.StateWord.{StateWord}
use Rattle.reg_core.specs.declared.request.StateWord.TheVariants.{Pending, Approved, Declined, Withdrawn}
use Rattle.reg_core.specs.AskKind.{read_ask_kind}
use Rattle.reg_core.specs.Request.{read_state}
use Rattle.reg_core.specs.declared.ask_kind.AskKind.{AskKind}
use Rattle.reg_core.specs.declared.ask_kind.AskKind.TheVariants as kind
use Rattle.reg_records.specs.Columns.{flag_in, formed_in, given, is_null, is_number, number_in, or_null_in, read_in}
use Rattle.reg_records.specs.Words.{read_size}

-- a part, and what is made of it
infixl 10 ◌>>=◌
abbrev pub ◌>>=◌ : {A B : Type 0} → Option A → (A → Option B) → Option B
part >>= make = given part make

-- a test, and what is there where it holds
infixl 10 ◌>>◌
abbrev pub ◌>>◌ : {A : Type 0} → Bool → Option A → Option A
test >> next = if test then next else None

-- ---- Columns

-- so many columns, from one on
abbrev pub columns : Row → ℕ → ℕ → Row
columns row from count = map (column row) (range_with_len from count)

-- none of these columns is there
abbrev pub are_null : Row → ℕ → ℕ → Bool
are_null row from count = list_all (λ at. is_null (column row at)) (range_with_len from count)

-- an account, a reference or a registry's name
abbrev pub name_in : SqlValue → Option (List ℕ)
name_in value = formed_in is_name value

-- a printable text
abbrev pub printable_in : SqlValue → Option (List ℕ)
printable_in value = formed_in is_text value

-- ---- What is asked for

-- a value, or the least under a policy
abbrev pub wanted : Option ℕ → Option Policy → Option Want
wanted (Some value) None = Some (want.Value value)
wanted None (Some policy) = Some (want.Least policy)
wanted (Some value) (Some policy) = None
wanted None None = None

-- what is wanted of a registry
unfoldable pub want_in : Row → Option Want
want_in row = do
  value ← or_null_in (number_in is_number) (column row 4)
  policy ← or_null_in (read_in read_policy) (column row 5)
  wanted value policy

-- the RFC of this number, if there is one
abbrev pub rfc_of : ℕ → Stream → Track → Option PublishedRfc
rfc_of number stream track =
    let rfc : PublishedRfc = record { number = number; stream = stream; track = track } in
    (if is_rfc rfc then Some rfc else None)

-- all of an RFC, or nothing of it
abbrev pub published : Option ℕ → Option Stream → Option Track → Option (Option PublishedRfc)
published None None None = Some None
published (Some number) (Some stream) (Some track) =
    option_map Some (rfc_of number stream track)
published number stream track = None

-- the RFC that describes a value, if one does
unfoldable pub rfc_in : Row → Option (Option PublishedRfc)
rfc_in row = do
  number ← or_null_in (number_in is_number) (column row 9)
  stream ← or_null_in (read_in read_stream) (column row 10)
  track ← or_null_in (read_in read_track) (column row 11)
  published number stream track

-- what is shown for an assignment
unfoldable pub evidence_in : Row → Option Evidence
evidence_in row = do
  contact ← or_null_in printable_in (column row 7)
  specification ← or_null_in printable_in (column row 8)
  rfc ← rfc_in row
  minute ← or_null_in printable_in (column row 12)
  Some (record { contact = contact; spec = specification; rfc = rfc; minute = minute })

-- what is shown for an early allocation
unfoldable pub early_in : Row → Option EarlyEvidence
early_in row = do
  draft ← or_null_in printable_in (column row 13)
  stable ← flag_in (column row 14)
  interest ← flag_in (column row 15)
  chair ← or_null_in printable_in (column row 16)
  director ← or_null_in printable_in (column row 17)
  will_be_rfc ← flag_in (column row 18)
  Some (record {
    draft = draft;
    stable = stable;
    interest = interest;
    chair = chair;
    director = director;
    will_be_rfc = will_be_rfc;
  })

-- an ask for a value, which shows nothing early and wants no block
unfoldable pub code_in : Row → Option CodeAsk
code_in row = do
  are_null row 13 9
  registry ← name_in (column row 3)
  want ← want_in row
  label ← printable_in (column row 6)
  evidence ← evidence_in row
  Some (record { registry = registry; want = want; label = label; evidence = evidence })

-- an ask for an early allocation, which shows only what is asked of one and wants no block
unfoldable pub early_ask_in : Row → Option EarlyAsk
early_ask_in row = do
  are_null row 7 6
  are_null row 19 3
  registry ← name_in (column row 3)
  want ← want_in row
  label ← printable_in (column row 6)
  evidence ← early_in row
  Some (record { registry = registry; want = want; label = label; evidence = evidence })

-- an ask for another year, which names its value and has no label; the minute that it may name is a
-- row of another table
unfoldable pub renewal_in : Row → Option RenewalAsk
renewal_in row = do
  are_null row 5 8
  are_null row 19 3
  registry ← name_in (column row 3)
  value ← number_in is_number (column row 4)
  evidence ← early_in row
  Some (record { registry = registry; value = value; evidence = evidence; iesg = None })

-- an ask that a value be assigned for good, which names its value and has no label
unfoldable pub permanence_in : Row → Option PermanenceAsk
permanence_in row = do
  are_null row 5 2
  are_null row 13 9
  registry ← name_in (column row 3)
  value ← number_in is_number (column row 4)
  evidence ← evidence_in row
  Some (record { registry = registry; value = value; evidence = evidence })

-- an ask for a block, which wants no value and shows nothing
unfoldable pub block_in : Row → Option BlockAsk
block_in row = do
  are_null row 3 16
  size ← read_in read_size (column row 19)
  organization ← printable_in (column row 20)
  address ← printable_in (column row 21)
  Some (record { size = size; organization = organization; address = address })

-- the ask of this kind
abbrev pub ask_of : AskKind → Row → Option Ask
ask_of kind.Code row = option_map ask.Code (code_in row)
ask_of kind.Early row = option_map ask.Early (early_ask_in row)
ask_of kind.Renew row = option_map ask.Renew (renewal_in row)
ask_of kind.Permanent row = option_map ask.Permanent (permanence_in row)
ask_of kind.Block row = option_map ask.Block (block_in row)

-- the ask, of the kind that its word names
unfoldable pub ask_in : Row → Option Ask
ask_in row = do
  kind ← read_in read_ask_kind (column row 2)
  ask_of kind row

-- ---- Where a request stands

-- the block that is written so
abbrev pub written_block : List ℕ → Option SizedPrefix
written_block text = do
  block ← read_block text
  bytes_eq text (block_text block)
  Some block

-- what was given: a block where one was asked for, and a value of the registry otherwise
abbrev pub read_given : Ask → List ℕ → Option Given
read_given (ask.Code ask) text = option_map award.Value (read_number text)
read_given (ask.Early ask) text = option_map award.Value (read_number text)
read_given (ask.Renew ask) text = option_map award.Value (read_number text)
read_given (ask.Permanent ask) text = option_map award.Value (read_number text)
read_given (ask.Block ask) text = option_map award.Block (written_block text)

-- the state of an approved request, which has no reason
abbrev pub approved_in : Ask → Row → Option State
approved_in ask row = do
  are_null row 24 1
  given ← read_in (read_given ask) (column row 23)
  Some (state.Approved given)

-- the state of a declined request, which was given nothing
abbrev pub declined_in : Row → Option State
declined_in row = do
  are_null row 23 1
  reason ← printable_in (column row 24)
  Some (state.Declined reason)

-- the state of this word; one that needs neither has nothing given and no reason
abbrev pub state_of : Ask → StateWord → Row → Option State
state_of ask Pending row = are_null row 23 2 >> Some state.Pending
state_of ask Approved row = approved_in ask row
state_of ask Declined row = declined_in row
state_of ask Withdrawn row = are_null row 23 2 >> Some state.Withdrawn

-- where a request for this stands
unfoldable pub state_in : Ask → Row → Option State
state_in ask row = do
  word ← read_in read_state (column row 22)
  state_of ask word row

-- ---- The row

-- the columns that are selected, all of the table
abbrev pub request_columns : Row → Row
request_columns row = columns row 0 25

-- account and reference, the ask, the state
unfoldable pub request_in : Row → Option Request
request_in row = do
  account ← name_in (column row 0)
  reference ← name_in (column row 1)
  ask ← ask_in row
  state ← state_in ask row
  Some (record { account = account; reference = reference; ask = ask; state = state })
