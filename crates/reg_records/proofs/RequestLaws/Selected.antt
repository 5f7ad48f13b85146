-- A row reads by the columns of the table alone.
use Rattle.std.proofs.Common.{◌≡◌, Option, Some, None, refl}
use Rattle.sqlite.specs.Order.{Row, column}
use Rattle.reg_core.specs.declared.ask.Ask.{Ask}
use Rattle.reg_core.specs.declared.request.StateWord.{StateWord}
use Rattle.reg_core.specs.declared.request.StateWord.TheVariants.{Pending}
use Rattle.reg_core.specs.AskKind.{read_ask_kind}
use Rattle.reg_core.specs.Request.{read_state}
use Rattle.reg_core.specs.declared.ask_kind.AskKind.{AskKind}
use Rattle.reg_core.specs.declared.ask_kind.AskKind.TheVariants as kind
use Rattle.reg_records.specs.Columns.{given, read_in}
use Rattle.reg_records.specs.Requests.Laws.{RowsReadByTheirColumns}
use Rattle.reg_records.specs.Requests.Reading.{ask_in, ask_of, block_in, code_in, early_ask_in, early_in, evidence_in, name_in, permanence_in, renewal_in, request_columns, request_in, rfc_in, state_in, state_of, want_in}

given-same : {A B : Type 0} (o : Option A) (f g : A → Option B) → ((x : A) → f x ≡ g x)
    → given o f ≡ given o g
given-same None f g same = refl
given-same (Some x) f g same = same x

ask_of-columns : (kind : AskKind) (row : Row) → ask_of kind (request_columns row) ≡ ask_of kind row
unfolding code_in early_ask_in renewal_in permanence_in block_in want_in rfc_in evidence_in early_in
ask_of-columns kind.Code row = refl
ask_of-columns _ row = refl

ask_in-columns : (row : Row) → ask_in (request_columns row) ≡ ask_in row
unfolding ask_in
ask_in-columns row =
    given-same (read_in read_ask_kind (column row 2)) _ _ (λ kind. ask_of-columns kind row)

state_of-columns : (ask : Ask) (word : StateWord) (row : Row)
    → state_of ask word (request_columns row) ≡ state_of ask word row
state_of-columns ask Pending row = refl
state_of-columns ask _ row = refl

state_in-columns : (ask : Ask) (row : Row) → state_in ask (request_columns row) ≡ state_in ask row
unfolding state_in
state_in-columns ask row =
    given-same (read_in read_state (column row 22)) _ _ (λ word. state_of-columns ask word row)

pub request_in_columns : RowsReadByTheirColumns
unfolding request_in
request_in_columns row =
    given-same (name_in (column row 0)) _ _ (λ account.
    given-same (name_in (column row 1)) _ _ (λ reference.
    rw (ask_in-columns row) (given-same (ask_in row) _ _ (λ ask.
    rw (state_in-columns ask row) refl))))
