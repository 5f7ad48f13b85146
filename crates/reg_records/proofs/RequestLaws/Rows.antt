-- Rows of requests: a row reads as a request exactly where it has what is written for it.
use Rattle.std.proofs.Common.{◌≡◌, ◌^◌, true, ◌&&◌, ◌∷◌, ◌++◌, nat_lt, take, drop, Some, refl, sym, ◌∙◌, ap, subst}
use Rattle.std.proofs.lemmas.Bool.{and_parts, and_from}
use Rattle.std.proofs.lemmas.Option.{same_Some}
use Rattle.sqlite.specs.Order.{Row, column}
use Rattle.sqlite.specs.declared.types.Value.{Value}
use Rattle.sqlite.specs.declared.types.Value.TheVariants.{Text}
use Rattle.reg_early.specs.Forms.{has_early_form}
use Rattle.reg_core.specs.Ask.{has_ask_form, has_note_form}
use Rattle.reg_core.specs.Names.{is_name}
use Rattle.reg_core.specs.Request.{case_of, has_state_form}
use Rattle.reg_core.specs.WellKept.{has_request_form}
use Rattle.reg_core.specs.declared.ask.Ask.{Ask}
use Rattle.reg_core.specs.declared.ask.Ask.TheVariants.{Code, Renew}
use Rattle.reg_core.specs.declared.request.Request.{Request}
use Rattle.reg_core.specs.declared.request.Given.{Given}
use Rattle.reg_core.specs.declared.request.Given.TheVariants as given
use Rattle.reg_core.specs.declared.request.State.{State}
use Rattle.reg_core.specs.declared.request.State.TheVariants.{Approved}
use Rattle.reg_records.specs.Laws.{KeepsRows}
use Rattle.reg_records.specs.Requests.Forms.{gives_its_kind, is_of_kind, is_request}
use Rattle.reg_records.specs.Requests.Laws.{RequestsReadBare, StatesAreReplaced, with_state}
use Rattle.reg_core.specs.Minutes.{bare, bare_ask, is_bare}
use Rattle.reg_records.specs.Requests.Reading.{columns, request_columns, request_in}
use Rattle.reg_records.specs.Requests.Values.{ask_values, state_values, request_values}
use Rattle.reg_records.proofs.ColumnLaws.{column_some, keeps_rows}
use Rattle.reg_records.proofs.RequestLaws.Asks.{asks}
use Rattle.reg_records.proofs.RequestLaws.States.{stands}
use Rattle.reg_records.proofs.RequestLaws.Steps.{part_some, part-at, value-at, names, ◌⊕◌, one, cell, within}

request_kept : (row : Row) (r : Request) → request_in row ≡ Some r
    → (request_columns row ≡ request_values r) × (is_request r ≡ true)
unfolding request_in
request_kept row r h =
    column_some names (column row 0) _ r h (λ account is0 form0 h.
    column_some names (column row 1) _ r h (λ reference is1 form1 h.
    part_some asks row _ r h (λ ask is2 form2 h.
    part_some (stands ask) row _ r h (λ state is3 form3 h.
    let asked = and_parts (has_ask_form ask) (is_bare ask) form2 in
    let forms = and_parts (has_state_form state) (gives_its_kind ask state) form3 in
    subst (λ r. (request_columns row ≡ request_values r) × (is_request r ≡ true))
    (same_Some _ r h)
    (one is0 ⊕ one is1 ⊕ is2 ⊕ is3, rw (form0, form1, asked.0, asked.1, forms.0, forms.1) refl)))))

-- ---- Back

ask_cells : (a : Ask) (rest : Row) → take 20 (ask_values a ++ rest) ≡ ask_values a
ask_cells (Code a) rest = refl
ask_cells _ rest = refl

state_cells : (a : Ask) (rest : Row) → drop 20 (ask_values a ++ rest) ≡ rest
state_cells (Code a) rest = refl
state_cells _ rest = refl

-- the parts of a request's form
record Forms (r : Request) : Type 0 where
  account : is_name r.account ≡ true
  reference : is_name r.reference ≡ true
  ask : has_ask_form r.ask ≡ true
  state : has_state_form r.state ≡ true
  kind : gives_its_kind r.ask r.state ≡ true
  bare : is_bare r.ask ≡ true

forms_of : (r : Request) → is_request r ≡ true → Forms r
forms_of r h =
    let five = and_parts (has_request_form (r.account, r.reference) (case_of r)
    && gives_its_kind r.ask r.state) (is_bare r.ask) h in
    let four = and_parts (has_request_form (r.account, r.reference) (case_of r))
    (gives_its_kind r.ask r.state) five.0 in
    let three = and_parts (is_name r.account && is_name r.reference && has_ask_form r.ask)
    (has_state_form r.state) four.0 in
    let two = and_parts (is_name r.account && is_name r.reference) (has_ask_form r.ask) three.0 in
    let one = and_parts (is_name r.account) (is_name r.reference) two.0 in
    record {
      account = one.0;
      reference = one.1;
      ask = two.1;
      state = three.1;
      kind = four.1;
      bare = five.1;
    }

-- a row that has what is written for a request reads as it
pub request_held : (row : Row) (r : Request) → request_columns row ≡ request_values r
    → is_request r ≡ true → request_in row ≡ Some r
unfolding request_in
request_held row r h form =
    let forms = forms_of r form in
    let asked : columns row 2 20 ≡ ask_values r.ask =
    within 2 20 h ∙ ask_cells r.ask (state_values r.state) in
    let stood : columns row 22 3 ≡ state_values r.state =
    ap (λ cells. drop 22 cells) h ∙ state_cells r.ask (state_values r.state) in
    value-at names (column row 0) r.account (cell 0 h) forms.account _ _ (
    value-at names (column row 1) r.reference (cell 1 h) forms.reference _ _ (
    part-at asks row r.ask asked (and_from (has_ask_form r.ask) (is_bare r.ask) forms.ask forms.bare)
    _ _ (
    part-at (stands r.ask) row r.state stood
    (and_from (has_state_form r.state) (gives_its_kind r.ask r.state) forms.state forms.kind)
    _ _ refl)))

-- what is written for a request has all columns, and no others
columns_of : (account reference : Value) (a : Ask) (s : State)
    → request_columns (account ∷ reference ∷ ask_values a ++ state_values s)
    ≡ account ∷ reference ∷ ask_values a ++ state_values s
columns_of account reference (Code a) s = refl
columns_of account reference _ s = refl

pub request_columns-request_values : (r : Request)
    → request_columns (request_values r) ≡ request_values r
request_columns-request_values r =
    columns_of (Text r.account) (Text r.reference) r.ask r.state

pub request_back : (r : Request) → is_request r ≡ true → request_in (request_values r) ≡ Some r
request_back r form =
    request_held (request_values r) r (request_columns-request_values r) form

-- ---- Without the minute

bare_ask_form : (a : Ask) → has_ask_form a ≡ true → has_ask_form (bare_ask a) ≡ true
bare_ask_form (Renew a) form = and_from (is_name a.registry && nat_lt a.value (2 ^ 32)
    && has_early_form a.evidence) true ((and_parts _ (has_note_form a.iesg) form).0) refl
bare_ask_form _ form = form

bare_ask_bare : (a : Ask) → is_bare (bare_ask a) ≡ true
bare_ask_bare (Code a) = refl
bare_ask_bare _ = refl

-- what is given for an ask does not go by its minute
given_bare : (a : Ask) (g : Given) → is_of_kind (bare_ask a) g ≡ is_of_kind a g
given_bare (Renew a) (given.Value v) = refl
given_bare _ _ = refl

pub gives_its_kind-bare_ask : (a : Ask) (s : State)
    → gives_its_kind (bare_ask a) s ≡ gives_its_kind a s
gives_its_kind-bare_ask a (Approved g) = given_bare a g
gives_its_kind-bare_ask a _ = refl

-- without its minute a request has the form of one that a row holds
pub bare_form : (r : Request)
    → has_request_form (r.account, r.reference) (case_of r) ≡ true
    → gives_its_kind r.ask r.state ≡ true → is_request (bare r) ≡ true
bare_form r form kind =
    let three = and_parts (is_name r.account && is_name r.reference && has_ask_form r.ask)
    (has_state_form r.state) form in
    let two = and_parts (is_name r.account && is_name r.reference) (has_ask_form r.ask) three.0 in
    rw (
      two.0,
      bare_ask_form r.ask two.1,
      three.1,
      gives_its_kind-bare_ask r.ask r.state,
      kind,
      bare_ask_bare r.ask,
    ) refl

-- and its row is the same
asked_values-bare_ask : (a : Ask) → ask_values (bare_ask a) ≡ ask_values a
asked_values-bare_ask (Code a) = refl
asked_values-bare_ask _ = refl

pub request_values-bare : (r : Request) → request_values (bare r) ≡ request_values r
request_values-bare r =
    ap (λ cells. Text r.account ∷ Text r.reference ∷ cells ++ state_values r.state)
    (asked_values-bare_ask r.ask)

pub request_bare : RequestsReadBare
request_bare r form kind =
    ap request_in (sym (request_values-bare r)) ∙ request_back (bare r) (bare_form r form kind)

pub requests_kept : KeepsRows request_columns request_in request_values is_request
requests_kept = keeps_rows request_back request_kept

-- ---- Another state

pub state_replaced : StatesAreReplaced
state_replaced row r s h form kind =
    let kept = request_kept row r h in
    let forms = forms_of r kept.1 in
    let named : columns row 0 22 ≡ Text r.account ∷ Text r.reference ∷ ask_values r.ask =
    within 0 22 kept.0
    ∙ ap (λ cells. Text r.account ∷ Text r.reference ∷ cells)
    (ask_cells r.ask (state_values r.state)) in
    request_held (with_state s row) (record r { state = s })
    (ap (λ cells. cells ++ state_values s) named)
    (rw (forms.account, forms.reference, forms.ask, forms.bare, form, kind) refl)
