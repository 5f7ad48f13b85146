-- What a statement that asks for the value of one column asks of a row.
use Rattle.std.proofs.Common.{◌≡◌, ℕ, List, [], ◌∷◌, ◌++◌, Some, refl, ap, ◌∙◌}
use Rattle.std.proofs.Math.Bool.{and-true}
use Rattle.std.specs.Ordering.{eq_by_cmp, nat_cmp}
use Rattle.sqlite.specs.Order.{Row, column}
use Rattle.sqlite.specs.declared.types.Value.{Value}
use Rattle.sqlite.specs.declared.types.Value.TheVariants.{Text}
use Rattle.reg_maps.specs.Maps.{same_text}
use Rattle.reg_blocks.specs.Block.{first_address}
use Rattle.reg_core.specs.Request.{is_pending, state_word, word_of}
use Rattle.reg_core.specs.declared.ask.Ask.{Ask}
use Rattle.reg_core.specs.declared.ask.Ask.TheVariants.{Renew}
use Rattle.reg_core.specs.declared.holding.Holding.{Holding}
use Rattle.reg_core.specs.declared.request.Request.{Request}
use Rattle.reg_core.specs.declared.request.State.{State}
use Rattle.reg_core.specs.declared.request.State.TheVariants as state
use Rattle.reg_core.specs.declared.request.StateWord.TheVariants.{Pending}
use Rattle.reg_records.specs.Links.{link_in}
use Rattle.reg_records.specs.Blocks.{holding_in}
use Rattle.reg_records.specs.Columns.{whole_value}
use Rattle.reg_records.specs.Requests.Reading.{request_in}
use Rattle.reg_records.specs.Requests.Values.{ask_values, state_values}
use Rattle.reg_records.specs.declared.links.Link.{Link}
use Rattle.reg_records.proofs.HoldingLaws.{holdings_kept}
use Rattle.reg_records.proofs.LinkLaws.{links_kept}
use Rattle.reg_tables.specs.Editing.{has_all}
use Rattle.reg_tables.specs.Selecting.{stored}
use Rattle.reg_tables.specs.Values.{same_value}
use Rattle.reg_statements.proofs.Office as laws
use Rattle.reg_statements.proofs.Office.{whole_test}

pub asked : (at : ℕ) (value here : Value) (row : Row) → column row at ≡ here
    → has_all ((at, value) ∷ []) row ≡ same_value here value
asked at value here row is = and-true _ ∙ ap (λ v. same_value v value) is

-- the first address of a block
pub begins_at : (first : ℕ) (row : Row) (h : Holding) → holding_in (stored 6 row) ≡ Some h
    → has_all ((1, whole_value first) ∷ []) row ≡ eq_by_cmp nat_cmp (first_address h.block) first
begins_at first row h is =
    asked 1 (whole_value first) (whole_value (first_address h.block)) row
    (ap (λ (cells : Row). column cells 0) (holdings_kept.exact (stored 6 row) h is))
    ∙ whole_test (first_address h.block) first

-- its holder
pub held_by : (account : List ℕ) (row : Row) (h : Holding) → holding_in (stored 6 row) ≡ Some h
    → has_all ((3, Text account) ∷ []) row ≡ same_text h.holder account
held_by account row h is =
    asked 3 (Text account) (Text h.holder) row
    (ap (λ (cells : Row). column cells 2) (holdings_kept.exact (stored 6 row) h is))

-- the agent of a link
pub read_by : (agent : List ℕ) (row : Row) (l : Link) → link_in (stored 2 row) ≡ Some l
    → has_all ((2, Text agent) ∷ []) row ≡ same_text l.agent agent
read_by agent row l is =
    asked 2 (Text agent) (Text l.agent) row
    (ap (λ (cells : Row). column cells 1) (links_kept.exact (stored 2 row) l is))

-- the word of a request's state, which stands after its ask
word_at : (account reference : List ℕ) (a : Ask) (s : State)
    → column (Text account ∷ Text reference ∷ ask_values a ++ state_values s) 22
    ≡ Text (state_word (word_of s))
word_at account reference (Renew a) s = refl
word_at account reference ask s = refl

-- no other state has the word of those that wait
is_word : (s : State)
    → same_value (Text (state_word (word_of s))) (Text (state_word Pending)) ≡ is_pending s
is_word state.Pending = refl
is_word other = refl

-- so it tells whether the request waits
pub waits : (row : Row) (r : Request) → request_in (stored 25 row) ≡ Some r
    → has_all ((23, Text (state_word Pending)) ∷ []) row ≡ is_pending r.state
waits row r is =
    asked 23 (Text (state_word Pending)) (Text (state_word (word_of r.state))) row
    (ap (λ (cells : Row). column cells 22) (laws.requests.exact row r is)
    ∙ word_at r.account r.reference r.ask r.state)
    ∙ is_word r.state
