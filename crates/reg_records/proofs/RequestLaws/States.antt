-- Where a request stands: the columns of a state read exactly where they have the values that are
-- written for it.
use Rattle.std.proofs.Common.{◌≡◌, ◌^◌, ℕ, Bool, true, false, ◌&&◌, List, ◌∷◌, Some, refl, subst}
use Rattle.std.specs.Prelude.{nat_lt, option_map}
use Rattle.std.specs.Fmt.{decimal}
use Rattle.std.specs.Str.{bytes_eq}
use Rattle.std.proofs.lemmas.Bool.{and_parts, and_from, lt-ltb, ltb-true}
use Rattle.std.proofs.lemmas.Option.{same_Some}
use Rattle.std.proofs.lemmas.Slice.Eq.{bytes_eq-Decides}
use Rattle.sqlite.specs.Order.{Row, column}
use Rattle.sqlite.specs.declared.types.Value.TheVariants.{Text}
use Rattle.reg_blocks.specs.Block.{SizedPrefix, is_block}
use Rattle.reg_blocks.specs.Digits.{read_block, block_text}
use Rattle.reg_blocks.proofs.ReadingIsExact.{read_block-is_exact}
use Rattle.reg_blocks.proofs.TextReadsBack.{read_block-block_text}
use Rattle.reg_ranges.specs.Numbers.{read_number}
use Rattle.reg_ranges.specs.Texts.{is_text}
use Rattle.reg_ranges.proofs.Numerals.{reads_decimals}
use Rattle.reg_core.specs.Request.{has_given_form, has_state_form, state_word, word_of}
use Rattle.reg_core.proofs.WordsReadBack.{states_read}
use Rattle.reg_core.specs.declared.ask.Ask.{Ask}
use Rattle.reg_core.specs.declared.ask.Ask.TheVariants as ask
use Rattle.reg_core.specs.declared.request.Given.{Given}
use Rattle.reg_core.specs.declared.request.Given.TheVariants.{Value, Block}
use Rattle.reg_core.specs.declared.request.State.{State}
use Rattle.reg_core.specs.declared.request.State.TheVariants as state
use Rattle.reg_core.specs.declared.request.StateWord.{StateWord}
use Rattle.reg_core.specs.declared.request.StateWord.TheVariants.{Pending, Approved, Declined, Withdrawn}
use Rattle.reg_records.specs.Columns.{read_in}
use Rattle.reg_records.specs.Requests.Forms.{is_of_kind, gives_its_kind}
use Rattle.reg_records.specs.Requests.Reading.{columns, are_null, written_block, read_given, state_of, state_in}
use Rattle.reg_records.specs.Requests.Values.{text_of, state_values}
use Rattle.reg_records.proofs.ColumnLaws.{IsColumn, given_some, column_some, texts, words}
use Rattle.reg_records.proofs.RequestLaws.Steps.{IsPart, test_some, map_some, value-at, test-at, printables, nulls_kept, nulls_back, ◌⊕◌, one, cell, within}

-- ---- What was given

block_kept : (text : List ℕ) (b : SizedPrefix) → written_block text ≡ Some b
    → (text ≡ block_text b) × (is_block b ≡ true)
block_kept text b h = given_some (read_block text) _ b h (λ block is h.
    test_some (bytes_eq text (block_text block)) _ b h (λ same h.
    subst (λ b. (text ≡ block_text b) × (is_block b ≡ true)) (same_Some block b h) (
      (bytes_eq-Decides text (block_text block)).0 same,
      ((read_block-is_exact text block).0 is).form,
    )))

block_back : (b : SizedPrefix) → is_block b ≡ true → written_block (block_text b) ≡ Some b
block_back b form =
    rw (read_block-block_text b form)
    (test-at (bytes_eq (block_text b) (block_text b)) _ _
    ((bytes_eq-Decides (block_text b) (block_text b)).1 refl) refl)

-- the form of what is given to an ask
abbrev is_due : Ask → Given → Bool
is_due a given = has_given_form given && is_of_kind a given

value_kept : (a : Ask) (text : List ℕ) (given : Given)
    → ((v : ℕ) → is_of_kind a (Value v) ≡ true)
    → option_map Value (read_number text) ≡ Some given
    → (text ≡ text_of given) × (is_due a given ≡ true)
value_kept a text given kind h = map_some Value (read_number text) given h (λ v is same.
    let d = (reads_decimals v text).0 is in
    subst (λ given. (text ≡ text_of given) × (is_due a given ≡ true)) same
    (d.1, and_from (nat_lt v (2 ^ 32)) (is_of_kind a (Value v)) (lt-ltb v (2 ^ 32) d.0) (kind v)))

given_kept : (a : Ask) (text : List ℕ) (given : Given) → read_given a text ≡ Some given
    → (text ≡ text_of given) × (is_due a given ≡ true)
given_kept (ask.Block a) text given h = map_some Block (written_block text) given h (λ b is same.
    let k = block_kept text b is in
    subst (λ given. (text ≡ text_of given) × (is_due (ask.Block a) given ≡ true)) same
    (k.0, and_from (is_block b) true k.1 refl))
given_kept a text given h = value_kept a text given (λ v. refl) h

value_back : (v : ℕ) → nat_lt v (2 ^ 32) ≡ true → read_number (decimal v) ≡ Some v
value_back v h = (reads_decimals v (decimal v)).1 (ltb-true v (2 ^ 32) h, refl)

value_due : (v : ℕ) → (nat_lt v (2 ^ 32) && true) ≡ true
    → option_map Value (read_number (decimal v)) ≡ Some (Value v)
value_due v h = rw (value_back v ((and_parts (nat_lt v (2 ^ 32)) true h).0)) refl

given_back : (a : Ask) (given : Given) → is_due a given ≡ true
    → read_given a (text_of given) ≡ Some given
given_back (ask.Block a) (Block b) h = rw (block_back b ((and_parts (is_block b) true h).0)) refl
given_back (ask.Block a) (Value v) h = absurd (cc ((and_parts (nat_lt v (2 ^ 32)) false h).1))
given_back _ (Value v) h = value_due v h
given_back _ (Block b) h = absurd (cc ((and_parts (is_block b) false h).1))

pub givens : (a : Ask)
    → IsColumn (read_in (read_given a)) (λ given. Text (text_of given)) (is_due a)
givens a = texts (record {
  back = given_back a;
  exact = λ text given h. (given_kept a text given h).0;
  formed = λ text given h. (given_kept a text given h).1;
})

-- ---- States

-- the form of a state of a request for this
abbrev pub fits : Ask → State → Bool
fits a s = has_state_form s && gives_its_kind a s

abbrev Keeps : Ask → Row → StateWord → State → Type 0
Keeps a row word s =
    ◌≡◌ {A = Row} (Text (state_word word) ∷ columns row 23 2) (state_values s)
    × (fits a s ≡ true)

of_word_kept : (a : Ask) (row : Row) (word : StateWord) (s : State) → state_of a word row ≡ Some s
    → Keeps a row word s
of_word_kept a row Pending s h = test_some (are_null row 23 2) _ s h (λ none h.
    subst (λ s. Keeps a row Pending s) (same_Some state.Pending s h)
    (one refl ⊕ nulls_kept row 2 23 none, refl))
of_word_kept a row Approved s h = test_some (are_null row 24 1) _ s h (λ none h.
    column_some (givens a) (column row 23) _ s h (λ given is form h.
    subst (λ s. Keeps a row Approved s) (same_Some (state.Approved given) s h)
    (one refl ⊕ one is ⊕ nulls_kept row 1 24 none, form)))
of_word_kept a row Declined s h = test_some (are_null row 23 1) _ s h (λ none h.
    column_some printables (column row 24) _ s h (λ reason is form h.
    subst (λ s. Keeps a row Declined s) (same_Some (state.Declined reason) s h)
    (one refl ⊕ nulls_kept row 1 23 none ⊕ one is, and_from (is_text reason) true form refl)))
of_word_kept a row Withdrawn s h = test_some (are_null row 23 2) _ s h (λ none h.
    subst (λ s. Keeps a row Withdrawn s) (same_Some state.Withdrawn s h)
    (one refl ⊕ nulls_kept row 2 23 none, refl))

of_word_back : (a : Ask) (row : Row) (s : State) → columns row 22 3 ≡ state_values s
    → fits a s ≡ true → state_of a (word_of s) row ≡ Some s
of_word_back a row state.Pending h form =
    test-at (are_null row 23 2) _ _ (nulls_back row 23 2 (within 1 2 h)) refl
of_word_back a row (state.Approved given) h form =
    test-at (are_null row 24 1) _ _ (nulls_back row 24 1 (within 2 1 h))
    (value-at (givens a) (column row 23) given (cell 1 h) form _ _ refl)
of_word_back a row (state.Declined reason) h form =
    test-at (are_null row 23 1) _ _ (nulls_back row 23 1 (within 1 1 h)) (
    value-at printables (column row 24) reason (cell 2 h)
    ((and_parts (is_text reason) true form).0) _ _ refl)
of_word_back a row state.Withdrawn h form =
    test-at (are_null row 23 2) _ _ (nulls_back row 23 2 (within 1 2 h)) refl

pub stands : (a : Ask) → IsPart (state_in a) 22 3 state_values (fits a)
unfolding state_in
stands a = record {
  back = λ row s h form.
      value-at (words states_read) (column row 22) (word_of s) (cell 0 h) refl _ _
      (of_word_back a row s h form);
  kept = λ row s h.
      column_some (words states_read) (column row 22) _ s h (λ word is form h.
      rw is (of_word_kept a row word s h));
}
