-- What a request asks for, kind by kind: the columns of an ask read exactly where they have the
-- values that are written for it, and none of another ask.
use Rattle.std.proofs.Common.{◌≡◌, ◌^◌, Bool, true, ◌&&◌, List, ℕ, ◌∷◌, drop, Option, Some, None, is_none, refl, sym, ap, subst}
use Rattle.std.specs.Prelude.{nat_lt}
use Rattle.std.proofs.lemmas.Bool.{and_from, and_parts}
use Rattle.std.proofs.lemmas.Option.{same_Some}
use Rattle.sqlite.specs.Order.{Row, column}
use Rattle.sqlite.specs.declared.types.Value.TheVariants.{Text}
use Rattle.reg_ranges.specs.Forms.{has_evidence_form}
use Rattle.reg_ranges.specs.Texts.{is_text}
use Rattle.reg_early.specs.Forms.{has_early_form}
use Rattle.reg_core.specs.Ask.{has_ask_form, has_block_form, has_note_form, has_code_form, has_early_ask_form, has_permanence_form, has_renewal_form, has_want_form}
use Rattle.reg_core.specs.Names.{is_name}
use Rattle.reg_core.specs.declared.ask.Ask.{Ask}
use Rattle.reg_core.specs.declared.ask.Ask.TheVariants as ask
use Rattle.reg_core.specs.declared.ask.RenewalAsk.{RenewalAsk}
use Rattle.reg_records.specs.Columns.{is_number}
use Rattle.reg_core.specs.Minutes.{is_bare}
use Rattle.reg_core.specs.AskKind.{ask_kind_of, ask_kind_word}
use Rattle.reg_core.proofs.WordsReadBack.{ask_kinds_read}
use Rattle.reg_core.specs.declared.ask_kind.AskKind.{AskKind}
use Rattle.reg_core.specs.declared.ask_kind.AskKind.TheVariants as kind
use Rattle.reg_records.specs.Requests.Reading.{columns, are_null, code_in, early_ask_in, renewal_in, permanence_in, block_in, ask_of, ask_in}
use Rattle.reg_records.specs.Requests.Values.{nulls, evidence_values, early_values, asked_values, ask_values}
use Rattle.reg_records.proofs.ColumnLaws.{column_some, numbers, words}
use Rattle.reg_records.proofs.WordsReadBack.{sizes_read}
use Rattle.reg_records.proofs.RequestLaws.Parts.{want_values, wants, evidences, earlies}
use Rattle.reg_records.proofs.RequestLaws.Steps.{IsPart, part_some, test_some, map_some, part-at, value-at, test-at, names, printables, nulls_kept, nulls_back, ◌⊕◌, one, cell, within}

-- ---- Asks for values

pub codes : IsPart code_in 3 19 (λ a. asked_values (ask.Code a)) has_code_form
unfolding code_in
codes = record {
  back = λ row a h form.
      let three = and_parts _ (has_evidence_form a.evidence) form in
      let two = and_parts _ (is_text a.label) three.0 in
      let ones = and_parts (is_name a.registry) (has_want_form a.want) two.0 in
      let want : columns row 4 2 ≡ want_values a.want = within 1 2 h in
      let evidence : columns row 7 6 ≡ evidence_values a.evidence = within 4 6 h in
      let none : columns row 13 9 ≡ nulls 9 = within 10 9 h in
      test-at (are_null row 13 9) _ _ (nulls_back row 13 9 none) (
      value-at names (column row 3) a.registry (cell 0 h) ones.0 _ _ (
      part-at wants row a.want want ones.1 _ _ (
      value-at printables (column row 6) a.label (cell 3 h) two.1 _ _ (
      part-at evidences row a.evidence evidence three.1 _ _ refl))));
  kept = λ row a h.
      test_some (are_null row 13 9) _ a h (λ none h.
      column_some names (column row 3) _ a h (λ registry is0 form0 h.
      part_some wants row _ a h (λ want is1 form1 h.
      column_some printables (column row 6) _ a h (λ label is2 form2 h.
      part_some evidences row _ a h (λ evidence is3 form3 h.
      subst (λ a. (columns row 3 19 ≡ asked_values (ask.Code a)) × (has_code_form a ≡ true))
      (same_Some _ a h) (
        one is0 ⊕ is1 ⊕ one is2 ⊕ is3 ⊕ nulls_kept row 9 13 none,
        rw (form0, form1, form2, form3) refl,
      ))))));
}

pub early_asks : IsPart early_ask_in 3 19 (λ a. asked_values (ask.Early a)) has_early_ask_form
unfolding early_ask_in
early_asks = record {
  back = λ row a h form.
      let three = and_parts _ (has_early_form a.evidence) form in
      let two = and_parts _ (is_text a.label) three.0 in
      let ones = and_parts (is_name a.registry) (has_want_form a.want) two.0 in
      let want : columns row 4 2 ≡ want_values a.want = within 1 2 h in
      let evidence : columns row 13 6 ≡ early_values a.evidence = within 10 6 h in
      let none0 : columns row 7 6 ≡ nulls 6 = within 4 6 h in
      let none1 : columns row 19 3 ≡ nulls 3 = within 16 3 h in
      test-at (are_null row 7 6) _ _ (nulls_back row 7 6 none0) (
      test-at (are_null row 19 3) _ _ (nulls_back row 19 3 none1) (
      value-at names (column row 3) a.registry (cell 0 h) ones.0 _ _ (
      part-at wants row a.want want ones.1 _ _ (
      value-at printables (column row 6) a.label (cell 3 h) two.1 _ _ (
      part-at earlies row a.evidence evidence three.1 _ _ refl)))));
  kept = λ row a h.
      test_some (are_null row 7 6) _ a h (λ none0 h.
      test_some (are_null row 19 3) _ a h (λ none1 h.
      column_some names (column row 3) _ a h (λ registry is0 form0 h.
      part_some wants row _ a h (λ want is1 form1 h.
      column_some printables (column row 6) _ a h (λ label is2 form2 h.
      part_some earlies row _ a h (λ evidence is3 form3 h.
      subst (λ a. (columns row 3 19 ≡ asked_values (ask.Early a)) × (has_early_ask_form a ≡ true))
      (same_Some _ a h) (
        one is0 ⊕ is1 ⊕ one is2 ⊕ nulls_kept row 6 7 none0 ⊕ is3 ⊕ nulls_kept row 3 19 none1,
        rw (form0, form1, form2, form3) refl,
      )))))));
}

-- ---- Asks for what becomes of a value

-- the form of a renewal that a row holds
abbrev is_bare_renewal : RenewalAsk → Bool
is_bare_renewal a = has_renewal_form a && is_none a.iesg

pub no_minute : (minute : Option (List ℕ)) → is_none minute ≡ true → minute ≡ None
no_minute None e = refl
no_minute (Some text) e = absurd (cc)

pub renewals : IsPart renewal_in 3 19 (λ a. asked_values (ask.Renew a)) is_bare_renewal
unfolding renewal_in
renewals = record {
  back = λ row a h form.
      let four = and_parts (has_renewal_form a) (is_none a.iesg) form in
      let three = and_parts _ (has_note_form a.iesg) four.0 in
      let two = and_parts _ (has_early_form a.evidence) three.0 in
      let ones = and_parts (is_name a.registry) (nat_lt a.value (2 ^ 32)) two.0 in
      let evidence : columns row 13 6 ≡ early_values a.evidence = within 10 6 h in
      let none0 : columns row 5 8 ≡ nulls 8 = within 2 8 h in
      let none1 : columns row 19 3 ≡ nulls 3 = within 16 3 h in
      test-at (are_null row 5 8) _ _ (nulls_back row 5 8 none0) (
      test-at (are_null row 19 3) _ _ (nulls_back row 19 3 none1) (
      value-at names (column row 3) a.registry (cell 0 h) ones.0 _ _ (
      value-at (numbers is_number) (column row 4) a.value (cell 1 h) ones.1 _ _ (
      part-at earlies row a.evidence evidence two.1 _ _
      (ap (λ minute. Some (record a { iesg = minute })) (sym (no_minute a.iesg four.1)))))));
  kept = λ row a h.
      test_some (are_null row 5 8) _ a h (λ none0 h.
      test_some (are_null row 19 3) _ a h (λ none1 h.
      column_some names (column row 3) _ a h (λ registry is0 form0 h.
      column_some (numbers is_number) (column row 4) _ a h (λ value is1 form1 h.
      part_some earlies row _ a h (λ evidence is2 form2 h.
      subst (λ a. (columns row 3 19 ≡ asked_values (ask.Renew a)) × (is_bare_renewal a ≡ true))
      (same_Some _ a h) (
        one is0 ⊕ one is1 ⊕ nulls_kept row 8 5 none0 ⊕ is2 ⊕ nulls_kept row 3 19 none1,
        rw (form0, form1, form2) refl,
      ))))));
}

pub permanences : IsPart permanence_in 3 19 (λ a. asked_values (ask.Permanent a))
    has_permanence_form
unfolding permanence_in
permanences = record {
  back = λ row a h form.
      let two = and_parts _ (has_evidence_form a.evidence) form in
      let ones = and_parts (is_name a.registry) (nat_lt a.value (2 ^ 32)) two.0 in
      let evidence : columns row 7 6 ≡ evidence_values a.evidence = within 4 6 h in
      let none0 : columns row 5 2 ≡ nulls 2 = within 2 2 h in
      let none1 : columns row 13 9 ≡ nulls 9 = within 10 9 h in
      test-at (are_null row 5 2) _ _ (nulls_back row 5 2 none0) (
      test-at (are_null row 13 9) _ _ (nulls_back row 13 9 none1) (
      value-at names (column row 3) a.registry (cell 0 h) ones.0 _ _ (
      value-at (numbers is_number) (column row 4) a.value (cell 1 h) ones.1 _ _ (
      part-at evidences row a.evidence evidence two.1 _ _ refl))));
  kept = λ row a h.
      test_some (are_null row 5 2) _ a h (λ none0 h.
      test_some (are_null row 13 9) _ a h (λ none1 h.
      column_some names (column row 3) _ a h (λ registry is0 form0 h.
      column_some (numbers is_number) (column row 4) _ a h (λ value is1 form1 h.
      part_some evidences row _ a h (λ evidence is2 form2 h.
      subst (λ a. (columns row 3 19 ≡ asked_values (ask.Permanent a))
      × (has_permanence_form a ≡ true))
      (same_Some _ a h) (
        one is0 ⊕ one is1 ⊕ nulls_kept row 2 5 none0 ⊕ is2 ⊕ nulls_kept row 9 13 none1,
        rw (form0, form1, form2) refl,
      ))))));
}

-- ---- Asks for blocks

pub blocks : IsPart block_in 3 19 (λ a. asked_values (ask.Block a)) has_block_form
unfolding block_in
blocks = record {
  back = λ row a h form.
      let ones = and_parts (is_text a.organization) (is_text a.address) form in
      let none : columns row 3 16 ≡ nulls 16 = within 0 16 h in
      test-at (are_null row 3 16) _ _ (nulls_back row 3 16 none) (
      value-at (words sizes_read) (column row 19) a.size (cell 16 h) refl _ _ (
      value-at printables (column row 20) a.organization (cell 17 h) ones.0 _ _ (
      value-at printables (column row 21) a.address (cell 18 h) ones.1 _ _ refl)));
  kept = λ row a h.
      test_some (are_null row 3 16) _ a h (λ none h.
      column_some (words sizes_read) (column row 19) _ a h (λ size is0 form0 h.
      column_some printables (column row 20) _ a h (λ organization is1 form1 h.
      column_some printables (column row 21) _ a h (λ address is2 form2 h.
      subst (λ a. (columns row 3 19 ≡ asked_values (ask.Block a)) × (has_block_form a ≡ true))
      (same_Some _ a h)
      (nulls_kept row 16 3 none ⊕ one is0 ⊕ one is1 ⊕ one is2, rw (form1, form2) refl)))));
}

-- ---- Asks of any kind

-- the form of an ask that a row holds
abbrev pub is_asked : Ask → Bool
is_asked a = has_ask_form a && is_bare a

-- an ask of the kind has the columns that are written for it
abbrev Keeps : Row → AskKind → Ask → Type 0
Keeps row kind a =
    (columns row 3 19 ≡ asked_values a) × (kind ≡ ask_kind_of a) × (is_asked a ≡ true)

-- an ask of the kind, as its own reading makes it
of_kind_kept : (kind : AskKind) (row : Row) (a : Ask) → ask_of kind row ≡ Some a
    → Keeps row kind a
of_kind_kept kind.Code row a h = map_some ask.Code (code_in row) a h (λ b is same.
    subst (Keeps row kind.Code) same (let k = codes.kept row b is in (k.0, refl, and_from _ true k.1 refl)))
of_kind_kept kind.Early row a h = map_some ask.Early (early_ask_in row) a h (λ b is same.
    subst (Keeps row kind.Early) same (let k = early_asks.kept row b is in (k.0, refl, and_from _ true k.1 refl)))
of_kind_kept kind.Renew row a h = map_some ask.Renew (renewal_in row) a h (λ b is same.
    subst (Keeps row kind.Renew) same (let k = renewals.kept row b is in (k.0, refl, k.1)))
of_kind_kept kind.Permanent row a h = map_some ask.Permanent (permanence_in row) a h (λ b is same.
    subst (Keeps row kind.Permanent) same (let k = permanences.kept row b is in (k.0, refl, and_from _ true k.1 refl)))
of_kind_kept kind.Block row a h = map_some ask.Block (block_in row) a h (λ b is same.
    subst (Keeps row kind.Block) same (let k = blocks.kept row b is in (k.0, refl, and_from _ true k.1 refl)))

of_kind_back : (row : Row) (a : Ask) → columns row 3 19 ≡ asked_values a
    → is_asked a ≡ true → ask_of (ask_kind_of a) row ≡ Some a
of_kind_back row (ask.Code a) h form =
    rw (codes.back row a h ((and_parts (has_code_form a) true form).0)) refl
of_kind_back row (ask.Early a) h form =
    rw (early_asks.back row a h ((and_parts (has_early_ask_form a) true form).0)) refl
of_kind_back row (ask.Renew a) h form = rw (renewals.back row a h form) refl
of_kind_back row (ask.Permanent a) h form =
    rw (permanences.back row a h ((and_parts (has_permanence_form a) true form).0)) refl
of_kind_back row (ask.Block a) h form =
    rw (blocks.back row a h ((and_parts (has_block_form a) true form).0)) refl

pub asks : IsPart ask_in 2 20 ask_values is_asked
unfolding ask_in
asks = record {
  back = λ row a h form.
      let asked : columns row 3 19 ≡ asked_values a = ap (λ cells. drop 1 cells) h in
      value-at (words ask_kinds_read) (column row 2) (ask_kind_of a) (cell 0 h) refl _ _
      (of_kind_back row a asked form);
  kept = λ row a h.
      column_some (words ask_kinds_read) (column row 2) _ a h (λ kind is form h.
      let k = of_kind_kept kind row a h in
      (rw (is, k.1) (ap (λ cells. Text (ask_kind_word (ask_kind_of a)) ∷ cells) k.0), k.2));
}
