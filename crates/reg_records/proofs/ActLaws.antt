-- The rows of `journal` keep acts with their numbers: what is written reads back, and only that reads.
use Rattle.std.proofs.Common.{◌≡◌, ℕ, ◌+◌, ◌*◌, ◌/◌, ◌%◌, true, ◌&&◌, List, [], ◌∷◌, Option, Some, None, refl, sym, subst, arith}
use Rattle.std.specs.Prelude.{nat_lt}
use Rattle.std.proofs.lemmas.Bool.{and_from, and_parts}
use Rattle.std.proofs.lemmas.Bool.Decides.{nat_tests}
use Rattle.std.proofs.lemmas.Option.{none-some, same_Some}
use Rattle.sqlite.specs.Order.{Row, column}
use Rattle.sqlite.specs.Values.{or_null}
use Rattle.sqlite.specs.declared.types.Value.TheVariants.{Text}
use Rattle.reg_ranges.specs.Forms.{is_none_or}
use Rattle.reg_core.specs.Names.{is_first_digits, is_name}
use Rattle.reg_core.specs.declared.journal.Actor.{Actor}
use Rattle.reg_records.specs.Acts.{act_columns, act_in, act_values, actor_by, actor_in, actor_values, is_actor}
use Rattle.reg_records.specs.Acts.{is_long, is_numbered_act, is_stamp, moment_at, moment_by, moment_in, moment_values}
use Rattle.reg_records.specs.Acts.{stamp_in, stamp_values}
use Rattle.reg_records.specs.Columns.{formed_in, given, is_number, number_in, or_null_in, whole_in, whole_value}
use Rattle.reg_records.specs.Deeds.{is_deed}
use Rattle.reg_records.specs.Laws.{KeepsRows}
use Rattle.reg_records.specs.Requests.Reading.{columns, name_in}
use Rattle.reg_records.specs.declared.acts.NumberedAct.{NumberedAct}
use Rattle.reg_records.proofs.ColumnLaws.{IsColumn, any, column_some, formed_texts, keeps_rows, let_through, numbers, or_nulls, wholes}
use Rattle.reg_records.proofs.DeedLaws.{deed_cells, deed_in_columns, deeds}
use Rattle.reg_records.proofs.RequestLaws.Steps.{IsPart, part_some, part-at, value-at, map_some, names, ◌⊕◌, one, cell, within}

-- ---- Numbers and names that may be missing

whole_parts : IsColumn (or_null_in whole_in) (or_null whole_value) (is_none_or any)
whole_parts = or_nulls wholes (λ n. refl)

accounts : IsColumn (or_null_in name_in) (or_null Text) (is_none_or is_name)
accounts = or_nulls names (λ n. refl)

tokens : IsColumn (or_null_in (formed_in is_first_digits)) (or_null Text)
    (is_none_or is_first_digits)
tokens = or_nulls (formed_texts is_first_digits) (λ n. refl)

-- ---- When

abbrev time_parts : Option ℕ → Option ℕ → Row
time_parts day second = or_null whole_value day ∷ or_null whole_value second ∷ []

abbrev KeepsMoment : Row → Option ℕ → Type 0
KeepsMoment cells moment = (cells ≡ moment_values moment) × (is_none_or is_long moment ≡ true)

second_of : (day second : ℕ) → nat_lt second 86400 ≡ true
    → ((day * 86400 + second) / 86400 ≡ day) × ((day * 86400 + second) % 86400 ≡ second)
second_of day second less = (grind (arith, nat_tests), grind (arith, nat_tests))

moment_kept : (day second : ℕ) (m : ℕ) → moment_at day second ≡ Some m
    → KeepsMoment (time_parts (Some day) (Some second)) (Some m)
moment_kept day second m h =
    let test = let_through (nat_lt second 86400 && is_long (day * 86400 + second))
    (day * 86400 + second) m h in
    let parts = and_parts (nat_lt second 86400) (is_long (day * 86400 + second)) test.0 in
    let is = second_of day second parts.0 in
    subst (λ m. KeepsMoment (time_parts (Some day) (Some second)) (Some m)) test.1 (
      λ i. whole_value (sym is.0 i) ∷ whole_value (sym is.1 i) ∷ [],
      parts.1,
    )

times_kept : (day second : Option ℕ) (moment : Option ℕ) → moment_by day second ≡ Some moment
    → KeepsMoment (time_parts day second) moment
times_kept None None moment h =
    subst (KeepsMoment (time_parts None None)) (same_Some None moment h) (refl, refl)
times_kept (Some day) (Some second) moment h =
    map_some Some (moment_at day second) moment h (λ m is same.
    subst (KeepsMoment (time_parts (Some day) (Some second))) same (moment_kept day second m is))
times_kept _ _ moment h = absurd (none-some moment h)

moment_back : (m : ℕ) → is_long m ≡ true → moment_at (m / 86400) (m % 86400) ≡ Some m
moment_back m form =
    let whole : (m / 86400) * 86400 + m % 86400 ≡ m = omega arith in
    let low : nat_lt (m % 86400) 86400 ≡ true = grind (arith, nat_tests) in
    rw (whole, low, form) refl

times_back : (row : Row) (moment : Option ℕ) → columns row 1 2 ≡ moment_values moment
    → is_none_or is_long moment ≡ true → moment_in row ≡ Some moment
unfolding moment_in
times_back row None h form =
    value-at whole_parts (column row 1) None (cell 0 h) refl _ _ (
    value-at whole_parts (column row 2) None (cell 1 h) refl _ _ refl)
times_back row (Some m) h form =
    value-at whole_parts (column row 1) (Some (m / 86400)) (cell 0 h) refl _ _ (
    value-at whole_parts (column row 2) (Some (m % 86400)) (cell 1 h) refl _ _ (
    rw (moment_back m form) refl))

times : IsPart moment_in 1 2 moment_values (is_none_or is_long)
unfolding moment_in
times = record {
  back = times_back;
  kept = λ row moment h.
      column_some whole_parts (column row 1) _ moment h (λ day is0 form0 h.
      column_some whole_parts (column row 2) _ moment h (λ second is1 form1 h.
      rw (is0, is1) (times_kept day second moment h)));
}

-- ---- By whom

abbrev actor_parts : Option (List ℕ) → Option (List ℕ) → Row
actor_parts account token = or_null Text account ∷ or_null Text token ∷ []

abbrev KeepsActor : Row → Option Actor → Type 0
KeepsActor cells by = (cells ≡ actor_values by) × (is_none_or is_actor by ≡ true)

by_kept : (account token : Option (List ℕ)) (by : Option Actor)
    → is_none_or is_name account ≡ true → is_none_or is_first_digits token ≡ true
    → actor_by account token ≡ Some by → KeepsActor (actor_parts account token) by
by_kept None None by form0 form1 h =
    subst (KeepsActor (actor_parts None None)) (same_Some None by h) (refl, refl)
by_kept (Some account) (Some token) by form0 form1 h =
    subst (KeepsActor (actor_parts (Some account) (Some token)))
    (same_Some (Some (record { account = account; token = token })) by h)
    (refl, and_from (is_name account) (is_first_digits token) form0 form1)
by_kept _ _ by form0 form1 h = absurd (none-some by h)

actors_back : (row : Row) (by : Option Actor) → columns row 3 2 ≡ actor_values by
    → is_none_or is_actor by ≡ true → actor_in row ≡ Some by
unfolding actor_in
actors_back row None h form =
    value-at accounts (column row 3) None (cell 0 h) refl _ _ (
    value-at tokens (column row 4) None (cell 1 h) refl _ _ refl)
actors_back row (Some a) h form =
    let ones = and_parts (is_name a.account) (is_first_digits a.token) form in
    value-at accounts (column row 3) (Some a.account) (cell 0 h) ones.0 _ _ (
    value-at tokens (column row 4) (Some a.token) (cell 1 h) ones.1 _ _ refl)

actors : IsPart actor_in 3 2 actor_values (is_none_or is_actor)
unfolding actor_in
actors = record {
  back = actors_back;
  kept = λ row by h.
      column_some accounts (column row 3) _ by h (λ account is0 form0 h.
      column_some tokens (column row 4) _ by h (λ token is1 form1 h.
      rw (is0, is1) (by_kept account token by form0 form1 h)));
}

-- ---- Both

stamps : IsPart stamp_in 1 4 stamp_values is_stamp
unfolding stamp_in
stamps = record {
  back = λ row s h form.
      let ones = and_parts (is_none_or is_long s.moment) (is_none_or is_actor s.by) form in
      part-at times row s.moment (within 0 2 h) ones.0 _ _ (
      part-at actors row s.by (within 2 2 h) ones.1 _ _ refl);
  kept = λ row s h.
      part_some times row _ s h (λ moment is0 form0 h.
      part_some actors row _ s h (λ by is1 form1 h.
      subst (λ s. (columns row 1 4 ≡ stamp_values s) × (is_stamp s ≡ true)) (same_Some _ s h)
      (is0 ⊕ is1, and_from _ _ form0 form1)));
}

-- ---- The row

act_back : (a : NumberedAct) → is_numbered_act a ≡ true → act_in (act_values a) ≡ Some a
unfolding act_in
act_back a form =
    let two = and_parts _ (is_deed a.act.deed) form in
    let ones = and_parts (is_number a.number) (is_stamp a.act.stamp) two.0 in
    value-at (numbers is_number) (column (act_values a) 0) a.number refl ones.0 _ _ (
    part-at stamps (act_values a) a.act.stamp refl ones.1 _ _ (
    part-at deeds (act_values a) a.act.deed (deed_cells a.act.deed) two.1 _ _ refl))

act_kept : (row : Row) (a : NumberedAct) → act_in row ≡ Some a
    → (act_columns row ≡ act_values a) × (is_numbered_act a ≡ true)
unfolding act_in
act_kept row a h =
    column_some (numbers is_number) (column row 0) _ a h (λ number is0 form0 h.
    part_some stamps row _ a h (λ stamp is1 form1 h.
    part_some deeds row _ a h (λ deed is2 form2 h.
    subst (λ a. (act_columns row ≡ act_values a) × (is_numbered_act a ≡ true)) (same_Some _ a h)
    (one is0 ⊕ is1 ⊕ is2, and_from _ _ (and_from _ _ form0 form1) form2))))

pub acts_kept : KeepsRows act_columns act_in act_values is_numbered_act
acts_kept = keeps_rows act_back act_kept

-- a row is read of its columns alone
pub act_in_columns : (row : Row) → act_in (act_columns row) ≡ act_in row
unfolding act_in stamp_in moment_in actor_in
act_in_columns row = λ i.
    given (number_in is_number (column row 0)) (λ number.
    given (stamp_in row) (λ stamp.
    given (deed_in_columns row i) (λ deed.
    Some (record { number = number; act = record { stamp = stamp; deed = deed } }))))
