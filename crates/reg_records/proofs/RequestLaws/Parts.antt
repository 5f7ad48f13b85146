-- What is shown for an assignment and for an early allocation, and which value is wanted: the
-- columns of these read exactly where they have the values that are written.
use Rattle.std.proofs.Common.{◌≡◌, ℕ, true, [], ◌∷◌, Option, Some, None, refl, subst, arith}
use Rattle.std.proofs.lemmas.Bool.{and_parts}
use Rattle.std.proofs.lemmas.Bool.Decides.{nat_tests}
use Rattle.std.proofs.lemmas.Option.{none-some, same_Some}
use Rattle.sqlite.specs.Order.{Row, column}
use Rattle.sqlite.specs.Values.{or_null}
use Rattle.sqlite.specs.declared.types.Value.TheVariants.{Text}
use Rattle.reg_ranges.specs.Forms.{is_none_or, is_rfc, has_evidence_form}
use Rattle.reg_ranges.specs.Rfcs.{PublishedRfc}
use Rattle.reg_ranges.specs.Texts.{is_text}
use Rattle.reg_ranges.specs.Words.{policy_word, read_policy, stream_word, read_stream, track_word, read_track}
use Rattle.reg_ranges.specs.declared.evidence.Stream.{Stream}
use Rattle.reg_ranges.specs.declared.evidence.Track.{Track}
use Rattle.reg_ranges.specs.declared.policy.Policy.{Policy}
use Rattle.reg_ranges.proofs.WordsReadBack.{policies_read, streams_read, tracks_read}
use Rattle.reg_early.specs.Forms.{has_early_form}
use Rattle.reg_core.specs.Ask.{has_rfc_form, has_want_form}
use Rattle.reg_core.specs.declared.ask.Want.{Want}
use Rattle.reg_core.specs.declared.ask.Want.TheVariants as want
use Rattle.reg_records.specs.Columns.{number_in, is_number, read_in, or_null_in, whole_value}
use Rattle.reg_records.specs.Requests.Reading.{columns, wanted, want_in, rfc_of, published, rfc_in, evidence_in, early_in}
use Rattle.reg_records.specs.Requests.Values.{value_wanted, least_wanted, evidence_values, early_values}
use Rattle.reg_records.proofs.ColumnLaws.{IsColumn, any, column_some, let_through, numbers, flags, words, or_nulls}
use Rattle.reg_records.proofs.RequestLaws.Steps.{IsPart, part_some, part-at, value-at, map_some, notes, ◌⊕◌, one, cell, within}

-- ---- Numbers and words that may be missing

values : IsColumn (or_null_in (number_in is_number)) (or_null whole_value) (is_none_or is_number)
values = or_nulls (numbers is_number) (λ n. refl)

policies : IsColumn (or_null_in (read_in read_policy)) (or_null (λ p. Text (policy_word p)))
    (is_none_or any)
policies = or_nulls (words policies_read) (λ p. refl)

streams : IsColumn (or_null_in (read_in read_stream)) (or_null (λ s. Text (stream_word s)))
    (is_none_or any)
streams = or_nulls (words streams_read) (λ s. refl)

tracks : IsColumn (or_null_in (read_in read_track)) (or_null (λ t. Text (track_word t)))
    (is_none_or any)
tracks = or_nulls (words tracks_read) (λ t. refl)

-- ---- The value that is wanted

abbrev pub want_values : Want → Row
want_values want = value_wanted want ∷ least_wanted want ∷ []

abbrev asked : Option ℕ → Option Policy → Row
asked value policy = or_null whole_value value ∷ or_null (λ p. Text (policy_word p)) policy ∷ []

wanted_kept : (value : Option ℕ) (policy : Option Policy) (w : Want)
    → is_none_or is_number value ≡ true → wanted value policy ≡ Some w
    → (asked value policy ≡ want_values w) × (has_want_form w ≡ true)
wanted_kept (Some v) None w form h =
    subst (λ w. (asked (Some v) None ≡ want_values w) × (has_want_form w ≡ true))
    (same_Some (want.Value v) w h) (refl, form)
wanted_kept None (Some p) w form h =
    subst (λ w. (asked None (Some p) ≡ want_values w) × (has_want_form w ≡ true))
    (same_Some (want.Least p) w h) (refl, refl)
wanted_kept _ _ w form h = absurd (none-some w h)

want_kept : (row : Row) (w : Want) → want_in row ≡ Some w
    → (columns row 4 2 ≡ want_values w) × (has_want_form w ≡ true)
unfolding want_in
want_kept row w h =
    column_some values (column row 4) _ w h (λ value is0 form0 h.
    column_some policies (column row 5) _ w h (λ policy is1 form1 h.
    rw (is0, is1) (wanted_kept value policy w form0 h)))

want_back : (row : Row) (w : Want) → columns row 4 2 ≡ want_values w → has_want_form w ≡ true
    → want_in row ≡ Some w
unfolding want_in
want_back row (want.Value v) h form =
    value-at values (column row 4) (Some v) (cell 0 h) form _ _ (
    value-at policies (column row 5) None (cell 1 h) refl _ _ refl)
want_back row (want.Least p) h form =
    value-at values (column row 4) None (cell 0 h) refl _ _ (
    value-at policies (column row 5) (Some p) (cell 1 h) refl _ _ refl)

pub wants : IsPart want_in 4 2 want_values has_want_form
wants = record { back = want_back; kept = want_kept }

-- ---- RFCs

abbrev rfc_values : Option PublishedRfc → Row
rfc_values rfc =
    or_null (λ rfc. whole_value rfc.number) rfc
    ∷ or_null (λ rfc. Text (stream_word rfc.stream)) rfc
    ∷ or_null (λ rfc. Text (track_word rfc.track)) rfc
    ∷ []

abbrev parts_values : Option ℕ → Option Stream → Option Track → Row
parts_values number stream track =
    or_null whole_value number
    ∷ or_null (λ s. Text (stream_word s)) stream
    ∷ or_null (λ t. Text (track_word t)) track
    ∷ []

abbrev the_rfc : ℕ → Stream → Track → PublishedRfc
the_rfc number stream track = record { number = number; stream = stream; track = track }

published_kept : (number : Option ℕ) (stream : Option Stream) (track : Option Track)
    (rfc : Option PublishedRfc) → published number stream track ≡ Some rfc
    → (parts_values number stream track ≡ rfc_values rfc) × (has_rfc_form rfc ≡ true)
published_kept None None None rfc h =
    subst (λ r. (parts_values None None None ≡ rfc_values r) × (has_rfc_form r ≡ true))
    (same_Some None rfc h) (refl, refl)
published_kept (Some n) (Some s) (Some t) rfc h =
    map_some Some (rfc_of n s t) rfc h (λ r is same.
    let test = let_through (is_rfc (the_rfc n s t)) (the_rfc n s t) r is in
    subst (λ r. (parts_values (Some n) (Some s) (Some t) ≡ rfc_values r) × (has_rfc_form r ≡ true))
    same
    (subst (λ r. (parts_values (Some n) (Some s) (Some t) ≡ rfc_values (Some r))
    × (is_rfc r ≡ true)) test.1 (refl, test.0)))
published_kept _ _ _ rfc h = absurd (none-some rfc h)

rfc_kept : (row : Row) (rfc : Option PublishedRfc) → rfc_in row ≡ Some rfc
    → (columns row 9 3 ≡ rfc_values rfc) × (has_rfc_form rfc ≡ true)
unfolding rfc_in
rfc_kept row rfc h =
    column_some values (column row 9) _ rfc h (λ number is0 form0 h.
    column_some streams (column row 10) _ rfc h (λ stream is1 form1 h.
    column_some tracks (column row 11) _ rfc h (λ track is2 form2 h.
    rw (is0, is1, is2) (published_kept number stream track rfc h))))

has_32_bits : (r : PublishedRfc) → is_rfc r ≡ true → is_number r.number ≡ true
has_32_bits r h = grind (arith, nat_tests)

rfc_back : (row : Row) (rfc : Option PublishedRfc) → columns row 9 3 ≡ rfc_values rfc
    → has_rfc_form rfc ≡ true → rfc_in row ≡ Some rfc
unfolding rfc_in
rfc_back row None h form =
    value-at values (column row 9) None (cell 0 h) refl _ _ (
    value-at streams (column row 10) None (cell 1 h) refl _ _ (
    value-at tracks (column row 11) None (cell 2 h) refl _ _ refl))
rfc_back row (Some r) h form =
    value-at values (column row 9) (Some r.number) (cell 0 h) (has_32_bits r form) _ _ (
    value-at streams (column row 10) (Some r.stream) (cell 1 h) refl _ _ (
    value-at tracks (column row 11) (Some r.track) (cell 2 h) refl _ _ (rw form refl)))

rfcs : IsPart rfc_in 9 3 rfc_values has_rfc_form
rfcs = record { back = rfc_back; kept = rfc_kept }

-- ---- Evidence

pub evidences : IsPart evidence_in 7 6 evidence_values has_evidence_form
unfolding evidence_in
evidences = record {
  back = λ row e h form.
      let three = and_parts _ (is_none_or is_text e.minute) form in
      let two = and_parts _ (is_none_or is_rfc e.rfc) three.0 in
      let ones = and_parts (is_none_or is_text e.contact) (is_none_or is_text e.spec) two.0 in
      let rfc : columns row 9 3 ≡ rfc_values e.rfc = within 2 3 h in
      value-at notes (column row 7) e.contact (cell 0 h) ones.0 _ _ (
      value-at notes (column row 8) e.spec (cell 1 h) ones.1 _ _ (
      part-at rfcs row e.rfc rfc two.1 _ _ (
      value-at notes (column row 12) e.minute (cell 5 h) three.1 _ _ refl)));
  kept = λ row e h.
      column_some notes (column row 7) _ e h (λ contact is0 form0 h.
      column_some notes (column row 8) _ e h (λ spec is1 form1 h.
      part_some rfcs row _ e h (λ rfc is2 form2 h.
      column_some notes (column row 12) _ e h (λ minute is3 form3 h.
      subst (λ e. (columns row 7 6 ≡ evidence_values e) × (has_evidence_form e ≡ true))
      (same_Some _ e h)
      (one is0 ⊕ one is1 ⊕ is2 ⊕ one is3, rw (form0, form1, form2, form3) refl)))));
}

-- ---- Evidence for an early allocation

pub earlies : IsPart early_in 13 6 early_values has_early_form
unfolding early_in
earlies = record {
  back = λ row e h form.
      let two = and_parts _ (is_none_or is_text e.director) form in
      let ones = and_parts (is_none_or is_text e.draft) (is_none_or is_text e.chair) two.0 in
      value-at notes (column row 13) e.draft (cell 0 h) ones.0 _ _ (
      value-at flags (column row 14) e.stable (cell 1 h) refl _ _ (
      value-at flags (column row 15) e.interest (cell 2 h) refl _ _ (
      value-at notes (column row 16) e.chair (cell 3 h) ones.1 _ _ (
      value-at notes (column row 17) e.director (cell 4 h) two.1 _ _ (
      value-at flags (column row 18) e.will_be_rfc (cell 5 h) refl _ _ refl)))));
  kept = λ row e h.
      column_some notes (column row 13) _ e h (λ draft is0 form0 h.
      column_some flags (column row 14) _ e h (λ stable is1 form1 h.
      column_some flags (column row 15) _ e h (λ interest is2 form2 h.
      column_some notes (column row 16) _ e h (λ chair is3 form3 h.
      column_some notes (column row 17) _ e h (λ director is4 form4 h.
      column_some flags (column row 18) _ e h (λ will_be_rfc is5 form5 h.
      subst (λ e. (columns row 13 6 ≡ early_values e) × (has_early_form e ≡ true))
      (same_Some _ e h) (
        one is0 ⊕ one is1 ⊕ one is2 ⊕ one is3 ⊕ one is4 ⊕ one is5,
        rw (form0, form3, form4) refl,
      )))))));
}
