-- What is read of a row is what it says.
use Rattle.std.proofs.Common.{◌≡◌, ◌∙◌, ℕ, zero, suc, Bool, true, false, inl, inr, List, [], ◌∷◌, length, refl, sym, ap, subst, arith}
use Rattle.std.specs.Prelude.{◌≢◌, ◌⊎◌, ◌||◌, Option, Some, None, Ok, Err, Contains, codes, if◌then◌else◌, option_and_then, option_map, unwrap_or, decimal}
use Rattle.std.specs.Str.{bytes_eq}
use Rattle.std.proofs.lemmas.Bool.{or_cases}
use Rattle.std.proofs.lemmas.Bool.Decides.{nat_tests}
use Rattle.std.proofs.lemmas.Slice.Eq.{bytes_eq-Decides}
use Rattle.csv.specs.Records.{field_at}
use Rattle.reg_ranges.proofs.Numerals.{reads_decimals}
use Rattle.reg_ranges.proofs.WordsReadBack.{streams_read, tracks_read}
use Rattle.reg_ranges.specs.Numbers.{read_number}
use Rattle.reg_ranges.specs.Rfcs.{PublishedRfc}
use Rattle.reg_ranges.specs.Texts.{is_text, is_within, read_text}
use Rattle.reg_ranges.specs.Words.{read_stream, read_track, stream_word, track_word}
use Rattle.reg_ranges.specs.declared.evidence.Evidence.{Evidence}
use Rattle.reg_ranges.specs.declared.evidence.Stream.{Stream}
use Rattle.reg_ranges.specs.declared.evidence.Track.{Track}
use Rattle.reg_early.specs.declared.evidence.EarlyEvidence.{EarlyEvidence}
use Rattle.reg_early.specs.declared.term.Status.TheVariants as term
use Rattle.reg_print.specs.Listing.{status_word}
use Rattle.reg_print.specs.declared.listing.rows.RowStatus.{RowStatus}
use Rattle.reg_print.specs.declared.listing.rows.RowStatus.TheVariants as status
use Rattle.reg_import.specs.Columns.{column_word, field_in, is_word_of, place_of, stands_at}
use Rattle.reg_import.specs.Faults.{◌>>=◌}
use Rattle.reg_import.specs.Rows.{CellsOfRow, assignee_in, checked, contact_in, early_evidence_in, early_in, entry_if, entry_in, evidence_in, expires_in, first_in, for_good_in, formed, held_in, is_early, is_empty, is_met, is_vacant, kind_in, mark_in, note_in, policy_in, renewal_for, rfc_in, rfc_named, rfc_of, row_in, standing_in, text_in, value_in}
use Rattle.reg_import.specs.Rows as row_words
use Rattle.reg_import.specs.Saying.{CellIs, SaysContact, SaysEarlyEvidence, SaysEvidence, SaysHeld, SaysMark, SaysNote, SaysRfc, StandsBelow, vacant_words}
use Rattle.reg_import.specs.declared.column.Column.{Column}
use Rattle.reg_import.specs.declared.column.Column.TheVariants as column
use Rattle.reg_import.specs.declared.entry.EntryKind.{EntryKind}
use Rattle.reg_import.specs.declared.entry.EntryKind.TheVariants as kind
use Rattle.reg_import.specs.declared.fault.ImportRowFault.TheVariants as fault
use Rattle.reg_import.proofs.RowFacts.{was_formed, went_on}

-- ---- Columns of a header

at_none : (k : ℕ) → field_at [] k ≡ None
unfolding field_at
at_none k = refl

at_zero : (field : List ℕ) (fields : List (List ℕ)) → field_at (field ∷ fields) zero ≡ Some field
unfolding field_at
at_zero field fields = refl

at_suc : (field : List ℕ) (fields : List (List ℕ)) (k : ℕ)
    → field_at (field ∷ fields) (suc k) ≡ field_at fields k
unfolding field_at
at_suc field fields k = refl

-- where a column is, its word stands
word_there : (header : List (List ℕ)) (c : Column) (k : ℕ) → place_of header c ≡ Some k
    → field_at header k ≡ Some (column_word c)
word_there [] c k is = absurd (cc)
word_there (word ∷ header) c k is =
    by (bytes_eq word (column_word c)) refl (word_there header c) is
  where
    later : (place : Option ℕ)
        → ((j : ℕ) → place ≡ Some j → field_at header j ≡ Some (column_word c))
        → option_map suc place ≡ Some k → field_at (word ∷ header) k ≡ Some (column_word c)
    later None there is = absurd (cc)
    later (Some j) there is =
        let same : suc j ≡ k = cc in
        subst (λ n. field_at (word ∷ header) n ≡ Some (column_word c)) same
        (at_suc word header j ∙ there j refl)

    by : (b : Bool) → bytes_eq word (column_word c) ≡ b
        → ((j : ℕ) → place_of header c ≡ Some j → field_at header j ≡ Some (column_word c))
        → (if b then Some 0 else option_map suc (place_of header c)) ≡ Some k
        → field_at (word ∷ header) k ≡ Some (column_word c)
    by true t there is =
        let same : 0 ≡ k = cc in
        subst (λ n. field_at (word ∷ header) n ≡ Some (column_word c)) same
        (at_zero word header ∙ ap Some ((bytes_eq-Decides word (column_word c)).0 t))
    by false t there is = later (place_of header c) there is

-- where it is nowhere, no word is its word
word_nowhere : (header : List (List ℕ)) (c : Column) → place_of header c ≡ None → (k : ℕ)
    → field_at header k ≢ Some (column_word c)
word_nowhere [] c none k is = let there = sym (at_none k) ∙ is in absurd (cc)
word_nowhere (word ∷ header) c none k is =
    by (bytes_eq word (column_word c)) refl (word_nowhere header c) none k is
  where
    rest : (place : Option ℕ) → place_of header c ≡ place → option_map suc place ≡ None
        → place_of header c ≡ None
    rest None at none = at
    rest (Some j) at none = absurd (cc)

    by : (b : Bool) → bytes_eq word (column_word c) ≡ b
        → (place_of header c ≡ None → (j : ℕ) → field_at header j ≢ Some (column_word c))
        → (if b then Some 0 else option_map suc (place_of header c)) ≡ None
        → (k : ℕ) → field_at (word ∷ header) k ≡ Some (column_word c) → ⊥
    by true t nowhere none k is = absurd (cc)
    by false t nowhere none zero is =
        let there = sym (at_zero word header) ∙ is in
        let same : word ≡ column_word c = cc in
        let equal = (bytes_eq-Decides word (column_word c)).1 same in
        absurd (cc)
    by false t nowhere none (suc k) is =
        nowhere (rest (place_of header c) refl none) k
        (sym (at_suc word header k) ∙ is)

-- a row that is as long as its header has a field at each place of it
field_there : (header row : List (List ℕ)) → length row ≡ length header → (k : ℕ) (word : List ℕ)
    → field_at header k ≡ Some word → (text : List ℕ) × (field_at row k ≡ Some text)
field_there [] row long k word is = let there = sym (at_none k) ∙ is in absurd (cc)
field_there (first ∷ header) [] long k word is = absurd (omega (arith, long))
field_there (first ∷ header) (text ∷ row) long zero word is = (text, at_zero text row)
field_there (first ∷ header) (text ∷ row) long (suc k) word is =
    let rest = field_there header row (omega (arith, long)) k word
    (sym (at_suc first header k) ∙ is) in
    (rest.0, at_suc text row k ∙ rest.1)

-- no byte
pub empty_is : (s : List ℕ) → is_empty s ≡ true → s ≡ []
empty_is [] t = refl
empty_is (b ∷ s) t = let none : suc (length s) ≡ 0 = grind (arith, nat_tests) in absurd (omega (arith, none))

filled_is : (s : List ℕ) → is_empty s ≡ false → s ≢ []
filled_is s t same = let none : is_empty s ≡ true = ap is_empty same in absurd (cc)

-- the text of a form
pub text_is : (form : List ℕ → Bool) (s text : List ℕ) → read_text form s ≡ Some text → s ≡ text
text_is form s text h = by (form s) h
  where
    by : (b : Bool) → (if b then Some s else None) ≡ Some text → s ≡ text
    by true h = cc
    by false h = absurd (cc)

-- ---- The parts of a row

module _ (header row : List (List ℕ)) (long : length row ≡ length header) where
  abbrev pub cell : CellsOfRow
  cell = field_in header row

  -- each column has the text that is read of it
  has : (c : Column) → CellIs header row c (cell c)
  has c = by (place_of header c) refl
    where
      by : (place : Option ℕ) → place_of header c ≡ place → CellIs header row c (cell c)
      by None at =
          inr (word_nowhere header c at, ap (λ p. unwrap_or (option_and_then (field_at row) p) []) at)
      by (Some k) at =
          let word = word_there header c k at in
          let there = field_there header row long k (column_word c) word in
          let read : cell c ≡ there.0 =
          ap (λ p. unwrap_or (option_and_then (field_at row) p) []) at
          ∙ ap (λ o. unwrap_or o []) there.1 in
          inl (k, word, there.1 ∙ ap Some (sym read))

  has_as : (c : Column) (text : List ℕ) → cell c ≡ text → CellIs header row c text
  has_as c text is = subst (CellIs header row c) is (has c)

  -- and so does each column of a listing, which is there
  pub stands : (c : Column) (n : ℕ) (text : List ℕ) → stands_at header n c ≡ true → cell c ≡ text
      → StandsBelow header row c text
  stands c n text at is = below (has_as c text is)
    where
      word_at : (o : Option (List ℕ)) → is_word_of c o ≡ true → o ≡ Some (column_word c)
      word_at None t = absurd (cc)
      word_at (Some word) t = ap Some ((bytes_eq-Decides word (column_word c)).0 t)

      below : CellIs header row c text → StandsBelow header row c text
      below (inl there) = there
      below (inr none) = absurd (none.0 n (word_at (field_at header n) at))

  -- ---- Texts and marks

  note : (c : Column) (n : Option (List ℕ)) → note_in cell c ≡ Ok n → SaysNote header row c n
  note c n h = by (is_empty (cell c)) refl h
    where
      by : (b : Bool) → is_empty (cell c) ≡ b
          → (if b then Ok None else (text_in cell c >>= (λ text. Ok (Some text)))) ≡ Ok n
          → SaysNote header row c n
      by true t h =
          let none : ◌≡◌ {A = Option (List ℕ)} None n = cc in
          subst (SaysNote header row c) none (has_as c [] (empty_is (cell c) t))
      by false t h =
          let read = went_on (text_in cell c) (λ text. Ok (Some text)) n h in
          let some : Some read.0 ≡ n = let e = read.2 in cc in
          let is = text_is is_text (cell c) read.0
          (was_formed (read_text is_text (cell c)) c read.0 read.1) in
          subst (SaysNote header row c) some
          (has_as c read.0 is, λ empty. filled_is (cell c) t (is ∙ empty))

  mark : (c : Column) (b : Bool) → mark_in cell c ≡ Ok b → SaysMark header row c b
  mark c b h = by (bytes_eq (cell c) (codes "true")) refl h
    where
      no : (test : Bool) → (is_empty (cell c) || bytes_eq (cell c) (codes "false")) ≡ test
          → (if test then Ok false else Err (fault.Form c)) ≡ Ok b → SaysMark header row c b
      no false t h = absurd (cc)
      no true t h = which (is_empty (cell c)) refl t
        where
          is_false : ◌≡◌ {A = Bool} false b
          is_false = cc

          which : (empty : Bool) → is_empty (cell c) ≡ empty
              → (empty || bytes_eq (cell c) (codes "false")) ≡ true → SaysMark header row c b
          which true e t =
              subst (SaysMark header row c) is_false (inl (has_as c [] (empty_is (cell c) e)))
          which false e t =
              subst (SaysMark header row c) is_false
              (inr (has_as c (codes "false") ((bytes_eq-Decides (cell c) (codes "false")).0 t)))

      by : (test : Bool) → bytes_eq (cell c) (codes "true") ≡ test
          → (if test then Ok true
          else if (is_empty (cell c) || bytes_eq (cell c) (codes "false")) then Ok false
          else Err (fault.Form c)) ≡ Ok b
          → SaysMark header row c b
      by true t h =
          let is : true ≡ b = cc in
          subst (SaysMark header row c) is
          (has_as c (codes "true") ((bytes_eq-Decides (cell c) (codes "true")).0 t))
      by false t h = no (is_empty (cell c) || bytes_eq (cell c) (codes "false")) refl h

  pub held : (b : Bool) → held_in cell ≡ Ok b → SaysHeld header row b
  held b h = by (bytes_eq (cell column.Held) (codes "held")) refl h
    where
      no : (test : Bool) → is_empty (cell column.Held) ≡ test
          → (if test then Ok false else Err (fault.Form column.Held)) ≡ Ok b
          → SaysHeld header row b
      no true t h =
          let is : false ≡ b = cc in
          subst (SaysHeld header row) is
          (has_as column.Held [] (empty_is (cell column.Held) t))
      no false t h = absurd (cc)

      by : (test : Bool) → bytes_eq (cell column.Held) (codes "held") ≡ test
          → (if test then Ok true
          else if is_empty (cell column.Held) then Ok false else Err (fault.Form column.Held)) ≡ Ok b
          → SaysHeld header row b
      by true t h =
          let is : true ≡ b = cc in
          subst (SaysHeld header row) is
          (has_as column.Held (codes "held")
          ((bytes_eq-Decides (cell column.Held) (codes "held")).0 t))
      by false t h = no (is_empty (cell column.Held)) refl h

  -- ---- Evidence

  contact : (assignee name : List ℕ) → contact_in cell assignee ≡ Ok name
      → SaysContact header row assignee (Some name)
  contact assignee name h = by (is_empty (cell column.Contact)) refl h
    where
      by : (b : Bool) → is_empty (cell column.Contact) ≡ b
          → (if b then formed (read_text is_text assignee) column.Contact
          else text_in cell column.Contact) ≡ Ok name
          → SaysContact header row assignee (Some name)
      by true t h = inr (
        has_as column.Contact [] (empty_is (cell column.Contact) t),
        sym (text_is is_text assignee name
            (was_formed (read_text is_text assignee) column.Contact name h)),
      )
      by false t h =
          let is = text_is is_text (cell column.Contact) name
          (was_formed (read_text is_text (cell column.Contact)) column.Contact name h) in
          inl (has_as column.Contact name is, λ empty. filled_is (cell column.Contact) t (is ∙ empty))

  rfc : (r : Option PublishedRfc) → rfc_in cell ≡ Ok r → SaysRfc header row r
  rfc r h = by (is_empty (cell column.Rfc)) refl h
    where
      named : (number : ℕ) (stream : Stream) (track : Track)
          → read_number (cell column.Rfc) ≡ Some number
          → read_stream (cell column.Stream) ≡ Some stream
          → read_track (cell column.Track) ≡ Some track
          → rfc_of (record { number = number; stream = stream; track = track }) ≡ Ok r
          → SaysRfc header row r
      named number stream track n s t h =
          within (is_within 1 99999 number) h
        where
          within : (b : Bool)
              → (if b then Ok (Some (record { number = number; stream = stream; track = track }))
              else Err (fault.Form column.Rfc)) ≡ Ok r
              → SaysRfc header row r
          within false h = absurd (cc)
          within true h =
              let is : ◌≡◌ {A = Option PublishedRfc}
              (Some (record { number = number; stream = stream; track = track })) r = cc in
              subst (SaysRfc header row) is (
                has_as column.Rfc (decimal number) ((reads_decimals number (cell column.Rfc)).0 n).1,
                has_as column.Stream (stream_word stream)
                    ((streams_read stream (cell column.Stream)).0 s),
                has_as column.Track (track_word track) ((tracks_read track (cell column.Track)).0 t),
              )

      by : (b : Bool) → is_empty (cell column.Rfc) ≡ b
          → (if b then Ok None else rfc_named cell) ≡ Ok r → SaysRfc header row r
      by true t h =
          let none : ◌≡◌ {A = Option PublishedRfc} None r = cc in
          subst (SaysRfc header row) none (has_as column.Rfc [] (empty_is (cell column.Rfc) t))
      by false t h =
          let number = went_on (formed (read_number (cell column.Rfc)) column.Rfc) _ r h in
          let stream = went_on (formed (read_stream (cell column.Stream)) column.Stream) _ r number.2 in
          let track = went_on (formed (read_track (cell column.Track)) column.Track) _ r stream.2 in
          named number.0 stream.0 track.0
          (was_formed (read_number (cell column.Rfc)) column.Rfc number.0 number.1)
          (was_formed (read_stream (cell column.Stream)) column.Stream stream.0 stream.1)
          (was_formed (read_track (cell column.Track)) column.Track track.0 track.1) track.2

  pub evidence : (assignee : List ℕ) (e : Evidence) → evidence_in cell assignee ≡ Ok e
      → SaysEvidence header row assignee e
  evidence assignee e h =
      let name = went_on (contact_in cell assignee) _ e h in
      let spec = went_on (note_in cell column.Specification) _ e name.2 in
      let number = went_on (rfc_in cell) _ e spec.2 in
      let minute = went_on (note_in cell column.Minute) _ e number.2 in
      let made : Evidence = record {
        contact = Some name.0;
        spec = spec.0;
        rfc = number.0;
        minute = minute.0;
      } in
      let same : made ≡ e = let end = minute.2 in cc in
      subst (SaysEvidence header row assignee) same (record {
        contact = contact assignee name.0 name.1;
        spec = note column.Specification spec.0 spec.1;
        rfc = rfc number.0 number.1;
        minute = note column.Minute minute.0 minute.1;
      })

  pub early_evidence : (e : EarlyEvidence) → early_evidence_in cell ≡ Ok e
      → SaysEarlyEvidence header row e
  early_evidence e h =
      let draft = went_on (note_in cell column.Draft) _ e h in
      let stable = went_on (mark_in cell column.Stable) _ e draft.2 in
      let interest = went_on (mark_in cell column.Interest) _ e stable.2 in
      let chair = went_on (note_in cell column.Chair) _ e interest.2 in
      let director = went_on (note_in cell column.Director) _ e chair.2 in
      let rfc = went_on (mark_in cell column.WillBeRfc) _ e director.2 in
      let made : EarlyEvidence = record {
        draft = draft.0;
        stable = stable.0;
        interest = interest.0;
        chair = chair.0;
        director = director.0;
        will_be_rfc = rfc.0;
      } in
      let same : made ≡ e = let end = rfc.2 in cc in
      subst (SaysEarlyEvidence header row) same (record {
        draft = note column.Draft draft.0 draft.1;
        stable = mark column.Stable stable.0 stable.1;
        interest = mark column.Interest interest.0 interest.1;
        chair = note column.Chair chair.0 chair.1;
        director = note column.Director director.0 director.1;
        will_be_rfc = mark column.WillBeRfc rfc.0 rfc.1;
      })

  -- ---- Status

  -- what stands in the status of a row of a kind
  abbrev pub StatusOf : Option EntryKind → Type 0
  StatusOf None = (word : List ℕ) × Contains vacant_words word × (cell column.Status ≡ word)
  StatusOf (Some kind.ForGood) = cell column.Status ≡ codes "Assigned"
  StatusOf (Some kind.Early) =
      (cell column.Status ≡ codes "Temporary") ⊎ (cell column.Status ≡ codes "Expired")

  -- the word of a status
  word_is : (s : RowStatus) → row_words.is_word_of (cell column.Status) s ≡ true
      → cell column.Status ≡ status_word s
  word_is s t = (bytes_eq-Decides (cell column.Status) (status_word s)).0 t

  abbrev is_a : RowStatus → Bool
  is_a s = row_words.is_word_of (cell column.Status) s

  vacant : is_vacant (cell column.Status) ≡ true → StatusOf None
  vacant t = one (or_cases (is_a status.Unassigned) _ t)
    where
      five : (is_a status.ExperimentalUse ≡ true) ⊎ (is_a status.HierarchicalAllocation ≡ true)
          → StatusOf None
      five (inl is) =
          (codes "Experimental Use", (3, omega arith, refl), word_is status.ExperimentalUse is)
      five (inr is) = (
        codes "Hierarchical Allocation",
        (4, omega arith, refl),
        word_is status.HierarchicalAllocation is,
      )

      three : (is_a status.PrivateUse ≡ true)
          ⊎ ((is_a status.ExperimentalUse || is_a status.HierarchicalAllocation) ≡ true)
          → StatusOf None
      three (inl is) = (codes "Private Use", (2, omega arith, refl), word_is status.PrivateUse is)
      three (inr is) = five (or_cases (is_a status.ExperimentalUse) _ is)

      two : (is_a status.Reserved ≡ true)
          ⊎ ((is_a status.PrivateUse
          || (is_a status.ExperimentalUse || is_a status.HierarchicalAllocation)) ≡ true)
          → StatusOf None
      two (inl is) = (codes "Reserved", (1, omega arith, refl), word_is status.Reserved is)
      two (inr is) = three (or_cases (is_a status.PrivateUse) _ is)

      one : (is_a status.Unassigned ≡ true)
          ⊎ ((is_a status.Reserved
          || (is_a status.PrivateUse
          || (is_a status.ExperimentalUse || is_a status.HierarchicalAllocation))) ≡ true)
          → StatusOf None
      one (inl is) = (codes "Unassigned", (0, omega arith, refl), word_is status.Unassigned is)
      one (inr is) = two (or_cases (is_a status.Reserved) _ is)

  pub status_of : (k : Option EntryKind) → kind_in cell ≡ Ok k → StatusOf k
  status_of k h = by_vacant (is_vacant (cell column.Status)) refl h
    where
      by_early : (b : Bool) → is_early (cell column.Status) ≡ b
          → (if b then Ok (Some kind.Early) else Err (fault.Form column.Status)) ≡ Ok k
          → StatusOf k
      by_early false t h = absurd (cc)
      by_early true t h =
          let is : ◌≡◌ {A = Option EntryKind} (Some kind.Early) k = cc in
          subst StatusOf is (which (or_cases (is_a (status.Entry term.Temporary)) _ t))
        where
          which : (is_a (status.Entry term.Temporary) ≡ true)
              ⊎ (is_a (status.Entry term.Expired) ≡ true)
              → StatusOf (Some kind.Early)
          which (inl is) = inl (word_is (status.Entry term.Temporary) is)
          which (inr is) = inr (word_is (status.Entry term.Expired) is)

      by_assigned : (b : Bool) → is_a (status.Entry term.Assigned) ≡ b
          → (if b then Ok (Some kind.ForGood)
          else if is_early (cell column.Status) then Ok (Some kind.Early)
          else Err (fault.Form column.Status)) ≡ Ok k
          → StatusOf k
      by_assigned true t h =
          let is : ◌≡◌ {A = Option EntryKind} (Some kind.ForGood) k = cc in
          subst StatusOf is (word_is (status.Entry term.Assigned) t)
      by_assigned false t h = by_early (is_early (cell column.Status)) refl h

      by_vacant : (b : Bool) → is_vacant (cell column.Status) ≡ b
          → (if b then Ok None
          else if is_a (status.Entry term.Assigned) then Ok (Some kind.ForGood)
          else if is_early (cell column.Status) then Ok (Some kind.Early)
          else Err (fault.Form column.Status)) ≡ Ok k
          → StatusOf k
      by_vacant true t h =
          let is : ◌≡◌ {A = Option EntryKind} None k = cc in subst StatusOf is (vacant t)
      by_vacant false t h = by_assigned (is_a (status.Entry term.Assigned)) refl h
