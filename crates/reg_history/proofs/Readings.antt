-- How a reader of records goes on.
use Rattle.std.proofs.Common.{◌≡◌, ℕ, ◌+◌, ◌<◌, ◌^◌, ◌==◌, Bor, Bool, true, false, List, [], ◌∷◌, ◌++◌, length, refl, sym, ap, subst, ◌∙◌, append_assoc, inl, inr, arith}
use Rattle.std.specs.Prelude.{Option, Some, None, Result, Ok, Err, IfOk}
use Rattle.std.specs.Fmt.{decimal}
use Rattle.std.specs.List.{list_any}
use Rattle.std.specs.Str.{IsAscii}
use Rattle.std.proofs.lemmas.Bool.{cases_Bool, eqb-true}
use Rattle.std.proofs.lemmas.Fmt.{IsAscii-decimal}
use Rattle.std.proofs.lemmas.Str.{IsUtf8-from_ascii}
use Rattle.csv.specs.Machine.{next_record}
use Rattle.csv.specs.Reading.{ReadRecord, ReadsNext, default_config, pending_of, reader_source, reader_state, strip_bom, took_first}
use Rattle.csv.specs.Writing.{default_writer, field_text, fields_text, needs_byte}
use Rattle.csv.specs.declared.parser.State.{State}
use Rattle.csv.specs.declared.parser.State.TheVariants as st
use Rattle.csv.specs.declared.reader.Reader.{Reader}
use Rattle.reg_changes.specs.declared.change.HistoryRecord.{HistoryRecord}
use Rattle.reg_history.specs.Chain.{change_fields, digest, last_digest, line, next_digest, next_line, record_fields}
use Rattle.reg_history.specs.Reading.{BeginsWithRow, IsAt}
use Rattle.reg_history.specs.declared.reading.Records.{Records}
use Rattle.reg_history.proofs.Unique.{read_line}

-- ---- A line begins with no byte order mark

no_mark : (b : ℕ) (rest : List ℕ) → (b == 239) ≡ false → strip_bom (b ∷ rest) ≡ b ∷ rest
unfolding strip_bom
no_mark b [] e = refl
no_mark b (c ∷ []) e = refl
no_mark b (c ∷ d ∷ rest) e = rw e refl

apart : (x : ℕ) → x < 128 → (x == 239) ≡ false
apart x small = elim (cases_Bool (x == 239)) [
  | inl same ↦ absurd (omega (arith, small, eqb-true x 239 same))
  | inr other ↦ other
]

ascii_front : (xs rest : List ℕ) → IsAscii xs → strip_bom (xs ++ 44 ∷ rest) ≡ xs ++ 44 ∷ rest
ascii_front [] rest ascii = no_mark 44 rest refl
ascii_front (x ∷ xs) rest ascii =
    no_mark x (xs ++ 44 ∷ rest) (apart x (ascii 0))

field_front : (xs rest : List ℕ) → IsAscii xs
    → strip_bom (field_text default_writer xs ++ 44 ∷ rest) ≡ field_text default_writer xs ++ 44 ∷ rest
field_front xs rest ascii = elim (cases_Bool (list_any (needs_byte default_writer) xs)) [
  | inl needs ↦ rw needs (no_mark 34 _ refl)
  | inr plain ↦ rw plain (ascii_front xs rest ascii)
]

regroup : (a b d e rest : List ℕ)
    → ((((a ++ 44 ∷ b) ++ 44 ∷ []) ++ (d ++ e)) ++ rest) ≡ a ++ 44 ∷ (b ++ (44 ∷ (d ++ (e ++ rest))))
regroup a b d e rest = simp append_assoc

line_front : (before : List ℕ) (n : ℕ) (r : HistoryRecord) (rest : List ℕ) → n < 2 ^ 64
    → strip_bom (line before n r ++ rest) ≡ line before n r ++ rest
unfolding fields_text
line_front before n r rest small =
    let fields = field_text default_writer r.moment ++ fields_text default_writer (change_fields r.change) in
    let whole : line before n r ++ rest
    ≡ field_text default_writer (decimal n)
    ++ 44 ∷ (fields ++ (44 ∷ (digest before n r ++ (10 ∷ [] ++ rest)))) =
    regroup (field_text default_writer (decimal n)) fields (digest before n r) (10 ∷ []) rest in
    subst (λ t. strip_bom t ≡ t) (sym whole) (field_front (decimal n) _ (IsAscii-decimal n small))

-- a text that begins with the line of a record
pub begins_with_row : (ds : List (List ℕ)) (r : HistoryRecord) (text rest : List ℕ)
    → length ds + 1 < 2 ^ 64 → text ≡ next_line ds r ++ rest → BeginsWithRow text r rest
begins_with_row ds r text rest small e =
    subst (λ t. BeginsWithRow t r rest) (sym e)
    (record {
      number = decimal (length ds + 1);
      digest = next_digest ds r;
      row = read_line (last_digest ds) (length ds + 1) r rest;
      utf8 = IsUtf8-from_ascii (decimal (length ds + 1)) (IsAscii-decimal (length ds + 1) small);
      plain = line_front (last_digest ds) (length ds + 1) r rest small;
    })

-- ---- A row that is read

abbrev under : Bor (List ℕ) → Option (List ℕ)
under s = Some s.now

-- what a reader gave, and where it stands then
pub record Reads (found : Bool) (fields given : List (List ℕ)) (state : State) (left : Option (List ℕ))
    (rest : List ℕ) : Type 0 where
  pub is : found ≡ true
  pub fields_are : given ≡ fields
  pub between : state ≡ st.StartRecord
  pub left_is : left ≡ Some rest

reads_next : (found : Bool) (text rest : List ℕ) (fields given : List (List ℕ)) (state : State)
    (left : Option (List ℕ))
    → next_record default_config st.StartRecord [] [] text ≡ Some (fields, st.StartRecord, rest)
    → ReadsNext default_config st.StartRecord (Some text) left found given state
    → Reads found fields given state left rest
reads_next found text rest fields given state None next h = absurd h
reads_next found text rest fields given state (Some left) next h =
    let read = rw next at h in
    record { is = read.0; fields_are = read.1; between = read.2; left_is = ap Some read.3 }

-- a read at a text that begins with a row gives its fields
pub reads_row : (old : Records) (new : Reader (Bor (List ℕ))) (found : Bool) (given : List (List ℕ))
    (r : HistoryRecord) (text rest : List ℕ) (here : IsAt old text) (row : BeginsWithRow text r rest)
    → ReadRecord under old.reader new found given
    → Reads found (record_fields row.number r ++ row.digest ∷ []) given (reader_state new)
    (pending_of (under (reader_source new)) new) rest
reads_row old new found given r text rest here row read =
    reads_next found text rest (record_fields row.number r ++ row.digest ∷ []) given (reader_state new)
    (pending_of (under (reader_source new)) new) row.row
    (rw (here.config, here.state, here.source row.plain) at read.0)

-- and then comes what is behind the row
pub goes_on : (old new : Records) (found : Bool) (given : List (List ℕ)) (r : HistoryRecord)
    (text rest : List ℕ) → IsAt old text → BeginsWithRow text r rest
    → ReadRecord under old.reader new.reader found given → took_first new.reader ≡ true → IsAt new rest
goes_on old new found given r text rest here row read first =
    let reads = reads_row old new.reader found given r text rest here row read in
    record {
      trim = read.3 ∙ here.trim;
      ready = inl first;
      config = read.2 ∙ here.config;
      state = reads.between;
      source = λ _. rw read.1 reads.left_is;
    }

-- what is so of what a call gave
pub if_ok : {X E : Type 0} (P Q : X → Type 0) (r : Result X E) → ((x : X) → P x → Q x) → IfOk r P
    → IfOk r Q
if_ok P Q (Ok x) f h = f x h
if_ok P Q (Err e) f h = tt
