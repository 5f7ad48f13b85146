-- One line more, and more bytes of a line.
use Rattle.std.proofs.Common.{◌≡◌, ◌≢◌, ℕ, ◌+◌, ◌<◌, ◌≤◌, List, [], ◌∷◌, ◌++◌, Option, None, Some, length, take, drop, arith, refl, sym, ap, ◌∙◌, append_assoc, append-nil, zero, suc, true, inl, inr, length-append, length-drop, ◌-◌, subst, get_or, take-append-drop}
use Rattle.std.proofs.KnownBytes.{Appends-trans, Appends-nil, Consumes-nil}
use Rattle.std.proofs.lemmas.Bool.{eq-eqb, eqb-true}
use Rattle.std.proofs.lemmas.List.{drop_more, length-take, take_all}
use Rattle.std.specs.Prelude.{◌==◌}
use Rattle.std.proofs.Math.Seq.{take-append-add}
use Rattle.std.specs.List.{flat_map, AllByRecursion}
use Rattle.std.specs.Io.KnownBytes.{Appends, Consumes, IsAtEnd}
use Rattle.reg_wire.specs.declared.wire_fault.WireFault.{WireFault}
use Rattle.reg_wire.specs.declared.wire_fault.WireFault.TheVariants as fault
use Rattle.reg_wire.specs.Exchange.{Call}
use Rattle.reg_wire.specs.Script.Line.{line_of, most_bytes}
use Rattle.reg_wire.specs.Script.Lines.{refusal, Answered, Ran, IsOneLine, ended, Cut, rest_line, AreLines, BeginWith, LinesBefore, Wrote, AnswersAll, StopsAt}
use Rattle.reg_wire.specs.Script.LineBuffer.{AnswersLine, IsBuffered, CutShort, Progress, WroteSome, RanOver, Whole, Halted, HaltedLast}

-- ---- A line

module _ {S : Type 0} (Serves : S → Call → List ℕ → S → Type 0) where
  pub refused : (w : S) (line : List ℕ) → line_of line ≡ None → Answered Serves w line refusal w
  refused w line none = rw none (refl, refl)

  pub served : (w v : S) (line answer : List ℕ) (asked : Call) → Some asked ≡ line_of line
      → Serves w asked answer v → Answered Serves w line answer v
  served w v line answer asked some h = rw (← some) h

  ran_more : (lines : List (List ℕ)) (line : List ℕ) (w : S) (answers : List (List ℕ))
      (answer : List ℕ) (v u : S)
      → Ran Serves w lines answers v → Answered Serves v line answer u
      → Ran Serves w (lines ++ line ∷ []) (answers ++ answer ∷ []) u
  ran_more [] line w [] answer v u e h = let P = λ (x : S). Answered Serves x line answer u in
      (u, subst P e h, refl)
  ran_more [] line w (b ∷ answers) answer v u e h = absurd e
  ran_more (l ∷ lines) line w [] answer v u e h = absurd e
  ran_more (l ∷ lines) line w (b ∷ answers) answer v u e h =
      (e.0, e.1, ran_more lines line e.0 answers answer v u e.2 h)

-- ---- Cuts

ended_more : (lines : List (List ℕ)) (line : List ℕ)
    → flat_map ended (lines ++ line ∷ []) ≡ flat_map ended lines ++ ended line
ended_more [] line = append-nil (ended line)
ended_more (l ∷ lines) line =
    ap (λ t. ended l ++ t) (ended_more lines line)
    ∙ sym (append_assoc (ended l) (flat_map ended lines) (ended line))

lines_more : (lines : List (List ℕ)) (line : List ℕ) → AllByRecursion IsOneLine lines
    → IsOneLine line → AllByRecursion IsOneLine (lines ++ line ∷ [])
lines_more [] line h k = (k, tt)
lines_more (l ∷ lines) line h k = (h.0, lines_more lines line h.1 k)

line_more : (rest more : List ℕ) → IsOneLine rest → IsOneLine more → IsOneLine (rest ++ more)
line_more [] more h k = k
line_more (x ∷ rest) more h k = (h.0, line_more rest more h.1 k)

cut_more : (bytes : List ℕ) (lines : List (List ℕ)) (rest more : List ℕ) → IsOneLine more
    → Cut bytes lines rest → Cut (bytes ++ more) lines (rest ++ more)
cut_more bytes lines rest more k h = record {
  whole = ap (λ t. t ++ more) h.whole ∙ append_assoc (flat_map ended lines) rest more;
  each = h.each;
  last = line_more rest more h.last k;
}

cut_line : (bytes : List ℕ) (lines : List (List ℕ)) (rest : List ℕ) → Cut bytes lines rest
    → Cut (bytes ++ 10 ∷ []) (lines ++ rest ∷ []) []
cut_line bytes lines rest h = record {
  whole = ap (λ t. t ++ 10 ∷ []) h.whole ∙ append_assoc (flat_map ended lines) rest (10 ∷ [])
      ∙ sym (ended_more lines rest) ∙ sym (append-nil _);
  each = lines_more lines rest h.each h.last;
  last = tt;
}

begins : (bytes : List ℕ) (lines : List (List ℕ)) (rest more : List ℕ) → Cut bytes lines rest
    → BeginWith (bytes ++ more) lines
begins bytes lines rest more h = (
  rest ++ more,
  ap (λ t. t ++ more) h.whole ∙ append_assoc (flat_map ended lines) rest more,
  h.each,
)

begins_more : (bytes more : List ℕ) (lines : List (List ℕ)) → BeginWith bytes lines
    → BeginWith (bytes ++ more) lines
begins_more bytes more lines h =
    (h.0 ++ more, ap (λ t. t ++ more) h.1 ∙ append_assoc (flat_map ended lines) h.0 more, h.2)

-- ---- What went out

wrote_short : (why : WireFault) (answers : List (List ℕ)) (answer : List ℕ) (sent : ℕ)
    (had has now : Option (List ℕ))
    → Appends had has (flat_map ended answers) → sent ≡ length (flat_map ended answers)
    → CutShort why sent answer has now → WroteSome why (answers ++ answer ∷ []) had now
wrote_short fault.Read answers answer sent had has now p count h = h
wrote_short fault.Memory answers answer sent had has now p count h =
    let same = append-nil (flat_map ended answers) in
    inr (answers, answer, refl, h.0, rw same at (Appends-trans had has now _ _ p h.1))
wrote_short (fault.Write n) answers answer sent had has now p count h =
    let size = length-append answer (10 ∷ []) in
    let all = ap length (ended_more answers answer) in
    let n_is : n ≡ length (flat_map ended answers) + h.0 = omega (arith, h.2, count) in
    let cut : take n (flat_map ended (answers ++ answer ∷ [])) ≡ flat_map ended answers
    ++ take h.0 (ended answer) =
    rw (n_is, ended_more answers answer)
    (take-append-add (flat_map ended answers) (ended answer) h.0) in (
      answers,
      (answer, refl),
      omega arith,
      omega (arith, h.1, size, all, length-append (flat_map ended answers) (ended answer)),
      rw cut (Appends-trans had has now _ _ p h.3),
    )

-- ---- Progress

module _ {S : Type 0} (Serves : S → Call → List ℕ → S → Type 0) (first : S)
    (had : Option (List ℕ)) where
  -- before any byte
  pub progress_start : Progress Serves first had [] [] 0 first had
  progress_start = record {
    lines = [];
    rest = [];
    answers = [];
    cut = record { whole = refl; each = tt; last = tt };
    is_buffered = refl;
    ran = refl;
    wrote = Appends-nil had;
    count = refl;
  }

  -- a line feed comes: the line is answered
  pub progress_line : (bytes buffered none : List ℕ) (sent n : ℕ) (w v : S)
      (has now : Option (List ℕ))
      → Progress Serves first had bytes buffered sent w has
      → AnswersLine Serves w buffered v
      (λ answer. Appends has now (ended answer) × (n ≡ sent + length (ended answer)))
      → none ≡ []
      → Progress Serves first had (bytes ++ 10 ∷ []) none n v now
  progress_line bytes buffered none sent n w v has now p h empty =
      let got = h p.rest p.is_buffered in
      record {
        lines = p.lines ++ p.rest ∷ [];
        rest = [];
        answers = p.answers ++ got.0 ∷ [];
        cut = cut_line bytes p.lines p.rest p.cut;
        is_buffered = empty;
        ran = ran_more Serves p.lines p.rest first p.answers got.0 w v p.ran got.1;
        wrote = rw (ended_more p.answers got.0) (Appends-trans had has now _ _ p.wrote got.2.0);
        count = rw (ended_more p.answers got.0)
            (omega (arith, got.2.1, p.count, length-append (flat_map ended p.answers) (ended got.0)));
      }

  -- more bytes of a line come
  pub progress_more : (bytes buffered longer more : List ℕ) (sent : ℕ) (w : S)
      (has : Option (List ℕ))
      → IsOneLine more
      → Progress Serves first had bytes buffered sent w has
      → ((line : List ℕ) → IsBuffered line buffered → IsBuffered (line ++ more) longer)
      → Progress Serves first had (bytes ++ more) longer sent w has
  progress_more bytes buffered longer more sent w has one p h = record {
    lines = p.lines;
    rest = p.rest ++ more;
    answers = p.answers;
    cut = cut_more bytes p.lines p.rest more one p.cut;
    is_buffered = h p.rest p.is_buffered;
    ran = p.ran;
    wrote = p.wrote;
    count = p.count;
  }

  -- ---- Faults

  -- an answer was cut short
  pub halted_line : (why : WireFault) (bytes buffered : List ℕ) (sent : ℕ) (w v : S)
      (has now : Option (List ℕ))
      → Progress Serves first had bytes buffered sent w has
      → AnswersLine Serves w buffered v (λ answer. CutShort why sent answer has now)
      → Halted Serves why first had (bytes ++ 10 ∷ []) v now
  halted_line why bytes buffered sent w v has now p h =
      let got = h p.rest p.is_buffered in
      let cut = cut_line bytes p.lines p.rest p.cut in
      record {
        lines = p.lines ++ p.rest ∷ [];
        answers = p.answers ++ got.0 ∷ [];
        over = ([], cut.whole, cut.each);
        ran = ran_more Serves p.lines p.rest first p.answers got.0 w v p.ran got.1;
        wrote = wrote_short why p.answers got.0 sent had has now p.wrote p.count got.2;
      }

  -- memory for the line ran out
  pub halted_memory : (bytes buffered more : List ℕ) (sent : ℕ) (w : S) (has : Option (List ℕ))
      → Progress Serves first had bytes buffered sent w has
      → Halted Serves fault.Memory first had (bytes ++ more) w has
  halted_memory bytes buffered more sent w has p = record {
    lines = p.lines;
    answers = p.answers;
    over = begins bytes p.lines p.rest more p.cut;
    ran = p.ran;
    wrote = inl p.wrote;
  }

  -- more bytes change nothing
  pub halted_more : (why : WireFault) (bytes more : List ℕ) (w : S) (has : Option (List ℕ))
      → Halted Serves why first had bytes w has → Halted Serves why first had (bytes ++ more) w has
  halted_more why bytes more w has h = record {
    lines = h.lines;
    answers = h.answers;
    over = begins_more bytes more h.lines h.over;
    ran = h.ran;
    wrote = h.wrote;
  }

  -- ---- The end of the script

  none_buffered : (n : ℕ) (rest buffered : List ℕ) → buffered ≡ take (n + 1) rest
      → length buffered ≡ 0 → rest ≡ []
  none_buffered n [] buffered h none = refl
  none_buffered n (x ∷ rest) buffered h none = let size = ap length h in
      absurd (omega (arith, length-take (n + 1) (x ∷ rest)))

  pub whole_empty : (bytes buffered : List ℕ) (sent : ℕ) (w : S) (has : Option (List ℕ))
      → length buffered ≡ 0 → Progress Serves first had bytes buffered sent w has
      → Whole Serves first had bytes w has
  whole_empty bytes buffered sent w has none p =
      let empty : p.rest ≡ [] = none_buffered most_bytes p.rest buffered p.is_buffered none in
      record {
        lines = p.lines;
        answers = p.answers;
        over = (p.lines, p.rest, p.cut, rw empty (sym (append-nil p.lines)));
        ran = p.ran;
        wrote = p.wrote;
      }

  some_rest : (rest : List ℕ) → 0 < length rest → rest_line rest ≡ rest ∷ []
  some_rest [] h = absurd (omega arith)
  some_rest (b ∷ bs) h = refl

  some_buffered : (n : ℕ) (rest buffered : List ℕ) → buffered ≡ take n rest → length buffered ≢ 0
      → 0 < length rest
  some_buffered n rest buffered h some = omega (arith, ap length h, length-take n rest)

  last_line : (bytes buffered : List ℕ) (sent : ℕ) (w : S) (has : Option (List ℕ))
      → length buffered ≢ 0 → (p : Progress Serves first had bytes buffered sent w has)
      → AreLines bytes (p.lines ++ p.rest ∷ [])
  last_line bytes buffered sent w has some p = (
    p.lines,
    p.rest,
    p.cut,
    ap (λ t. p.lines ++ t)
        (sym (some_rest p.rest
        (some_buffered (most_bytes + 1) p.rest buffered p.is_buffered some))),
  )

  -- the last line was answered, and this went out
  last_answered : (Went : List (List ℕ) → Type 0) (bytes buffered : List ℕ) (sent : ℕ) (w v : S)
      (has : Option (List ℕ))
      → length buffered ≢ 0 → (p : Progress Serves first had bytes buffered sent w has)
      → (answer : List ℕ) → Answered Serves w p.rest answer v → Went (p.answers ++ answer ∷ [])
      → RanOver Serves first (AreLines bytes) Went v
  last_answered Went bytes buffered sent w v has some p answer answered went = record {
    lines = p.lines ++ p.rest ∷ [];
    answers = p.answers ++ answer ∷ [];
    over = last_line bytes buffered sent w has some p;
    ran = ran_more Serves p.lines p.rest first p.answers answer w v p.ran answered;
    wrote = went;
  }

  pub whole_line : (bytes buffered : List ℕ) (sent n : ℕ) (w v : S) (has now : Option (List ℕ))
      → length buffered ≢ 0
      → Progress Serves first had bytes buffered sent w has
      → AnswersLine Serves w buffered v
      (λ answer. Appends has now (ended answer) × (n ≡ sent + length (ended answer)))
      → Whole Serves first had bytes v now
  whole_line bytes buffered sent n w v has now some p h =
      let got = h p.rest p.is_buffered in
      last_answered (λ answers. Appends had now (flat_map ended answers)) bytes buffered sent w v has
      some p got.0 got.1
      (rw (ended_more p.answers got.0) (Appends-trans had has now _ _ p.wrote got.2.0))

  pub halted_last : (why : WireFault) (bytes buffered : List ℕ) (sent : ℕ) (w v : S)
      (has now : Option (List ℕ))
      → length buffered ≢ 0
      → Progress Serves first had bytes buffered sent w has
      → AnswersLine Serves w buffered v (λ answer. CutShort why sent answer has now)
      → HaltedLast Serves why first had bytes v now
  halted_last why bytes buffered sent w v has now some p h =
      let got = h p.rest p.is_buffered in
      last_answered (λ answers. WroteSome why answers had now) bytes buffered sent w v has some p
      got.0 got.1 (wrote_short why p.answers got.0 sent had has now p.wrote p.count got.2)

  -- ---- Whole runs

  pub answers_all : (bytes : List ℕ) (w : S) (unread left has : Option (List ℕ))
      → Consumes unread left bytes → IsAtEnd left → Whole Serves first had bytes w has
      → AnswersAll Serves first w unread left had has
  answers_all bytes w unread left has got end h = record {
    script = bytes;
    lines = h.lines;
    answers = h.answers;
    is_read = got;
    at_end = end;
    cut = h.over;
    ran = h.ran;
    wrote = h.wrote;
  }

  stopped : (why : WireFault) (bytes : List ℕ) (lines answers : List (List ℕ)) (w : S)
      (unread left has : Option (List ℕ)) → Consumes unread left bytes
      → LinesBefore why left bytes lines → Ran Serves first lines answers w
      → Wrote why answers had has → StopsAt Serves why first w unread left had has
  stopped why bytes lines answers w unread left has got before ran wrote = record {
    bytes = bytes;
    lines = lines;
    answers = answers;
    is_read = got;
    before = before;
    ran = ran;
    wrote = wrote;
  }

  -- after the last of its reads, as at one that failed
  pub stops_after_reads : (bytes buffered : List ℕ) (sent : ℕ) (w : S)
      (unread left has : Option (List ℕ))
      → Consumes unread left bytes → Progress Serves first had bytes buffered sent w has
      → StopsAt Serves fault.Read first w unread left had has
  stops_after_reads bytes buffered sent w unread left has got p =
      stopped fault.Read bytes p.lines p.answers w unread left has got (p.rest, p.cut) p.ran p.wrote

  pub stops_at : (why : WireFault) (bytes : List ℕ) (w : S) (unread left has : Option (List ℕ))
      → Consumes unread left bytes → Halted Serves why first had bytes w has
      → StopsAt Serves why first w unread left had has
  stops_at fault.Read bytes w unread left has got h = absurd h.wrote
  stops_at fault.Memory bytes w unread left has got h =
      stopped fault.Memory bytes h.lines h.answers w unread left has got (inl h.over) h.ran
      h.wrote
  stops_at (fault.Write n) bytes w unread left has got h =
      stopped (fault.Write n) bytes h.lines h.answers w unread left has got (inl h.over) h.ran
      h.wrote

  pub stops_last : (why : WireFault) (bytes : List ℕ) (w : S) (unread left has : Option (List ℕ))
      → Consumes unread left bytes → IsAtEnd left → HaltedLast Serves why first had bytes w has
      → StopsAt Serves why first w unread left had has
  stops_last fault.Read bytes w unread left has got end h = absurd h.wrote
  stops_last fault.Memory bytes w unread left has got end h =
      stopped fault.Memory bytes h.lines h.answers w unread left has got (inr (end, h.over)) h.ran
      h.wrote
  stops_last (fault.Write n) bytes w unread left has got end h =
      stopped (fault.Write n) bytes h.lines h.answers w unread left has got (inr (end, h.over)) h.ran
      h.wrote

-- before any byte
pub stops_before : {S : Type 0} (Serves : S → Call → List ℕ → S → Type 0) (first : S)
    (unread had : Option (List ℕ)) → StopsAt Serves fault.Memory first first unread unread had had
stops_before Serves first unread had = record {
  bytes = [];
  lines = [];
  answers = [];
  is_read = Consumes-nil unread;
  before = inl ([], refl, tt);
  ran = refl;
  wrote = inl (Appends-nil had);
}

-- ---- The next line feed

-- no byte before a place is a line feed
pub before_feed : (xs : List ℕ) (n : ℕ)
    → ((k : ℕ) → 0 ≤ k → k < n → ¬ ((get_or xs k 0 == 10) ≡ true)) → IsOneLine (take n xs)
before_feed xs zero h = tt
before_feed [] (suc n) h = tt
before_feed (x ∷ xs) (suc n) h = (
  λ e. h 0 (omega arith) (omega arith) (eq-eqb x 10 e),
  before_feed xs n (λ k a b. h (suc k) (omega arith) (omega arith)),
)

-- bytes, cut after a line feed among them
pub at_feed : (xs : List ℕ) (at : ℕ) → at < length xs → (get_or xs at 0 == 10) ≡ true
    → xs ≡ ended (take at xs) ++ drop (at + 1) xs
at_feed xs at h e =
    sym (take-append-drop at xs)
    ∙ ap (λ t. take at xs ++ t)
    (drop_more xs at 0 h ∙ ap (λ x. x ∷ drop (at + 1) xs) (eqb-true _ _ e))
    ∙ sym (append_assoc (take at xs) (10 ∷ []) (drop (at + 1) xs))

-- all from a place on
pub from_place : (xs : List ℕ) (i : ℕ) → take (length xs - i) (drop i xs) ≡ drop i xs
from_place xs i =
    let size = length-drop i xs in take_all (length xs - i) (drop i xs) (omega arith)
