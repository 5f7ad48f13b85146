-- What a text begins with that begins with records.
use Rattle.std.proofs.Common.{◌≡◌, ◌≢◌, ℕ, ◌+◌, ◌≤◌, true, List, [], ◌∷◌, ◌++◌, length, length-append, refl, sym, ap, subst, ◌∙◌, append_assoc, append-nil, arith}
use Rattle.std.specs.Prelude.{Result, Ok, Err, IfOk, IfErr}
use Rattle.std.specs.Cmp.{first_so, second_so}
use Rattle.std.specs.List.{All}
use Rattle.std.specs.Ordering.{is_le}
use Rattle.std.proofs.lemmas.List.Elements.{All-cons, All-head, All-nil, All-tail}
use Rattle.reg_maps.specs.Maps.{text_cmp}
use Rattle.reg_changes.specs.declared.change.HistoryRecord.{HistoryRecord}
use Rattle.reg_history.specs.Chain.{Chained, begun, chain_from, chained, header_line, next_digest, next_line, with_record}
use Rattle.reg_history.specs.History.{IsHistory, IsHistoryOf, IsWrongAfter, IsWrongAt, NoneComes, TakesRecord, TellsWrong}
use Rattle.reg_history.specs.Laws.{IsReadBackAs}
use Rattle.reg_history.specs.Written.{IsText, CanBeWritten}
use Rattle.reg_history.specs.declared.history.History.{History}
use Rattle.reg_history.specs.declared.history.Unreadable.{Unreadable}
use Rattle.reg_history.specs.declared.history.Unreadable.TheVariants.{Memory, Header, Wrong}
use Rattle.reg_history.proofs.Histories.{chain_from-append}
use Rattle.reg_history.proofs.Unique.{cancel, chain-lines, line-some, line-tells, lines_of, unique}

-- ---- Records behind records

-- the others begin with these records, and what is left of the text is the rest of them
record GoesOn (c : Chained) (xs ys : List HistoryRecord) (left end : List ℕ) : Type 0 where
  more : List HistoryRecord
  all : ys ≡ xs ++ more
  text : left ≡ lines_of (chain_from c xs).digests more ++ end

-- a text that begins with some records, and with others that are no fewer
goes_on : (c : Chained) (xs ys : List HistoryRecord) (left end : List ℕ) → length xs ≤ length ys
    → lines_of c.digests xs ++ left ≡ lines_of c.digests ys ++ end → GoesOn c xs ys left end
unfolding lines_of
goes_on c [] ys left end h e = record { more = ys; all = refl; text = e }
goes_on c (x ∷ xs) [] left end h e = absurd (omega arith)
goes_on c (x ∷ xs) (y ∷ ys) left end h e =
    let tail = lines_of (with_record c x).digests xs in
    let tail' = lines_of (with_record c y).digests ys in
    let both = line-tells c.digests x y (tail ++ left) (tail' ++ end)
    (sym (append_assoc (next_line c.digests x) tail left) ∙ e
    ∙ append_assoc (next_line c.digests y) tail' end) in
    let more = goes_on (with_record c x) xs ys left end (omega arith)
    (both.1 ∙ ap (λ (r : HistoryRecord). lines_of (with_record c r).digests ys ++ end) (sym both.0)) in
    record {
      more = more.more;
      all = λ i. sym both.0 i ∷ more.all i;
      text = more.text;
    }

-- the records that a text begins with are no more than those of which it is the whole
no_more : (ds : List (List ℕ)) (xs ys : List HistoryRecord) (left : List ℕ)
    → lines_of ds xs ++ left ≡ lines_of ds ys → length xs ≤ length ys
unfolding lines_of
no_more ds [] ys left e = omega arith
no_more ds (x ∷ xs) [] left e =
    let tail = lines_of (ds ++ next_digest ds x ∷ []) xs in
    absurd (line-some ds x (tail ++ left) (sym (append_assoc (next_line ds x) tail left) ∙ e))
no_more ds (x ∷ xs) (y ∷ ys) left e =
    let tail = lines_of (ds ++ next_digest ds x ∷ []) xs in
    let both = line-tells ds x y (tail ++ left) (lines_of (ds ++ next_digest ds y ∷ []) ys)
    (sym (append_assoc (next_line ds x) tail left) ∙ e) in
    let less = no_more (ds ++ next_digest ds x ∷ []) xs ys left
    (both.1 ∙ ap (λ (r : HistoryRecord). lines_of (ds ++ next_digest ds r ∷ []) ys) (sym both.0)) in
    omega arith

-- the same of whole texts
begins_alike : (xs ys : List HistoryRecord) (left end : List ℕ)
    → (chained xs).text ++ left ≡ (chained ys).text ++ end
    → lines_of [] xs ++ left ≡ lines_of [] ys ++ end
begins_alike xs ys left end e =
    cancel header_line (lines_of [] xs ++ left) (lines_of [] ys ++ end)
    (sym (append_assoc header_line (lines_of [] xs) left)
    ∙ ap (λ t. t ++ left) (sym (chain-lines begun xs)) ∙ e
    ∙ ap (λ t. t ++ end) (chain-lines begun ys)
    ∙ append_assoc header_line (lines_of [] ys) end)

-- ---- Histories that this program writes

in_order-front : (c : Chained) (xs : List HistoryRecord) → (chain_from c xs).in_order ≡ true
    → c.in_order ≡ true
in_order-front c [] h = h
in_order-front c (x ∷ xs) h =
    first_so c.in_order (is_le (text_cmp c.moment x.moment)) (in_order-front (with_record c x) xs h)

texts-front : (xs ys : List HistoryRecord) → All IsText (xs ++ ys) → All IsText xs
texts-front [] ys h = All-nil IsText
texts-front (x ∷ xs) ys h =
    All-cons IsText x xs (All-head IsText x (xs ++ ys) h)
    (texts-front xs ys (All-tail IsText x (xs ++ ys) h))

texts-end : (xs : List HistoryRecord) (r : HistoryRecord) → All IsText (xs ++ r ∷ []) → IsText r
texts-end [] r h = All-head IsText r [] h
texts-end (x ∷ xs) r h = texts-end xs r (All-tail IsText x (xs ++ r ∷ []) h)

-- the first records of such a history are one
written-front : (xs ys : List HistoryRecord) → CanBeWritten (xs ++ ys) → CanBeWritten xs
written-front xs ys is = record {
  texts = texts-front xs ys is.texts;
  in_order =
      in_order-front (chained xs) ys
      (ap (λ (c : Chained). c.in_order) (sym (chain_from-append begun xs ys)) ∙ is.in_order);
}

-- its last record may come after the others
comes_last : (xs : List HistoryRecord) (r : HistoryRecord) → CanBeWritten (xs ++ r ∷ [])
    → is_le (text_cmp (chained xs).moment r.moment) ≡ true
comes_last xs r is =
    second_so (chained xs).in_order (is_le (text_cmp (chained xs).moment r.moment))
    (ap (λ (c : Chained). c.in_order) (sym (chain_from-append begun xs (r ∷ []))) ∙ is.in_order)

-- ---- Records that are wrong

-- the one record more is not what comes next
not_one : (xs ys more : List HistoryRecord) (left end : List ℕ) → NoneComes xs left → CanBeWritten ys
    → length ys ≡ length xs + 1 → ys ≡ xs ++ more
    → left ≡ lines_of (chained xs).digests more ++ end → ⊥
unfolding lines_of
not_one xs ys [] left end none is counted all text =
    omega (arith, counted, ap length all, length-append xs [])
not_one xs ys (r ∷ []) left end none is counted all text =
    let written = subst CanBeWritten all is in
    none r end (texts-end xs r written.texts) (comes_last xs r written)
    (text ∙ ap (λ t. t ++ end) (append-nil (next_line (chained xs).digests r)))
not_one xs ys (r ∷ s ∷ more) left end none is counted all text =
    omega (arith, counted, ap length all, length-append xs (r ∷ s ∷ more))

-- no text with one record more than these begins as one does in which none comes after them
none_more : (xs ys : List HistoryRecord) (left end : List ℕ) → NoneComes xs left → CanBeWritten ys
    → length ys ≡ length xs + 1 → (chained ys).text ++ end ≡ (chained xs).text ++ left → ⊥
none_more xs ys left end none is counted e =
    let on = goes_on begun xs ys left end (omega (arith, counted)) (begins_alike xs ys left end (sym e)) in
    not_one xs ys on.more left end none is counted on.all on.text

-- what is wrong after the records that were taken is wrong in the text
pub tells_wrong : (h : History) (records : List HistoryRecord) (text rest : List ℕ) (why : Unreadable)
    (t : TakesRecord h records text rest) → rest ≢ [] → IsWrongAfter t.more rest why
    → TellsWrong ((chained records).text ++ text) why
tells_wrong h records text rest Memory t some wrong = tt
tells_wrong h records text rest Header t some wrong = absurd wrong
tells_wrong h records text rest (Wrong number) t some wrong =
    record {
      records = t.more;
      rest = rest;
      counted = wrong.0;
      begins = t.whole;
      more = some;
      none = λ others end is many e.
          none_more t.more others rest end wrong.1 is (many ∙ wrong.0) (e ∙ sym t.whole);
    }

-- ---- Histories that are read again

-- all of such a history cannot be behind these records and before the end of its text
not_wrong : (records : List HistoryRecord) (number : ℕ) (wrong : IsWrongAt (chained records).text number)
    (more : List HistoryRecord) → CanBeWritten records → records ≡ wrong.records ++ more
    → wrong.rest ≡ lines_of (chained wrong.records).digests more ++ [] → ⊥
unfolding lines_of
not_wrong records number wrong [] is all text = wrong.more text
not_wrong records number wrong (r ∷ more) is all text =
    let others = wrong.records ++ r ∷ [] in
    let whole : records ≡ others ++ more = all ∙ sym (append_assoc wrong.records (r ∷ []) more) in
    let end = lines_of (chained others).digests more in
    let read : (chained others).text ++ end ≡ (chained records).text =
    sym (chain-lines (chained others) more)
    ∙ ap (λ (c : Chained). c.text) (sym (chain_from-append begun others more))
    ∙ ap (λ rs. (chained rs).text) (sym whole) in
    wrong.none others end (written-front others more (subst CanBeWritten whole is))
    (length-append wrong.records (r ∷ []) ∙ sym wrong.counted) read

-- only want of memory stops the reading of a history that this program wrote
written_is_read : (records : List HistoryRecord) (why : Unreadable) → CanBeWritten records
    → TellsWrong (chained records).text why → why ≡ Memory
written_is_read records Memory is told = refl
written_is_read records Header is told =
    absurd (told (lines_of [] records) (chain-lines begun records))
written_is_read records (Wrong number) is told =
    let whole = append-nil (chained records).text in
    let lines = begins_alike told.records records told.rest [] (told.begins ∙ sym whole) in
    let few = no_more [] told.records records told.rest (lines ∙ append-nil (lines_of [] records)) in
    let on = goes_on begun told.records records told.rest [] few lines in
    absurd (not_wrong records number told on.more is on.all on.text)

pub reads_back : (r : Result History Unreadable) (records : List HistoryRecord) (text : List ℕ)
    → IfOk r (λ h. IsHistoryOf h text) → IfErr r (TellsWrong text) → CanBeWritten records
    → (chained records).text ≡ text → IsReadBackAs records r
reads_back (Ok h) records text history wrong is e =
    subst (IsHistory h) (unique history.0 records (history.1 ∙ sym e)) history.2
reads_back (Err why) records text history wrong is e =
    let Tells : List ℕ → Type 0 = λ t. TellsWrong t why in
    written_is_read records why is (subst Tells (sym e) wrong)
