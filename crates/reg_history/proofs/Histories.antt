-- How histories grow, record by record.
use Rattle.std.proofs.Common.{◌≡◌, ◌≢◌, ℕ, ◌+◌, ◌<◌, List, [], ◌∷◌, ◌++◌, length, map, get_or, true, false, refl, sym, ap, ◌∙◌, subst, append_assoc, append-nil, inl, inr, ◌==◌, arith, zero, suc, zero-add}
use Rattle.std.specs.Prelude.{Some, None, slice_get}
use Rattle.std.specs.Cmp.{tied_itself}
use Rattle.std.specs.Cmp.Lexicographic.{nat_list_cmp_total}
use Rattle.std.specs.Ordering.{is_le}
use Rattle.std.proofs.lemmas.Grind.{common_steps}
use Rattle.std.proofs.lemmas.Bool.{and_from, cases_Bool, eqb-true}
use Rattle.reg_maps.specs.Maps.{text_cmp}
use Rattle.reg_history.specs.Chain.{Chained, at, begun, chain_from, chained, next_digest, next_line, record_of, says, with_record}
use Rattle.reg_changes.specs.declared.change.HistoryRecord.{HistoryRecord}
use Rattle.reg_history.specs.History.{AddsRecord, IsHistory, IsHistoryOf, SaysJust, TakesRecord, later}
use Rattle.reg_history.specs.Overview.{AddsToOverview}
use Rattle.reg_changes.specs.Replay.{Said, SaysAfter, after, nothing, replay}
use Rattle.reg_changes.specs.Said.{Says, TellsLoss, said_by}
use Rattle.reg_history.specs.declared.chain.RecordLine.{RecordLine}
use Rattle.reg_changes.specs.declared.change.PublishedChange.{PublishedChange}
use Rattle.reg_changes.specs.declared.change.Fact.{Fact}
use Rattle.reg_history.specs.declared.history.History.{History}
use Rattle.reg_changes.specs.declared.said.Unrecorded.{Unrecorded}
use Rattle.reg_changes.proofs.Replayed.{replay-append}

-- ---- Chains

pub chain_from-append : (c : Chained) (xs ys : List HistoryRecord)
    → chain_from c (xs ++ ys) ≡ chain_from (chain_from c xs) ys
chain_from-append c [] ys = refl
chain_from-append c (x ∷ xs) ys = chain_from-append (with_record c x) xs ys

pub map-append : {X Y : Type 0} (f : X → Y) (xs ys : List X)
    → map f (xs ++ ys) ≡ map f xs ++ map f ys
map-append f [] ys = refl
map-append f (x ∷ xs) ys = ap (λ t. f x ∷ t) (map-append f xs ys)

-- more records only add to the text
pub grows : (c : Chained) (records : List HistoryRecord)
    → (more : List ℕ) × ((chain_from c records).text ≡ c.text ++ more)
grows c [] = ([], sym (append-nil c.text))
grows c (r ∷ records) =
    let rest = grows (with_record c r) records in
    (next_line c.digests r ++ rest.0, rest.1 ∙ append_assoc c.text (next_line c.digests r) rest.0)

-- ---- Records that are added

pub text-more : (records : List HistoryRecord) (r : HistoryRecord) (bytes : List ℕ)
    → bytes ≡ next_line (chained records).digests r
    → (chained (records ++ r ∷ [])).text ≡ (chained records).text ++ bytes
text-more records r bytes line =
    ap (λ (k : Chained). k.text) (chain_from-append begun records (r ∷ []))
    ∙ ap (λ b. (chained records).text ++ b) (sym line)

pub says-more : (records : List HistoryRecord) (r : HistoryRecord)
    → says (records ++ r ∷ []) ≡ after (says records) r.change
says-more records r =
    ap (replay nothing) (map-append (λ (x : HistoryRecord). x.change) records (r ∷ []))
    ∙ replay-append nothing (map (λ (x : HistoryRecord). x.change) records) (r.change ∷ [])

-- a history with one record more
pub history-more : (h h' : History) (records : List HistoryRecord) (moment : List ℕ)
    (change : PublishedChange) (l : RecordLine)
    → IsHistory h records → is_le (text_cmp h.moment moment) ≡ true
    → Says h'.said (after (said_by h.said) change)
    → AddsToOverview h'.overview records (record_of moment change) l
    → h'.chain.digests.items ≡ h.chain.digests.items ++ l.digest ∷ []
    → h'.moment ≡ moment → IsHistory h' (records ++ record_of moment change ∷ [])
history-more h h' records moment change l is ordered said adds digests now =
    let r : HistoryRecord = record_of moment change in
    let grown = chain_from-append begun records (r ∷ []) in
    let was : said_by h.said ≡ says records = λ i s. is.said s i in
    let order : (with_record (chained records) r).in_order ≡ true =
    and_from (chained records).in_order (is_le (text_cmp (chained records).moment moment))
    is.in_order
    (ap (λ m. is_le (text_cmp m moment)) (sym is.moment) ∙ ordered) in
    record {
      said = λ s. said s ∙ ap (λ (f : Said). after f change s) was
          ∙ ap (λ (f : Said). f s) (sym (says-more records r));
      digests =
          digests ∙ ap (λ ds. ds ++ l.digest ∷ []) is.digests
          ∙ ap (λ d. (chained records).digests ++ d ∷ []) adds.digest
          ∙ ap (λ (k : Chained). k.digests) (sym grown);
      shown = adds.grown;
      moment = now ∙ ap (λ (k : Chained). k.moment) (sym grown);
      in_order = ap (λ (k : Chained). k.in_order) grown ∙ order;
    }

pub adds_record : (h h' : History) (records : List HistoryRecord) (moment : List ℕ)
    (change : PublishedChange) (l : RecordLine)
    → IsHistory h records → is_le (text_cmp h.moment moment) ≡ true
    → Says h'.said (after (said_by h.said) change)
    → AddsToOverview h'.overview records (record_of moment change) l
    → h'.chain.digests.items ≡ h.chain.digests.items ++ l.digest ∷ []
    → h'.moment ≡ moment → AddsRecord h' records (record_of moment change) l.bytes.items
adds_record h h' records moment change l is ordered said adds digests now =
    let r : HistoryRecord = record_of moment change in
    record {
      grown = history-more h h' records moment change l is ordered said adds digests now;
      line = adds.line;
    }

-- a text that begins with the bytes of the record is that much shorter
pub takes_record : (h : History) (records : List HistoryRecord) (r : HistoryRecord) (bytes text rest : List ℕ)
    → AddsRecord h records r bytes → text ≡ bytes ++ rest → TakesRecord h records text rest
takes_record h records r bytes text rest adds e = record {
  more = records ++ r ∷ [];
  grown = adds.grown;
  whole =
      ap (λ t. t ++ rest) (text-more records r bytes adds.line)
      ∙ append_assoc (chained records).text bytes rest
      ∙ ap (λ t. (chained records).text ++ t) (sym e);
}

pub nothing_left : (xs : List ℕ) → (length xs == 0) ≡ true → xs ≡ []
nothing_left [] e = refl
nothing_left (x ∷ xs) e = absurd (omega (arith, eqb-true (length (x ∷ xs)) 0 e))

pub something_left : (xs : List ℕ) → (length xs == 0) ≡ false → xs ≢ []
something_left [] e none = cc e
something_left (x ∷ xs) e none = cc none

-- where nothing is left of a text, it is all read
pub takes_all : (h : History) (records : List HistoryRecord) (text rest : List ℕ)
    → TakesRecord h records text rest → rest ≡ []
    → IsHistoryOf h ((chained records).text ++ text)
takes_all h records text rest t none = (
  t.more,
  sym (append-nil (chained t.more).text) ∙ ap (λ x. (chained t.more).text ++ x) (sym none)
      ∙ t.whole,
  t.grown,
)

-- ---- A history that goes on

text-le-itself : (m : List ℕ) → is_le (text_cmp m m) ≡ true
text-le-itself m = ap is_le (tied_itself nat_list_cmp_total m)

-- the later of two moments is not earlier than the first
pub later-le : (last now : List ℕ) → is_le (text_cmp last (later last now)) ≡ true
later-le last now = elim (cases_Bool (is_le (text_cmp last now))) [
  | inl le ↦ rw le le
  | inr gt ↦ rw gt (text-le-itself last)
]

-- what is published at one moment is in order after what is not later
pub in_order-at : (c : Chained) (moment : List ℕ) (changes : List PublishedChange) → c.in_order ≡ true
    → is_le (text_cmp c.moment moment) ≡ true
    → (chain_from c (at moment changes)).in_order ≡ true
in_order-at c moment [] h le = h
in_order-at c moment (x ∷ xs) h le =
    in_order-at (with_record c (record_of moment x)) moment xs
    (and_from c.in_order (is_le (text_cmp c.moment moment)) h le) (text-le-itself moment)

pub changes-at : (moment : List ℕ) (changes : List PublishedChange)
    → map (λ (x : HistoryRecord). x.change) (at moment changes) ≡ changes
changes-at moment [] = refl
changes-at moment (x ∷ xs) = ap (λ t. x ∷ t) (changes-at moment xs)

-- where nothing would be recorded, and nothing is lost, the records say just what the facts say
pub says_just : (h : History) (records : List HistoryRecord) (facts : List Fact)
    (changes : List PublishedChange)
    → IsHistory h records → SaysAfter (said_by h.said) facts changes → changes ≡ []
    → SaysJust records facts
says_just h records facts changes is says_after none s =
    let old = map (λ (x : HistoryRecord). x.change) records in
    ap (λ cs. replay nothing cs s) (sym (append-nil old) ∙ ap (λ cs. old ++ cs) (sym none))
    ∙ says_after old is.said s

-- what tells a loss tells it of what the records say
pub tells_of_records : (h : History) (records : List HistoryRecord) (facts : List Fact) (why : Unrecorded)
    → IsHistory h records → TellsLoss (said_by h.said) facts why → TellsLoss (says records) facts why
tells_of_records h records facts why is told =
    let was : said_by h.said ≡ says records = λ i s. is.said s i in
    subst (λ (f : Said). TellsLoss f facts why) was told

-- ---- Places

pub digest-at : (ds : List (List ℕ)) (k : ℕ) (x : List ℕ) → k < length ds → x ≡ get_or ds k x
    → slice_get ds k ≡ Some x
digest-at [] k x h is = absurd (omega (arith, h))
digest-at (d ∷ ds) zero x h is = ap Some (sym is)
digest-at (d ∷ ds) (suc k) x h is = digest-at ds k x (omega (arith, h)) is

pub first-none : {X : Type 0} (xs : List X) → None ≡ slice_get xs 0 → xs ≡ []
first-none [] e = refl
first-none (x ∷ xs) e = cc e

-- ---- Records that are wrong

counted-from : (c : Chained) (rs : List HistoryRecord)
    → length (chain_from c rs).digests ≡ length c.digests + length rs
counted-from c [] = omega arith
counted-from c (r ∷ rs) =
    counted-from (with_record c r) rs
    ∙ (let more : length (c.digests ++ next_digest c.digests r ∷ []) ≡ length c.digests + 1 =
    grind (arith, common_steps) in omega arith)

-- there is a digest for each record
pub counted : (records : List HistoryRecord) → length (chained records).digests ≡ length records
counted records = counted-from begun records ∙ zero-add (length records)

pub wrong_after : (h : History) (before : List HistoryRecord) → IsHistory h before
    → length h.chain.digests.items + 1 ≡ length before + 1
wrong_after h before is = ap (λ ds. length ds + 1) is.digests
    ∙ ap (λ n. n + 1) (counted-from begun before ∙ zero-add (length before))
