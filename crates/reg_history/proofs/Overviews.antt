-- What is shown of a history that grows.
use Rattle.std.proofs.Common.{◌≡◌, ℕ, ◌+◌, ◌-◌, ◌≤◌, Bool, true, false, List, [], ◌∷◌, ◌++◌, length, map, drop, refl, sym, ap, ◌∙◌, cond, if◌then◌else◌, length-append, length-drop, arith}
use Rattle.std.specs.Prelude.{Option, Some, slice_get, unwrap_or}
use Rattle.std.specs.BTreeMap.{BTreeMap, get}
use Rattle.std.specs.Ordering.{is_eq}
use Rattle.std.proofs.lemmas.List.{drop-append-le, drop-drop, drop-map, length-map}
use Rattle.std.proofs.lemmas.Map.Text.{is_eq-slice_cmp}
use Rattle.reg_maps.specs.Maps.{text_cmp}
use Rattle.reg_history.specs.Chain.{Chained, begun, chained, digest, line, next_digest, record_of}
use Rattle.reg_history.specs.Overview.{AddsToOverview, IsOverview, Notes, last_of, moment_by, tied}
use Rattle.reg_changes.specs.Recorded.{last_changed, registry_of}
use Rattle.reg_history.specs.declared.chain.RecordLine.{RecordLine}
use Rattle.reg_changes.specs.declared.change.PublishedChange.{PublishedChange}
use Rattle.reg_changes.specs.declared.change.HistoryRecord.{HistoryRecord}
use Rattle.reg_history.specs.declared.overview.Overview.{Overview}
use Rattle.reg_history.specs.declared.overview.Tied.{Tied}
use Rattle.reg_history.proofs.Changed.{changed_last}
use Rattle.reg_history.proofs.Histories.{chain_from-append, map-append}

-- ---- Digests

first-more : (ds : List (List ℕ)) (d : List ℕ)
    → slice_get (ds ++ d ∷ []) 0 ≡ Some (unwrap_or (slice_get ds 0) d)
first-more [] d = refl
first-more (x ∷ ds) d = refl

at-end : (ds : List (List ℕ)) (d : List ℕ) → slice_get (ds ++ d ∷ []) (length ds) ≡ Some d
at-end [] d = refl
at-end (x ∷ ds) d = at-end ds d

longer : {X : Type 0} (xs : List X) (x : X) → length (xs ++ x ∷ []) ≡ length xs + 1
longer xs x = length-append xs (x ∷ [])

last-more : (ds : List (List ℕ)) (d : List ℕ)
    → slice_get (ds ++ d ∷ []) (length (ds ++ d ∷ []) - 1) ≡ Some d
last-more ds d =
    let place : length (ds ++ d ∷ []) - 1 ≡ length ds = omega (arith, longer ds d) in
    ap (slice_get (ds ++ d ∷ [])) place ∙ at-end ds d

-- ---- The last of a list

-- so many they are at most
pub few : {X Y : Type 0} (f : X → Y) (xs : List X) (ys : List Y) → map f xs ≡ last_of ys
    → length xs ≤ 200
few f xs ys h =
    let counted : length xs ≡ length ys - (length ys - 200) =
    sym (length-map xs f) ∙ ap length h ∙ length-drop (length ys - 200) ys in
    omega (arith, counted)

-- one more, and they are the last again
pub last_of-more : {X Y : Type 0} (f : X → Y) (xs : List X) (x : X) (ys : List Y)
    → map f xs ≡ last_of ys → map f (last_of (xs ++ x ∷ [])) ≡ last_of (ys ++ f x ∷ [])
last_of-more f xs x ys h =
    let m : ℕ = length ys - 200 in
    let k : ℕ = length (xs ++ x ∷ []) - 200 in
    let counted : length xs ≡ length ys - m =
    sym (length-map xs f) ∙ ap length h ∙ length-drop m ys in
    let within : m ≤ length ys = omega arith in
    let all : m + k ≡ length (ys ++ f x ∷ []) - 200 =
    omega (arith, longer xs x, longer ys (f x), counted) in
    sym (drop-map f k (xs ++ x ∷ []))
    ∙ ap (drop k) (map-append f xs (x ∷ []) ∙ ap (λ t. t ++ f x ∷ []) h
    ∙ sym (drop-append-le m ys (f x ∷ []) within))
    ∙ drop-drop k m (ys ++ f x ∷ [])
    ∙ ap (λ n. drop n (ys ++ f x ∷ [])) all

-- ---- The moment of the last change

either : (b : Bool) (v w : Option (List ℕ)) (x y : List ℕ) → unwrap_or v [] ≡ x → unwrap_or w [] ≡ y
    → unwrap_or (cond b v w) [] ≡ (if b then x else y)
either true v w x y e f = e
either false v w x y e f = f

pub changed-more : (m m' : BTreeMap (List ℕ) (List ℕ)) (records : List HistoryRecord) (moment : List ℕ)
    (change : PublishedChange) → ((name : List ℕ) → moment_by m name ≡ last_changed records name)
    → Notes m m' moment change → (name : List ℕ)
    → moment_by m' name ≡ last_changed (records ++ record_of moment change ∷ []) name
changed-more m m' records moment change was noted name =
    ap (λ (o : Option (List ℕ)). unwrap_or o []) (noted.0 name)
    ∙ either (is_eq (text_cmp (registry_of change) name)) (Some moment) (get text_cmp m name) moment
    (last_changed records name) refl (was name)
    ∙ ap (λ b. if b then moment else last_changed records name)
    (is_eq-slice_cmp (registry_of change) name)
    ∙ changed_last name [] records (record_of moment change)

-- ---- One record more

pub overview_more : (o o' : Overview) (records : List HistoryRecord) (moment : List ℕ)
    (change : PublishedChange) (l : RecordLine) (number : ℕ) (before : List ℕ)
    → IsOverview o records → number ≡ o.count + 1
    → before ≡ unwrap_or o.last [] → l.bytes.items ≡ line before number (record_of moment change)
    → l.digest ≡ digest before number (record_of moment change) → o'.count ≡ number
    → o'.first ≡ Some (unwrap_or o.first l.digest) → o'.last ≡ Some l.digest
    → (length o.recent.items ≤ 200
    → o'.recent.items ≡ last_of (o.recent.items ++ tied moment change l.digest ∷ []))
    → Notes o.changed o'.changed moment change → AddsToOverview o' records (record_of moment change) l
overview_more o o' records moment change l number before is counts last line_is digest_is count' first'
    last' recent' noted =
    let r : HistoryRecord = record_of moment change in
    let ds : List (List ℕ) = (chained records).digests in
    let next : number ≡ length ds + 1 = counts ∙ ap (λ n. n + 1) is.counted in
    let tie = last ∙ ap (λ (o : Option (List ℕ)). unwrap_or o []) is.last in
    let made : l.digest ≡ next_digest ds r = digest_is ∙ (λ i. digest (tie i) (next i) r) in
    let grown : (chained (records ++ r ∷ [])).digests ≡ ds ++ l.digest ∷ [] =
    ap (λ (k : Chained). k.digests) (chain_from-append begun records (r ∷ []))
    ∙ ap (λ d. ds ++ d ∷ []) (sym made) in
    let few_rows = few (λ (t : Tied). t.row) o.recent.items records is.rows in
    record {
      grown = record {
        counted =
            count' ∙ next ∙ sym (longer ds l.digest) ∙ ap length (sym grown);
        first =
            first' ∙ ap (λ (o : Option (List ℕ)). Some (unwrap_or o l.digest)) is.first
            ∙ sym (first-more ds l.digest) ∙ ap (λ xs. slice_get xs 0) (sym grown);
        last =
            last' ∙ sym (last-more ds l.digest)
            ∙ ap (λ xs. slice_get xs (length xs - 1)) (sym grown);
        rows =
            ap (map (λ (t : Tied). t.row)) (recent' few_rows)
            ∙ last_of-more (λ (t : Tied). t.row) o.recent.items (tied moment change l.digest) records
            is.rows;
        digests =
            ap (map (λ (t : Tied). t.digest)) (recent' few_rows)
            ∙ last_of-more (λ (t : Tied). t.digest) o.recent.items (tied moment change l.digest) ds
            is.digests
            ∙ ap last_of (sym grown);
        changed = changed-more o.changed o'.changed records moment change is.changed noted;
      };
      line = line_is ∙ (λ i. line (tie i) (next i) r);
      digest = made;
    }
