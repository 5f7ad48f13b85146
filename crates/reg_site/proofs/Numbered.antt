-- Records with their numbers and their digests.
use Rattle.std.proofs.Common.{◌≡◌, ℕ, ◌+◌, ◌-◌, ◌<◌, List, [], ◌∷◌, ◌++◌, drop, length, map, reverse, take, get_or, refl, sym, ap, ◌∙◌, arith, length-drop}
use Rattle.std.proofs.lemmas.List.{length-map}
use Rattle.reg_print.proofs.PrintedTokens.{one_more}
use Rattle.reg_history.specs.Chain.{chained}
use Rattle.reg_history.specs.Overview.{IsOverview}
use Rattle.reg_changes.specs.declared.change.HistoryRecord.{HistoryRecord}
use Rattle.reg_history.specs.declared.overview.Overview.{Overview}
use Rattle.reg_history.specs.declared.overview.Tied.{Tied}
use Rattle.reg_history.proofs.Histories.{counted}
use Rattle.reg_site.specs.Recent.{changed, last_records, numbered}

numbered_last : (n i : ℕ) (rs : List HistoryRecord) (ds : List (List ℕ)) (r : HistoryRecord) (d : List ℕ)
    → length rs ≡ i → length ds ≡ i
    → numbered n rs ds ++ changed (n + i) r d ∷ [] ≡ numbered n (rs ++ r ∷ []) (ds ++ d ∷ [])
numbered_last n i [] [] r d h k =
    let none : n + i ≡ n = omega (arith, h) in ap (λ m. changed m r d ∷ []) none
numbered_last n i [] (e ∷ ds) r d h k = absurd (omega (arith, h, k))
numbered_last n i (x ∷ rs) [] r d h k = absurd (omega (arith, h, k))
numbered_last n i (x ∷ rs) (e ∷ ds) r d h k =
    let j : ℕ = length rs in
    let same : n + i ≡ n + 1 + j = omega (arith, h) in
    let also : length ds ≡ j = omega (arith, h, k) in
    ap (λ m. changed n x e ∷ (numbered (n + 1) rs ds ++ changed m r d ∷ [])) same
    ∙ ap (λ t. changed n x e ∷ t) (numbered_last (n + 1) j rs ds r d refl also)

-- one record more
pub numbered_more : (n i : ℕ) (rs : List HistoryRecord) (ds : List (List ℕ)) (r : HistoryRecord) (d : List ℕ)
    → i < length rs → i < length ds → r ≡ get_or rs i r → d ≡ get_or ds i d
    → length (take i rs) ≡ i → length (take i ds) ≡ i
    → numbered n (take i rs) (take i ds) ++ changed (n + i) r d ∷ []
    ≡ numbered n (take (i + 1) rs) (take (i + 1) ds)
numbered_more n i rs ds r d h k is also first second =
    numbered_last n i (take i rs) (take i ds) r d first second
    ∙ ap (λ xs. numbered n xs (take i ds ++ d ∷ [])) (sym (one_more rs i r h is))
    ∙ ap (λ ys. numbered n (take (i + 1) rs) ys) (sym (one_more ds i d k also))

-- the recent records of a history are its last records
pub recent_numbered : (o : Overview) (records : List HistoryRecord) (before : ℕ) → IsOverview o records
    → before ≡ o.count - length o.recent.items
    → reverse (numbered (before + 1) (map (λ t. t.row) o.recent.items)
    (map (λ t. t.digest) o.recent.items))
    ≡ last_records records (chained records).digests
recent_numbered o records before is counts =
    let ds = (chained records).digests in
    let n : ℕ = length records - 200 in
    let digests : length ds ≡ length records = counted records in
    let few : length o.recent.items ≡ length records - n =
    sym (length-map o.recent.items (λ (t : Tied). t.row)) ∙ ap length is.rows
    ∙ length-drop n records in
    let here : before ≡ n = omega (arith, counts, is.counted, digests, few) in
    ap (λ m. reverse (numbered (m + 1) (map (λ (t : Tied). t.row) o.recent.items)
    (map (λ (t : Tied). t.digest) o.recent.items))) here
    ∙ ap (λ rs. reverse (numbered (n + 1) rs (map (λ (t : Tied). t.digest) o.recent.items))) is.rows
    ∙ ap (λ xs. reverse (numbered (n + 1) (drop n records) xs)) is.digests
    ∙ ap (λ m. reverse (numbered (n + 1) (drop n records) (drop (m - 200) ds))) digests
