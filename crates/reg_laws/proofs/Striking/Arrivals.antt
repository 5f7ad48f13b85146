-- The order in which requests came, without acts about hidden requests: that of the others is the same.
use Rattle.std.proofs.Common.{◌≡◌, ℕ, ◌<◌, ◌+◌, Bool, true, false, cond, not, List, [], ◌∷◌, length, map, refl, sym, ap, ◌∙◌, arith}
use Rattle.std.specs.Prelude.{Option, Some, None, option_and_then, if◌then◌else◌}
use Rattle.std.specs.FinMap.{FinMap, get, entries, get-entries}
use Rattle.std.specs.List.{AllByRecursion}
use Rattle.std.specs.List.Sorted.{IsStrictlySortedBy}
use Rattle.std.specs.Map.{keys_of}
use Rattle.std.specs.Cmp.{nat_cmp_is}
use Rattle.std.specs.Ordering.{nat_cmp, ordering_then}
use Rattle.std.specs.declared.cmp.Ordering.TheVariants.{Less, Equal, Greater}
use Rattle.std.proofs.lemmas.List.Elements.{All-map, recursion_from_All}
use Rattle.reg_maps.proofs.HiddenKeys.{AgreeBut, IsBare, NoneAt, both_select, plain_rows, same_rows, same_select}
use Rattle.reg_maps.proofs.MapLaws.{All-entries, ascending-keys, entries_are, get-select}
use Rattle.reg_core.proofs.Common.{acts_without, arrival_cmp, arrival_keys, arrival_number, both_ways}
use Rattle.reg_core.proofs.Common.{by_arrival, deed_about, false_from_ne_true, find-arrived}
use Rattle.reg_core.proofs.Common.{get-by_arrival, is_hidden, name_cmp, name_keys, name_of, only_if, select}
use Rattle.reg_core.proofs.Common.{submits, waiting, waiting_file, waiting_list, RequestName, World}
use Rattle.reg_core.proofs.Files.{same_name-is}
use Rattle.reg_core.specs.File.{same_name}
use Rattle.reg_core.specs.Striking.{HasNoneUnseen, files_without}
use Rattle.reg_core.specs.declared.case_file.WaitingFile.{WaitingFile}
use Rattle.reg_core.specs.declared.journal.Deed.TheVariants as did
use Rattle.reg_laws.proofs.Types.{Act, Case, Deed}

-- ---- Numbers

-- no number is greater than that of the last act
number_within : (acts : List Act) (name : RequestName)
    → arrival_number acts name < length acts + 1
number_within [] name = omega arith
number_within (act ∷ acts) name = by (number_within acts name) (submits name act.deed)
  where
    by : arrival_number acts name < length acts + 1 → (b : Bool)
        → (if b then length acts + 1 else arrival_number acts name) < length (act ∷ acts) + 1
    by less true = omega arith
    by less false = omega (arith, less)

-- one act more turns no order of two numbers
one_more : (p q : Bool) (n m len n' m' len' : ℕ) → n < len + 1 → m < len + 1
    → n' < len' + 1 → m' < len' + 1 → nat_cmp n m ≡ nat_cmp n' m'
    → nat_cmp (if p then len + 1 else n) (if q then len + 1 else m)
    ≡ nat_cmp (if p then len' + 1 else n') (if q then len' + 1 else m')
one_more true true n m len n' m' len' a b c d same =
    sym (nat_cmp_is (len + 1) (len + 1) Equal refl) ∙ nat_cmp_is (len' + 1) (len' + 1) Equal refl
one_more true false n m len n' m' len' a b c d same =
    sym (nat_cmp_is (len + 1) m Greater b) ∙ nat_cmp_is (len' + 1) m' Greater d
one_more false true n m len n' m' len' a b c d same =
    sym (nat_cmp_is n (len + 1) Less a) ∙ nat_cmp_is n' (len' + 1) Less c
one_more false false n m len n' m' len' a b c d same = same

module _ (hidden : RequestName → Bool) where
  -- by an act about a hidden request no other one came
  not_submitted : (name : RequestName) → hidden name ≡ false → (deed : Deed)
      → is_hidden hidden (deed_about deed) ≡ true → submits name deed ≡ false
  not_submitted name shown (did.Submit account reference) h =
      let other : RequestName = (account, reference) in
      false_from_ne_true (same_name other name) (λ t.
      both_ways (hidden name) shown (ap hidden (sym (same_name-is other name t)) ∙ h))
  not_submitted name shown deed h = refl

  -- the order of two others is the same without such acts
  module _ (a b : RequestName) (a_shown : hidden a ≡ false) (b_shown : hidden b ≡ false) where
    without : (acts : List Act)
        → nat_cmp (arrival_number acts a) (arrival_number acts b)
        ≡ nat_cmp (arrival_number (acts_without hidden acts) a)
        (arrival_number (acts_without hidden acts) b)
    without [] = refl
    without (act ∷ acts) = by (without acts) (is_hidden hidden (deed_about act.deed)) refl
      where
        left : List Act
        left = acts_without hidden acts

        by : nat_cmp (arrival_number acts a) (arrival_number acts b)
            ≡ nat_cmp (arrival_number left a) (arrival_number left b)
            → (is : Bool) → is_hidden hidden (deed_about act.deed) ≡ is
            → nat_cmp (arrival_number (act ∷ acts) a) (arrival_number (act ∷ acts) b)
            ≡ nat_cmp (arrival_number (cond (not is) (act ∷ left) left) a)
            (arrival_number (cond (not is) (act ∷ left) left) b)
        by same true h =
            let a_stays = not_submitted a a_shown act.deed h in
            let b_stays = not_submitted b b_shown act.deed h in
            (λ i. nat_cmp (if a_stays i then length acts + 1 else arrival_number acts a)
            (if b_stays i then length acts + 1 else arrival_number acts b))
            ∙ same
        by same false h =
            one_more (submits a act.deed) (submits b act.deed)
            (arrival_number acts a) (arrival_number acts b) (length acts)
            (arrival_number left a) (arrival_number left b) (length left)
            (number_within acts a) (number_within acts b)
            (number_within left a) (number_within left b) same

    pub same_order : (j k : List Act) → acts_without hidden j ≡ acts_without hidden k
        → arrival_cmp j a b ≡ arrival_cmp k a b
    same_order j k same =
        ap (λ order. ordering_then order (name_cmp a b))
        (without j ∙ ap (λ acts. nat_cmp (arrival_number acts a) (arrival_number acts b)) same
        ∙ sym (without k))

  -- ---- The order of requests that are not hidden

  module _ (j k : List Act) (same : acts_without hidden j ≡ acts_without hidden k) where
    abbrev AreShown : List RequestName → Type 0
    AreShown names = AllByRecursion (λ name. hidden name ≡ false) names

    still_below : (name : RequestName) → hidden name ≡ false → (names : List RequestName)
        → AreShown names → AllByRecursion (λ other. arrival_cmp k name other ≡ Less) names
        → AllByRecursion (λ other. arrival_cmp j name other ≡ Less) names
    still_below name shown [] all less = tt
    still_below name shown (other ∷ names) all less = (
      same_order name other shown all.0 j k same ∙ less.0,
      still_below name shown names all.1 less.1,
    )

    still_ascending : (names : List RequestName) → AreShown names
        → IsStrictlySortedBy (arrival_cmp k) names → IsStrictlySortedBy (arrival_cmp j) names
    unfolding IsStrictlySortedBy
    still_ascending [] all up = tt
    still_ascending (name ∷ names) all up =
        (still_below name all.0 names all.1 up.0, still_ascending names all.1 up.1)

    all_shown : {X : Type 0} (m : FinMap name_cmp X) → IsBare hidden m
        → AreShown (keys_of (entries (by_arrival k m)))
    all_shown m bare =
        let es = entries (by_arrival k m) in
        recursion_from_All (λ name. hidden name ≡ false) (keys_of es)
        (All-map (λ name. hidden name ≡ false) (λ e. e.0) es
        (All-entries (arrival_keys k).total (λ e. hidden e.0 ≡ false) (by_arrival k m)
        (λ name x found. false_from_ne_true (hidden name) (λ h.
        let there = sym (get-by_arrival k m name) ∙ found in
        let none = bare name h in
        absurd (cc)))))

    pub same_arrivals : {X : Type 0} (m : FinMap name_cmp X) → IsBare hidden m
        → entries (by_arrival j m) ≡ entries (by_arrival k m)
    same_arrivals m bare =
        let es = entries (by_arrival k m) in
        entries_are (arrival_keys j) (by_arrival j m) es
        (still_ascending (keys_of es) (all_shown m bare) (ascending-keys (by_arrival k m)))
        (λ name.
        get-by_arrival j m name ∙ sym (get-by_arrival k m name)
        ∙ get-entries (by_arrival k m) name
        ∙ find-arrived k name es ∙ sym (find-arrived j name es))

  -- ---- Requests that wait

  abbrev if_shown : RequestName → Case → Option Case
  if_shown name case = only_if (not (hidden name)) case

  -- those that are not hidden
  abbrev shown : FinMap name_cmp Case → FinMap name_cmp Case
  shown m = select if_shown m

  shown_none : NoneAt hidden if_shown
  shown_none name h case = ap (λ b. only_if (not b) case) h

  shown_bare : (m : FinMap name_cmp Case) → IsBare hidden (shown m)
  shown_bare m name h =
      get-select name_keys if_shown m name
      ∙ ap (λ b. option_and_then (λ case. only_if (not b) case) (get m name)) h
      ∙ none (get m name)
    where
      none : (o : Option Case) → option_and_then (λ case. only_if false case) o ≡ None
      none None = refl
      none (Some case) = refl

  get-shown : (m : FinMap name_cmp Case) (name : RequestName) → hidden name ≡ false
      → get (shown m) name ≡ get m name
  get-shown m name h =
      get-select name_keys if_shown m name
      ∙ ap (λ b. option_and_then (λ case. only_if (not b) case) (get m name)) h
      ∙ all (get m name)
    where
      all : (o : Option Case) → option_and_then (λ case. only_if true case) o ≡ o
      all None = refl
      all (Some case) = refl

  -- the files of the others, without asking which are hidden
  stripped : (x : World) → files_without hidden (waiting_list x)
      ≡ files_without hidden (map (λ e. waiting_file x e.0 e.1)
      (entries (by_arrival x.journal (shown (waiting x)))))
  stripped x =
      same_rows (arrival_keys x.journal) hidden (λ file. not (hidden (name_of file.file)))
      (waiting_file x) (by_arrival x.journal (waiting x))
      (by_arrival x.journal (shown (waiting x))) (λ name h case. ap not h)
      (λ name h.
      get-by_arrival x.journal (waiting x) name
      ∙ sym (get-by_arrival x.journal (shown (waiting x)) name ∙ get-shown (waiting x) name h))

  module _ (w v : World) (requests : AgreeBut hidden w.requests v.requests)
      (acts : acts_without hidden w.journal ≡ acts_without hidden v.journal)
      (files : (name : RequestName) (case : Case) → hidden name ≡ false
      → waiting_file w name case ≡ waiting_file v name case) where
    same_shown : shown (waiting w) ≡ shown (waiting v)
    same_shown =
        same_select name_keys hidden if_shown if_shown (waiting w) (waiting v)
        (λ name h case. refl)
        (both_select name_keys hidden _ _ w.requests v.requests (λ name h case. refl) requests)
        shown_none shown_none

    -- the files of the same requests
    same_files : (es : List (RequestName × Case))
        → files_without hidden (map (λ e. waiting_file w e.0 e.1) es)
        ≡ files_without hidden (map (λ e. waiting_file v e.0 e.1) es)
    same_files [] = refl
    same_files (e ∷ es) = by (same_files es) (hidden e.0) refl
      where
        in_w : List WaitingFile
        in_w = files_without hidden (map (λ e. waiting_file w e.0 e.1) es)

        in_v : List WaitingFile
        in_v = files_without hidden (map (λ e. waiting_file v e.0 e.1) es)

        by : in_w ≡ in_v → (b : Bool) → hidden e.0 ≡ b
            → cond (not b) (waiting_file w e.0 e.1 ∷ in_w) in_w
            ≡ cond (not b) (waiting_file v e.0 e.1 ∷ in_v) in_v
        by rest true h = rest
        by rest false h = λ i. files e.0 e.1 h i ∷ rest i

    pub same_waiting : files_without hidden (waiting_list w) ≡ files_without hidden (waiting_list v)
    same_waiting =
        stripped w
        ∙ ap (λ es. files_without hidden (map (λ e. waiting_file w e.0 e.1) es))
        (ap (λ m. entries (by_arrival w.journal m)) same_shown
        ∙ same_arrivals w.journal v.journal acts (shown (waiting v)) (shown_bare (waiting v)))
        ∙ same_files (entries (by_arrival v.journal (shown (waiting v))))
        ∙ sym (stripped v)

  -- where there is no hidden request, none is among them
  pub waiting_plain : (v : World) → HasNoneUnseen hidden v
      → files_without hidden (waiting_list v) ≡ waiting_list v
  waiting_plain v none =
      plain_rows (arrival_keys v.journal) hidden (λ file. not (hidden (name_of file.file)))
      (waiting_file v) (λ name case. refl) (by_arrival v.journal (waiting v))
      (λ name h.
      get-by_arrival v.journal (waiting v) name
      ∙ get-select name_keys _ v.requests name ∙ ap (option_and_then _) (none name h))
