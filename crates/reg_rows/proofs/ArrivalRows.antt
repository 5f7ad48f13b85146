-- The last of the rows about a request by which it came tells when it did.
use Rattle.std.proofs.Common.{◌≡◌, ℕ, ◌+◌, Bool, true, false, cond, List, [], ◌∷◌, ◌++◌, length, map, reverse, Option, Some, None, refl, sym, ap, ◌∙◌, arith, ◌<◌, add-one, get_or, take, subst}
use Rattle.std.specs.Prelude.{filter_map, find, option_and_then, if◌then◌else◌}
use Rattle.std.specs.FinMap.{FinMap, entries}
use Rattle.std.specs.List.{cons_option, range_with_len}
use Rattle.std.specs.Option.{option_or}
use Rattle.std.proofs.lemmas.List.{length-append, length-map, map-append, reverse-append}
use Rattle.std.proofs.lemmas.List.Folds.{find-append}
use Rattle.std.proofs.Math.Seq.{take-suc}
use Rattle.reg_maps.specs.Maps.{keyed, only_if}
use Rattle.reg_maps.proofs.MapLaws.{entries-select, number_keys}
use Rattle.reg_core.specs.Arrivals.{arrival, arrival_number}
use Rattle.reg_core.specs.Journal.{deed_about, is_about, is_name_of}
use Rattle.reg_core.specs.Times.{submits}
use Rattle.reg_core.specs.World.{RequestName}
use Rattle.reg_core.specs.declared.journal.Act.{Act}
use Rattle.reg_core.specs.declared.journal.Arrival.{Arrival}
use Rattle.reg_core.specs.declared.journal.Deed.{Deed}
use Rattle.reg_core.specs.declared.journal.Deed.TheVariants.{Submit}
use Rattle.reg_records.specs.declared.acts.NumberedAct.{NumberedAct}
use Rattle.reg_rows.specs.Arrivals.{arrival_by}
use Rattle.reg_statements.specs.Content.{AreTied, assembled}
use Rattle.reg_statements.specs.Defined.{rows_where}
use Rattle.reg_statements.specs.Office as office
use Rattle.reg_statements.specs.Parts.{Parts}

-- the first is the last of the reverse
reverse-first : {A : Type 0} (x : A) (xs : List A) → reverse (x ∷ xs) ≡ reverse xs ++ x ∷ []
reverse-first x xs = reverse-append (x ∷ []) xs

map-reverse : {A B : Type 0} (f : A → B) (xs : List A) → reverse (map f xs) ≡ map f (reverse xs)
map-reverse f [] = refl
map-reverse f (x ∷ xs) =
    reverse-first (f x) (map f xs) ∙ ap (λ ys. ys ++ f x ∷ []) (map-reverse f xs)
    ∙ sym (ap (map f) (reverse-first x xs) ∙ map-append f (reverse xs) (x ∷ []))

-- ---- Numbers from behind

-- each has the number that comes after those behind it, the last of which is n
abbrev AreDown : ℕ → List (ℕ × Act) → Type 0
AreDown n [] = Unit {0}
AreDown n (e ∷ es) = (e.0 ≡ n + length es) × AreDown n es

before_all : (n : ℕ) (first : ℕ × Act) (es : List (ℕ × Act)) → first.0 ≡ n → AreDown (n + 1) es
    → AreDown n (es ++ first ∷ [])
before_all n first [] is down = (omega (arith, is), tt)
before_all n first (e ∷ es) is down =
    let long = length-append es (first ∷ []) in
    let number = down.0 in
    (omega (arith, number, long), before_all n first es is down.1)

turned : (n : ℕ) (es : List (ℕ × Act)) → map (λ e. e.0) es ≡ range_with_len n (length es)
    → AreDown n (reverse es)
turned n [] are = tt
turned n (e ∷ es) are =
    let first : e.0 ≡ n = cc in
    let rest : map (λ (e : ℕ × Act). e.0) es ≡ range_with_len (n + 1) (length es) = cc in
    subst (AreDown n) (sym (reverse-first e es))
    (before_all n e (reverse es) first (turned (n + 1) es rest))

-- ---- The last act by which it came

module _ (name : RequestName) where
  abbrev row : ℕ × Act → NumberedAct
  row e = record { number = e.0; act = e.1 }

  abbrev by_it : NumberedAct → Bool
  by_it n = submits name n.act.deed

  -- of all acts, the latest first
  last_of_all : (es : List (ℕ × Act)) → AreDown 1 es
      → arrival_by (find by_it (map row es)) ≡ arrival (map (λ e. e.1) es) name
  last_of_all [] down = refl
  last_of_all (e ∷ es) down = by (last_of_all es down.1) (submits name e.1.deed)
    where
      acts : List Act
      acts = map (λ (e : ℕ × Act). e.1) es

      number : e.0 ≡ length acts + 1
      number =
          let long = length-map es (λ (e : ℕ × Act). e.1) in
          let is = down.0 in
          omega (arith, is, long)

      by : arrival_by (find by_it (map row es)) ≡ arrival acts name → (b : Bool)
          → arrival_by (cond b (Some (row e)) (find by_it (map row es)))
          ≡ record {
            number = if b then length acts + 1 else arrival_number acts name;
            moment =
                option_and_then (λ (act : Act). act.stamp.moment)
                (cond b (Some e.1) (find (λ (act : Act). submits name act.deed) acts));
          }
      by rest true = λ i. record { number = number i; moment = e.1.stamp.moment }
      by rest false = rest

  -- it is about the request
  not_by_others : (deed : Deed) → is_name_of name (deed_about deed) ≡ false
      → submits name deed ≡ false
  not_by_others (Submit account reference) other = other
  not_by_others deed other = refl

  abbrev those_about : List (ℕ × Act) → List (ℕ × Act)
  those_about es = filter_map (λ (e : ℕ × Act). keyed e.0 (only_if (is_about name e.1) e.1)) es

  or_none : (o : Option NumberedAct) → option_or o None ≡ o
  or_none None = refl
  or_none (Some n) = refl

  -- so it is the last of the acts about it
  last_about : (es : List (ℕ × Act))
      → find by_it (reverse (map row (those_about es))) ≡ find by_it (reverse (map row es))
  last_about [] = refl
  last_about (e ∷ es) =
      by (last_about es) (is_about name e.1) refl
      ∙ sym (find-append by_it (reverse (map row es)) (row e ∷ []))
      ∙ ap (find by_it) (sym (reverse-first (row e) (map row es)))
    where
      rest : List (ℕ × Act)
      rest = those_about es

      by : find by_it (reverse (map row rest)) ≡ find by_it (reverse (map row es)) → (b : Bool)
          → is_about name e.1 ≡ b
          → find by_it (reverse (map row (cons_option (keyed e.0 (only_if b e.1)) rest)))
          ≡ option_or (find by_it (reverse (map row es))) (find by_it (row e ∷ []))
      by same true is =
          ap (find by_it) (reverse-first (row e) (map row rest))
          ∙ find-append by_it (reverse (map row rest)) (row e ∷ [])
          ∙ ap (λ o. option_or o (find by_it (row e ∷ []))) same
      by same false is =
          same
          ∙ sym (or_none (find by_it (reverse (map row es))))
          ∙ ap (λ b. option_or (find by_it (reverse (map row es))) (cond b (Some (row e)) None))
          (sym (not_by_others e.1.deed is))

  pub arrival_of_rows : (p : Parts) → AreTied p
      → arrival_by (find by_it
      (reverse (rows_where office.journal (λ number act. is_about name act) p)))
      ≡ arrival (assembled p).journal name
  arrival_of_rows p ties =
      let es = entries p.journal in
      ap (λ es. arrival_by (find by_it (reverse (map row es))))
      (entries-select number_keys (λ number act. only_if (is_about name act) act) p.journal)
      ∙ ap arrival_by (last_about es)
      ∙ ap (λ rows. arrival_by (find by_it rows)) (map-reverse row es)
      ∙ last_of_all (reverse es) (turned 1 es ties.acts)
      ∙ ap (λ acts. arrival acts name) (sym (map-reverse (λ (e : ℕ × Act). e.1) es))

-- with one row more
pub arrival-next : (name : RequestName) (rows : List NumberedAct) (i : ℕ) (row : NumberedAct)
    → i < length rows → get_or rows i row ≡ row
    → (if submits name row.act.deed then arrival_by (Some row)
    else arrival_by (find (λ n. submits name n.act.deed) (reverse (take i rows))))
    ≡ arrival_by (find (λ n. submits name n.act.deed) (reverse (take (i + 1) rows)))
arrival-next name rows i row inside here =
    by (submits name row.act.deed)
    ∙ ap (λ rows. arrival_by (find by_it rows)) (sym longer)
  where
    by_it : NumberedAct → Bool
    by_it n = submits name n.act.deed

    before : List NumberedAct
    before = reverse (take i rows)

    longer : reverse (take (i + 1) rows) ≡ row ∷ before
    longer =
        rw add-one
        (ap reverse (take-suc rows i row inside ∙ ap (λ r. take i rows ++ r ∷ []) here)
        ∙ reverse-append (take i rows) (row ∷ []))

    by : (b : Bool) → (if b then arrival_by (Some row) else arrival_by (find by_it before))
        ≡ arrival_by (cond b (Some row) (find by_it before))
    by true = refl
    by false = refl
