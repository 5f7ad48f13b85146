-- Rows of acts in the order of their numbers are acts, the oldest first.
use Rattle.std.proofs.Common.{◌≡◌, Bool, true, false, cond, ℕ, List, [], ◌∷◌, ◌++◌, map, filter, Option, refl, sym, ap, ◌∙◌, append-nil, append_assoc}
use Rattle.std.specs.Prelude.{filter_map, reverse, if◌then◌else◌}
use Rattle.std.specs.FinMap.{FinMap, entries}
use Rattle.std.specs.List.{cons_option}
use Rattle.std.proofs.lemmas.List.{reverse-append}
use Rattle.std.specs.Ordering.{nat_cmp}
use Rattle.reg_maps.specs.Maps.{keyed, only_if, select}
use Rattle.reg_maps.proofs.MapLaws.{entries-select, number_keys}
use Rattle.reg_core.specs.Journal.{acts_in_order, acts_where}
use Rattle.reg_core.specs.declared.journal.Act.{Act}
use Rattle.reg_records.specs.declared.acts.NumberedAct.{NumberedAct}
use Rattle.reg_statements.specs.Content.{assembled}
use Rattle.reg_statements.specs.Defined.{rows_where}
use Rattle.reg_statements.specs.Office as office
use Rattle.reg_statements.specs.Parts.{Parts}

module _ (test : Act → Bool) where
  abbrev one : Act → List Act
  one act = if test act then act ∷ [] else []

  in_order-append : (xs ys : List Act)
      → acts_in_order test (xs ++ ys) ≡ acts_in_order test ys ++ acts_in_order test xs
  in_order-append [] ys = sym (append-nil (acts_in_order test ys))
  in_order-append (x ∷ xs) ys =
      ap (λ acts. acts ++ one x) (in_order-append xs ys)
      ∙ append_assoc (acts_in_order test ys) (acts_in_order test xs) (one x)

  one_more : (x : Act) (xs : List Act) → one x ++ filter test xs ≡ filter test (x ∷ xs)
  one_more x xs = by (test x)
    where
      by : (b : Bool) → (if b then x ∷ [] else []) ++ filter test xs
          ≡ cond b (x ∷ filter test xs) (filter test xs)
      by true = refl
      by false = refl

  -- of a journal that is read from behind
  in_order-reverse : (xs : List Act) → acts_in_order test (reverse xs) ≡ filter test xs
  in_order-reverse [] = refl
  in_order-reverse (x ∷ xs) =
      ap (acts_in_order test) (reverse-append (x ∷ []) xs)
      ∙ in_order-append (reverse xs) (x ∷ [])
      ∙ ap (λ acts. one x ++ acts) (in_order-reverse xs) ∙ one_more x xs

  -- the acts of the rows that pass
  passing : (es : List (ℕ × Act))
      → map (λ (n : NumberedAct). n.act) (map (λ e. office.journal.item e.0 e.1)
      (filter_map (λ (e : ℕ × Act). keyed e.0 (only_if (test e.1) e.1)) es))
      ≡ filter test (map (λ (e : ℕ × Act). e.1) es)
  passing [] = refl
  passing (e ∷ es) = by (passing es) (test e.1)
    where
      rest : List (ℕ × Act)
      rest = filter_map (λ (e : ℕ × Act). keyed e.0 (only_if (test e.1) e.1)) es

      shown : List (ℕ × Act) → List Act
      shown es = map (λ (n : NumberedAct). n.act) (map (λ e. office.journal.item e.0 e.1) es)

      by : shown rest ≡ filter test (map (λ (e : ℕ × Act). e.1) es) → (b : Bool)
          → shown (cons_option (keyed e.0 (only_if b e.1)) rest)
          ≡ cond b (e.1 ∷ filter test (map (λ (e : ℕ × Act). e.1) es))
          (filter test (map (λ (e : ℕ × Act). e.1) es))
      by more true = ap (λ acts. e.1 ∷ acts) more
      by more false = more

  pub acts_of_rows : (p : Parts)
      → map (λ (n : NumberedAct). n.act) (rows_where office.journal (λ number act. test act) p)
      ≡ acts_where test (assembled p)
  acts_of_rows p =
      ap (λ es. map (λ (n : NumberedAct). n.act) (map (λ e. office.journal.item e.0 e.1) es))
      (entries-select number_keys (λ number act. only_if (test act) act) p.journal)
      ∙ passing (entries p.journal)
      ∙ sym (in_order-reverse (map (λ (e : ℕ × Act). e.1) (entries p.journal)))
