-- Rows that are known by their rowids, where some are found and taken out or replaced.
use Rattle.std.proofs.Common.{◌≡◌, ◌⊎◌, inl, inr, List, map, filter, ◌++◌, Bool, true, not}
use Rattle.std.proofs.Common.{Ordering, Less, Equal, refl, sym, ap, subst, ◌∙◌}
use Rattle.std.specs.Ordering.{is_eq}
use Rattle.std.specs.List.{list_any}
use Rattle.std.specs.List.Sorted.{IsPermutation}
use Rattle.std.proofs.lemmas.Bool.{cases_Bool, both_ways, cond_both, not-true, false_from_ne_true}
use Rattle.std.proofs.lemmas.Cmp.{tied_itself}
use Rattle.std.proofs.lemmas.List.Sorted.{IsPermutation-sym, IsPermutation-trans, IsPermutation-map}
use Rattle.std.proofs.lemmas.List.Sorted.{IsPermutation-append_left}
use Rattle.sqlite.specs.Order.{Row, value_cmp}
use Rattle.sqlite.specs.Tree.{rowid}
use Rattle.sqlite_value.proofs.OrderLemmas.{value_cmp_total}
use Rattle.sqlite_trees.specs.Tree.{IsTable, has_rowid}
use Rattle.sqlite_trees.specs.View.{is_int}
use Rattle.sqlite_trees.proofs.ListLemmas.{map-map, filter_same, ascending-filter, ascending-map}
use Rattle.sqlite_trees.proofs.ListLemmas.{ascending_weaker}
use Rattle.sqlite_rules.specs.Lists.{Has}
use Rattle.sqlite_rules.specs.Calls.{ids_of}
use Rattle.sqlite_rules.specs.Edit.{id_in, without_all, put_all, are_fresh}
use Rattle.sqlite_rules.proofs.ListLemmas.{all_from, some_has, some_from, has_filtered, has_kept}
use Rattle.sqlite_rules.proofs.ProbeLemmas.{has_mapped, mapped_has}
use Rattle.sqlite_rules.proofs.TableLemmas.{int_is, put_all_has, put_all_keeps, put_all_adds}
use Rattle.reg_tables.specs.Editing.{AreKeyed, altered}
use Rattle.reg_tables.proofs.Library.RowLists.{without_all_is, has_permuted, same_rows}
use Rattle.reg_tables.proofs.Library.RowLists.{put_all_table, permutation-put_all, parted, map_same}

equal_is : (o : Ordering) → is_eq o ≡ true → o ≡ Equal
equal_is Equal h = refl
equal_is _ h = absurd (cc)

pub keyed_permuted : (xs ys : List Row) → IsPermutation xs ys → AreKeyed xs → AreKeyed ys
keyed_permuted xs ys same keyed =
    let back = λ (r : Row) (h : Has ys r). has_permuted ys xs r (IsPermutation-sym xs ys same) h in
    record {
      whole = λ r h. keyed.whole r (back r h);
      one = λ r q h k. keyed.one r q (back r h) (back q k);
    }

pub keyed-filter : (p : Row → Bool) (rows : List Row) → AreKeyed rows → AreKeyed (filter p rows)
keyed-filter p rows keyed =
    let was = λ (r : Row) (h : Has (filter p rows) r). (has_filtered p rows r h).0 in
    record {
      whole = λ r h. keyed.whole r (was r h);
      one = λ r q h k. keyed.one r q (was r h) (was q k);
    }

module _ (f : Row → Row) (same : (r : Row) → rowid (f r) ≡ rowid r) (rows : List Row) where
  -- rows that keep their rowids
  pub keyed-map : AreKeyed rows → AreKeyed (map f rows)
  keyed-map keyed = record {
    whole = λ x h.
        let r = has_mapped f rows x h in
        ap is_int (ap rowid r.2 ∙ same r.0) ∙ keyed.whole r.0 r.1;
    one = λ x y h k tie.
        let r = has_mapped f rows x h in
        let q = has_mapped f rows y k in
        let tied : value_cmp (rowid r.0) (rowid q.0) ≡ Equal =
        rw (r.2, q.2, same r.0, same q.0) at tie in
        r.2 ∙ ap f (keyed.one r.0 q.0 r.1 q.1 tied) ∙ sym q.2;
  }

  table-map : IsTable rows → IsTable (map f rows)
  table-map up = ascending-map _ f rows (ascending_weaker _
      (λ a b. value_cmp (rowid (f a)) (rowid (f b)) ≡ Less)
      (λ a b less. rw (same a, same b) less) rows up)

-- the row has its own rowid, and no other row of its table has
own_rowid : (r : Row) → is_int (rowid r) ≡ true → has_rowid (id_in (rowid r)) r ≡ true
own_rowid r whole =
    ap (λ v. is_eq (value_cmp (rowid r) v)) (sym (int_is (rowid r) whole))
    ∙ ap is_eq (tied_itself value_cmp_total (rowid r))

module _ (rows : List Row) (keyed : AreKeyed rows) where
  only_row : (r q : Row) → Has rows r → Has rows q → has_rowid (id_in (rowid q)) r ≡ true → r ≡ q
  only_row r q h k has =
      let whole = int_is (rowid q) (keyed.whole q k) in
      keyed.one r q h k (equal_is _ (ap (λ v. is_eq (value_cmp (rowid r) v)) whole ∙ has))

  module _ (p : Row → Bool) (f : Row → Row) (same : (r : Row) → rowid (f r) ≡ rowid r)
      (found : List Row) (are : IsPermutation (map f (filter p rows)) found) where
    has_found_row : (r : Row) → Has rows r → p r ≡ true → Has found (f r)
    has_found_row r h passed =
        has_permuted _ found (f r) are (mapped_has f (filter p rows) r (has_kept p rows r h passed))

    found_from : (s : Row) → Has found s → (r : Row) × Has rows r × (p r ≡ true) × (s ≡ f r)
    found_from s h =
        let back = IsPermutation-sym (map f (filter p rows)) found are in
        let r = has_mapped f (filter p rows) s (has_permuted found _ s back h) in
        let was = has_filtered p rows r.0 r.1 in
        (r.0, was.0, was.1, r.2)

    has_its_rowid : (r : Row) → Has rows r
        → list_any (λ id. has_rowid id r) (ids_of found) ≡ p r
    has_its_rowid r h = elim (cases_Bool (p r)) [
      | inl passed ↦
          let there = mapped_has (λ s. id_in (rowid s)) found (f r) (has_found_row r h passed) in
          let own = own_rowid r (keyed.whole r h) in
          some_from _ (ids_of found) _ there (rw same own) ∙ sym passed
      | inr out ↦ false_from_ne_true _ (λ taken.
          let id = some_has _ (ids_of found) taken in
          let s = has_mapped (λ s. id_in (rowid s)) found id.0 id.1 in
          let q = found_from s.0 s.1 in
          let at : id.0 ≡ id_in (rowid q.0) =
          s.2 ∙ ap (λ t. id_in (rowid t)) q.3 ∙ ap id_in (same q.0) in
          let one = only_row r q.0 h q.1 (rw at at id.2) in
          both_ways (p r) out (ap p one ∙ q.2)) ∙ sym out
    ]

    -- the rows that do not pass are left
    pub left_is : without_all rows (ids_of found) ≡ filter (λ r. not (p r)) rows
    left_is =
        without_all_is (ids_of found) rows
        ∙ filter_same _ (λ r. not (p r)) rows (all_from _ rows (λ r h. ap not (has_its_rowid r h)))

    module _ (news : List Row) (h : Row → Row) (by : Row → Row)
        (keeps : (r : Row) → rowid (by r) ≡ rowid r)
        (made : (r : Row) → Has rows r → p r ≡ true → h (f r) ≡ by r)
        (are_news : news ≡ map h found)
        (fresh : are_fresh (filter (λ r. not (p r)) rows) news ≡ true) where
      abbrev left : List Row
      left = filter (λ r. not (p r)) rows

      abbrev alter : Row → Row
      alter = altered p by

      alter_keeps : (r : Row) → rowid (alter r) ≡ rowid r
      alter_keeps r = cond_both (p r) (by r) r (λ x. rowid x ≡ rowid r) (λ e. keeps r) (λ e. refl)

      -- the rows, with those that pass replaced
      pub put_moves : IsPermutation (map alter rows)
          (put_all (without_all rows (ids_of found)) news)
      put_moves =
          let changed = filter p rows in
          let are_made = map-map h f changed ∙ map_same (λ r. h (f r)) by changed (λ r there.
          let was = has_filtered p rows r there in made r was.0 was.1) in
          let moved = subst (λ l. IsPermutation l (map h found)) are_made
          (IsPermutation-map h (map f changed) found are) in
          let whole = IsPermutation-trans (map alter rows) (map by changed ++ left)
          (map h found ++ left) (parted p by rows)
          (IsPermutation-append_left left (map by changed) (map h found) moved) in
          let put = subst (λ l. IsPermutation (l ++ left) (put_all left news)) are_news
          (permutation-put_all news left fresh) in
          subst (λ l. IsPermutation (map alter rows) (put_all l news)) (sym left_is)
          (IsPermutation-trans (map alter rows) (map h found ++ left) (put_all left news) whole put)

      is_altered : (x : Row) → Has news x ⊎ Has left x → Has (map alter rows) x
      is_altered x (inl new) =
          let s = has_mapped h found x (subst (λ l. Has l x) are_news new) in
          let r = found_from s.0 s.1 in
          let x_is : x ≡ by r.0 = s.2 ∙ ap h r.3 ∙ made r.0 r.1 r.2 in
          let there = mapped_has alter rows r.0 r.1 in
          subst (Has (map alter rows)) (rw r.2 (sym x_is)) there
      is_altered x (inr was) =
          let r = has_filtered _ rows x was in
          let out = not-true (p x) r.1 in
          subst (Has (map alter rows)) (rw out refl) (mapped_has alter rows x r.0)

      is_put : (x : Row) → Has (map alter rows) x → Has (put_all left news) x
      is_put x there =
          let r = has_mapped alter rows x there in
          elim (cases_Bool (p r.0)) [
            | inl passed ↦
                let new = mapped_has h found (f r.0) (has_found_row r.0 r.1 passed) in
                let x_is : h (f r.0) ≡ x = made r.0 r.1 passed ∙ rw passed at (sym r.2) in
                put_all_adds news left x fresh (subst (λ l. Has l x) (sym are_news)
                (subst (Has (map h found)) x_is new))
            | inr out ↦
                let x_is : r.0 ≡ x = rw out at (sym r.2) in
                put_all_keeps news left x fresh (subst (Has left) x_is
                (has_kept _ rows r.0 r.1 (ap not out)))
          ]

      -- in the order of their rowids, they stand where they stood
      pub put_is : IsTable rows → put_all (without_all rows (ids_of found)) news ≡ map alter rows
      put_is up =
          let over = put_all_table news left (ascending-filter _ (λ r. not (p r)) rows up) in
          ap (λ l. put_all l news) left_is
          ∙ same_rows (put_all left news) (map alter rows) over
          (table-map alter alter_keeps rows up)
          (λ x there. is_altered x (put_all_has news left x there)) is_put
