-- Rows that are taken out of a table by their rowids and put in again, as lists.
use Rattle.std.proofs.Common.{length, ◌≡◌, ℤ, List, [], ◌∷◌, ◌++◌, map, filter, inl, inr}
use Rattle.std.proofs.Common.{Bool, true, false, not, ◌&&◌, ◌||◌, Ordering, Less, Equal, Greater}
use Rattle.std.proofs.Common.{refl, sym, ap, ap₂, ◌∙◌}
use Rattle.std.specs.Ordering.{ordering_reverse, match_ordering}
use Rattle.std.specs.List.{list_any}
use Rattle.std.specs.List.Sorted.{IsPermutation}
use Rattle.std.proofs.lemmas.Bool.{cases_Bool, and_parts, not-true}
use Rattle.std.proofs.lemmas.Cmp.{tied_itself}
use Rattle.std.proofs.lemmas.List.Sorted.{IsPermutation-refl, IsPermutation-sym}
use Rattle.std.proofs.lemmas.List.Sorted.{IsPermutation-trans, IsPermutation-cons}
use Rattle.std.proofs.lemmas.List.Sorted.{IsPermutation-middle}
use Rattle.std.proofs.lemmas.List.Sorted.{IsPermutation-append_right, Contains-permutation}
use Rattle.sqlite.specs.declared.types.Value.{Value}
use Rattle.sqlite.specs.Order.{Row, column, value_cmp}
use Rattle.sqlite.specs.Tree.{rowid, put_row}
use Rattle.sqlite_value.proofs.OrderLemmas.{value_cmp_total}
use Rattle.sqlite_trees.specs.Tree.{IsTable, has_rowid, without_rowid}
use Rattle.sqlite_trees.proofs.TreeLemmas.{IsTable-put_row}
use Rattle.sqlite_trees.proofs.ListLemmas.{filter_all}
use Rattle.sqlite_rules.specs.Lists.{Has}
use Rattle.sqlite_rules.specs.Edit.{without_all, put_all, is_taken, are_fresh}
use Rattle.sqlite_rules.proofs.ListLemmas.{all_has, all_from, has_contained, contains_had}
use Rattle.reg_tables.specs.Editing.{altered}

filter_twice : (p r q : Row → Bool) → ((x : Row) → r x ≡ (q x && p x)) → (xs : List Row)
    → filter p (filter q xs) ≡ filter r xs
filter_twice p r q both [] = refl
filter_twice p r q both (x ∷ xs) = elim (cases_Bool (q x)) [
  | inl kept ↦ elim (cases_Bool (p x)) [
    | inl here ↦ rw (kept, here, both x, kept, here, filter_twice p r q both xs)
    | inr gone ↦ rw (kept, gone, both x, kept, gone, filter_twice p r q both xs)
  ]
  | inr out ↦ rw (out, both x, out, filter_twice p r q both xs)
]

neither : (a b : Bool) → not (a || b) ≡ (not a && not b)
neither true b = refl
neither false b = refl

-- the rows that have none of the rowids
pub without_all_is : (ids : List ℤ) (rows : List Row)
    → without_all rows ids ≡ filter (λ r. not (list_any (λ id. has_rowid id r) ids)) rows
without_all_is [] rows = sym (filter_all _ rows (all_from _ rows (λ r h. refl)))
without_all_is (id ∷ ids) rows =
    without_all_is ids (without_rowid id rows)
    ∙ filter_twice (λ r. not (list_any (λ other. has_rowid other r) ids))
    (λ r. not (list_any (λ other. has_rowid other r) (id ∷ ids)))
    (λ r. not (has_rowid id r)) (λ r. neither (has_rowid id r) _) rows

pub has_permuted : (xs ys : List Row) (x : Row) → IsPermutation xs ys → Has xs x → Has ys x
has_permuted xs ys x same h =
    has_contained ys x (Contains-permutation xs ys x same (contains_had xs x h))

never_below_itself : (r : Row) → value_cmp (rowid r) (rowid r) ≡ Less → ⊥
never_below_itself r h = let e = tied_itself value_cmp_total (rowid r) in cc

never_both_below : (a b : Row) → value_cmp (rowid a) (rowid b) ≡ Less
    → value_cmp (rowid b) (rowid a) ≡ Less → ⊥
never_both_below a b p q =
    let e = value_cmp_total.antisymm (rowid a) (rowid b) ∙ ap ordering_reverse q in cc

-- two tables with the same rows are one
pub same_rows : (xs ys : List Row) → IsTable xs → IsTable ys
    → ((r : Row) → Has xs r → Has ys r) → ((r : Row) → Has ys r → Has xs r) → xs ≡ ys
same_rows [] [] p q a b = refl
same_rows [] (y ∷ ys) p q a b = absurd (b y (inl refl))
same_rows (x ∷ xs) [] p q a b = absurd (a x (inl refl))
same_rows (x ∷ xs) (y ∷ ys) p q a b =
    let first : x ≡ y = elim (a x (inl refl)) [
      | inl e ↦ e
      | inr later ↦ elim (b y (inl refl)) [
        | inl e ↦ sym e
        | inr also ↦
            absurd (never_both_below x y (all_has _ xs y p.0 also) (all_has _ ys x q.0 later))
      ]
    ] in
    ap₂ ◌∷◌ first (same_rows xs ys p.1 q.1
    (λ r h. elim (a r (inr h)) [
      | inl e ↦ absurd (never_below_itself x (rw (e ∙ sym first) at (all_has _ xs r p.0 h)))
      | inr k ↦ k
    ])
    (λ r h. elim (b r (inr h)) [
      | inl e ↦ absurd (never_below_itself y (rw (e ∙ first) at (all_has _ ys r q.0 h)))
      | inr k ↦ k
    ]))

-- what is put in takes its place
pub put_all_table : (news rows : List Row) → IsTable rows → IsTable (put_all rows news)
put_all_table [] rows up = up
put_all_table (n ∷ news) rows up = put_all_table news (put_row n rows) (IsTable-put_row n rows up)

-- a row with a rowid of its own comes to the others
pub permutation-put_row : (new : Row) (rows : List Row) → is_taken rows new ≡ false
    → IsPermutation (new ∷ rows) (put_row new rows)
permutation-put_row new [] free = IsPermutation-refl _
permutation-put_row new (r ∷ rows) free =
    go (value_cmp (rowid r) (rowid new)) refl free (permutation-put_row new rows)
  where
    go : (o : Ordering) → value_cmp (rowid r) (rowid new) ≡ o → is_taken (r ∷ rows) new ≡ false
        → (is_taken rows new ≡ false → IsPermutation (new ∷ rows) (put_row new rows))
        → IsPermutation (new ∷ r ∷ rows)
        (match_ordering o (r ∷ put_row new rows) (new ∷ rows) (new ∷ r ∷ rows))
    go Less is f more =
        IsPermutation-trans (new ∷ r ∷ rows) (r ∷ new ∷ rows) (r ∷ put_row new rows)
        (IsPermutation-middle (new ∷ []) r rows)
        (IsPermutation-cons r (new ∷ rows) (put_row new rows) (more (rw is at f)))
    go Equal is f more = let e : true ≡ false = rw is at f in absurd (cc)
    go Greater is f more = IsPermutation-refl _

pub permutation-put_all : (news rows : List Row) → are_fresh rows news ≡ true
    → IsPermutation (news ++ rows) (put_all rows news)
permutation-put_all [] rows fresh = IsPermutation-refl _
permutation-put_all (n ∷ news) rows fresh =
    let parts = and_parts (not (is_taken rows n)) (are_fresh (put_row n rows) news) fresh in
    let put = permutation-put_row n rows (not-true _ parts.0) in
    let later = permutation-put_all news (put_row n rows) parts.1 in
    let first = IsPermutation-sym (news ++ n ∷ rows) (n ∷ (news ++ rows))
    (IsPermutation-middle news n rows) in
    IsPermutation-trans ((n ∷ news) ++ rows) (news ++ n ∷ rows) (put_all rows (n ∷ news)) first
    (IsPermutation-trans (news ++ n ∷ rows) (news ++ put_row n rows) (put_all rows (n ∷ news))
    (IsPermutation-append_right news (n ∷ rows) (put_row n rows) put) later)

-- the rows that are replaced, and then the others
pub parted : (p : Row → Bool) (by : Row → Row) (rows : List Row) → IsPermutation
    (map (altered p by) rows) (map by (filter p rows) ++ filter (λ r. not (p r)) rows)
parted p by [] = IsPermutation-refl _
parted p by (r ∷ rows) = elim (cases_Bool (p r)) [
  | inl here ↦ rw here (IsPermutation-cons (by r) _ _ (parted p by rows))
  | inr out ↦
      let changed = map by (filter p rows) in
      let left = filter (λ x. not (p x)) rows in
      let first = IsPermutation-cons r (map (altered p by) rows) (changed ++ left)
      (parted p by rows) in
      rw out (IsPermutation-trans (r ∷ map (altered p by) rows) (r ∷ (changed ++ left))
      (changed ++ r ∷ left) first
      (IsPermutation-sym (changed ++ r ∷ left) (r ∷ (changed ++ left))
      (IsPermutation-middle changed r left)))
]

pub map_same : (f g : Row → Row) (xs : List Row) → ((x : Row) → Has xs x → f x ≡ g x)
    → map f xs ≡ map g xs
map_same f g [] same = refl
map_same f g (x ∷ xs) same = ap₂ ◌∷◌ (same x (inl refl)) (map_same f g xs (λ y h. same y (inr h)))

-- the column after some
pub column_after : (xs : Row) (v : Value) (ys : Row) → column (xs ++ v ∷ ys) (length xs) ≡ v
column_after [] v ys = refl
column_after (x ∷ xs) v ys = column_after xs v ys
