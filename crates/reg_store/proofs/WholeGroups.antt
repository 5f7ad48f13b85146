-- The rows of all groups by two names, read one group after the other.
use Rattle.std.proofs.Common.{◌≡◌, ◌++◌, ℕ, List, [], ◌∷◌, map, ap, sym, subst, ◌∙◌}
use Rattle.std.specs.Prelude.{All}
use Rattle.std.specs.BTreeMap.{BTreeMap, IsOrdered}
use Rattle.std.specs.Borrow.{Bor}
use Rattle.std.specs.FinMap.{entries}
use Rattle.std.specs.Map.Iter.{deref_pair}
use Rattle.std.proofs.lemmas.List.{map-append}
use Rattle.std.proofs.lemmas.List.Elements.{All-push}
use Rattle.reg_maps.specs.Maps.{text_cmp}
use Rattle.reg_maps.specs.Groups.{group_rows, pair_map, rows_in}
use Rattle.reg_maps.proofs.FiniteMaps.InOrder.{entries-pair_map, map-group_rows, rows_in-push}
use Rattle.reg_maps.proofs.MapLaws.{text_keys}

module _ {V : Type 0} where
  -- each of these groups is in order
  abbrev AreOrdered : List (List ℕ × BTreeMap (List ℕ) V) → Type 0
  AreOrdered = All (λ e. IsOrdered text_cmp e.1)

  module _ (done : List (Bor (List ℕ) × Bor (BTreeMap (List ℕ) V))) where
    -- and so are these and one more
    pub ordered-push : (next : Bor (List ℕ) × Bor (BTreeMap (List ℕ) V)) → AreOrdered (map deref_pair done)
        → IsOrdered text_cmp next.1.now → AreOrdered (map deref_pair (done ++ next ∷ []))
    ordered-push next each one =
        subst AreOrdered (sym (map-append deref_pair done (next ∷ [])))
        (All-push (λ e. IsOrdered text_cmp e.1) (map deref_pair done) (deref_pair next) each one)

    -- what is made of the rows of one more group
    pub rows-push : {T : Type 0} (f : List ℕ × List ℕ → V → T) (next : Bor (List ℕ) × Bor (BTreeMap (List ℕ) V))
        → map (λ e. f e.0 e.1) (rows_in (map deref_pair (done ++ next ∷ [])))
        ≡ map (λ e. f e.0 e.1) (rows_in (map deref_pair done))
        ++ map (λ r. f (next.0.now, r.0) r.1) next.1.now.entries
    rows-push f next =
        let rows = rows_in (map deref_pair done) in
        let more = next.1.now.entries in
        ap (λ es. map (λ e. f e.0 e.1) (rows_in es)) (map-append deref_pair done (next ∷ []))
        ∙ ap (map (λ e. f e.0 e.1)) (rows_in-push (map deref_pair done) (deref_pair next))
        ∙ map-append (λ e. f e.0 e.1) rows (group_rows next.0.now more)
        ∙ ap (λ made. map (λ e. f e.0 e.1) rows ++ made) (map-group_rows f next.0.now more)

    -- the rows of all groups are those of the map
    pub all_groups : (m : BTreeMap (List ℕ) (BTreeMap (List ℕ) V)) → IsOrdered text_cmp m
        → map deref_pair done ≡ m.entries → AreOrdered (map deref_pair done)
        → rows_in (map deref_pair done) ≡ entries (pair_map text_cmp text_cmp m)
    all_groups m order all each =
        ap rows_in all
        ∙ sym (entries-pair_map text_keys text_keys m order (subst AreOrdered all each))
