-- Writes inside a transaction, one after the other, and the ranges that are written so.
use Rattle.std.proofs.Common.{◌≡◌, ℕ, zero, suc, ◌+◌, ◌<◌, ◌≤◌, List, [], ◌∷◌, ◌++◌, length, map}
use Rattle.std.proofs.Common.{take, get_or, Ok, Result}
use Rattle.std.proofs.Common.{sym, ap, subst, ◌∙◌, arith}
use Rattle.std.specs.FinMap.{FinMap, insert}
use Rattle.std.specs.List.{AllByRecursion}
use Rattle.std.proofs.lemmas.List.{take_more}
use Rattle.sqlite.specs.State.{State}
use Rattle.reg_maps.specs.Maps.{text_cmp, update}
use Rattle.reg_maps.proofs.MapLaws.{get-inserted, text_keys}
use Rattle.reg_ranges.specs.Tables.{IsPartition, Table}
use Rattle.reg_ranges.specs.declared.range.Range.{Range}
use Rattle.reg_ranges.proofs.Increasing.{Rises, rises_any}
use Rattle.reg_core.specs.World.{World}
use Rattle.reg_tables.proofs.Enduring.{endures_then}
use Rattle.reg_tables.proofs.MakeLemmas.{on_ok}
use Rattle.reg_rows.specs.Calls.{Steps}
use Rattle.reg_rows.specs.Registries.{CanFollow, with_range}
use Rattle.reg_rows.proofs.MarksWritten.{update-inserted}

-- ---- Two writes

module _ {T U E : Type 0} {a b c : State} {x : T} {F G : World → Type 0} {f g : World → World}
    (first : Steps {T = T} {E = E} a b (Ok x) F f) where
  -- the second fits what the first leaves, and where it goes through, the two make one change
  pub steps_last : {h : World → World} (result : Result U E) → Steps b c result G g
      → ((w : World) → F w → G (f w) × (g (f w) ≡ h w)) → Steps a c result F h
  steps_last result second joins = record {
    endures = endures_then a b c first.endures second.endures;
    kept = λ clean.
        let one = first.kept (second.endures.clean clean) in
        let two = second.kept clean in
        record {
          was_open = λ is_open. one.was_open (two.was_open is_open);
          committed = λ is_open. two.committed is_open ∙ one.committed (two.was_open is_open);
        };
    went = λ clean.
        let one = first.went (second.endures.clean clean) in
        on_ok result (λ two. record {
          was_open = one.was_open;
          is_open = two.is_open;
          committed = two.committed ∙ one.committed;
          live = two.live;
        }) (second.went clean);
    tables = λ clean.
        on_ok result (λ same. same ∙ first.tables (second.endures.clean clean)) (second.tables clean);
    turns = λ clean.
        on_ok result (λ turns stored fits.
        let one = first.turns (second.endures.clean clean) stored fits in
        let both = joins _ fits in
        let two = turns one.0 (subst G (sym one.1) both.0) in
        (two.0, two.1 ∙ ap g one.1 ∙ both.1)) (second.turns clean);
  }

  pub steps_then : {h : World → World} (y : U) → Steps {T = U} {E = E} b c (Ok y) G g
      → ((w : World) → F w → G (f w) × (g (f w) ≡ h w)) → Steps {T = U} {E = E} a c (Ok y) F h
  steps_then y second joins = steps_last (Ok y) second joins

-- ---- The ranges of a table

reaches : (low : ℕ) (rs : List Range) (i : ℕ) (d : Range) → i < length rs
    → Rises low (map (λ r. r.lo) rs) → low ≤ (get_or rs i d).lo
reaches low [] i d inside up = absurd (omega (arith, inside))
reaches low (r ∷ rs) zero d inside up = up.0
reaches low (r ∷ rs) (suc i) d inside up =
    let rest = reaches (r.lo + 1) rs i d (omega (arith, inside)) up.1 in
    omega (arith, rest, up.0)

-- of ranges in order each begins above those before it
begin_below : (low : ℕ) (rs : List Range) (i : ℕ) (d : Range) → i < length rs
    → Rises low (map (λ r. r.lo) rs)
    → AllByRecursion (λ r. r.lo < (get_or rs i d).lo) (take i rs)
begin_below low [] i d inside up = absurd (omega (arith, inside))
begin_below low (r ∷ rs) zero d inside up = tt
begin_below low (r ∷ rs) (suc i) d inside up =
    let rest = reaches (r.lo + 1) rs i d (omega (arith, inside)) up.1 in
    (omega (arith, rest), begin_below (r.lo + 1) rs i d (omega (arith, inside)) up.1)

abbrev pub table_of : ℕ → List Range → Table
table_of max ranges = record { max = max; ranges = ranges }

module _ (m : FinMap text_cmp Table) (name : List ℕ) where
  -- a registry with the first ranges of a table gets the next one
  pub next_range : (table : Table) (i : ℕ) (r : Range) → i < length table.ranges
      → r ≡ get_or table.ranges i r → IsPartition table
      → CanFollow (insert m name (table_of table.max (take i table.ranges))) name r
      × (update (insert m name (table_of table.max (take i table.ranges))) name (with_range r)
      ≡ insert m name (table_of table.max (take (i + 1) table.ranges)))
  next_range table i r inside here partition =
      let some = table_of table.max (take i table.ranges) in
      let there = get-inserted text_keys m name some in
      let low = begin_below 0 table.ranges i r inside
      (rises_any (map (λ r. r.lo) table.ranges) partition.ascending) in (
        (
          some,
          there,
          subst (λ (next : Range). AllByRecursion (λ r. r.lo < next.lo) (take i table.ranges))
              (sym here) low,
        ),
        update-inserted text_keys m name some (with_range r)
            ∙ ap (λ (next : Range). insert m name
            (table_of table.max (take i table.ranges ++ next ∷ []))) here
            ∙ ap (λ rs. insert m name (table_of table.max rs))
            (sym (take_more table.ranges i r inside)),
      )
