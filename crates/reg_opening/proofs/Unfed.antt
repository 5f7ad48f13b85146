-- Why registries and their ranges are not fed to an audit.
use Rattle.std.proofs.Common.{◌⊎◌, inl, inr, List, [], refl, subst, sym, ◌∙◌}
use Rattle.std.specs.declared.cmp.Ordering.{Ordering}
use Rattle.sqlite.specs.Order.{Row}
use Rattle.sqlite.specs.Held.{Held, state}
use Rattle.sqlite.specs.State.{Shown}
use Rattle.sqlite.specs.declared.error.Error.{Error}
use Rattle.sqlite_trees.specs.declared.store.Store.{Ghosts}
use Rattle.std.specs.Prelude.{Option}
use Rattle.reg_maps.specs.Maps.{text_cmp}
use Rattle.reg_core.specs.World.{place_cmp}
use Rattle.reg_keeper.specs.declared.keeper.Fault.{Fault}
use Rattle.reg_records.specs.Ranges.{range_in}
use Rattle.reg_records.specs.Registries.{registry_in}
use Rattle.reg_records.specs.declared.ranges.RegistryRange.{RegistryRange}
use Rattle.reg_records.specs.declared.registries.Registry.{Registry}
use Rattle.reg_tables.specs.Connection.{Stays, Works}
use Rattle.reg_tables.specs.declared.texts.TheConstants.{SELECT_RANGES, SELECT_REGISTRIES}
use Rattle.reg_statements.specs.Loading.{IsAscending, ReadAs, ReadsInOrder}
use Rattle.reg_statements.proofs.ReadLemmas.{same_values}
use Rattle.reg_opening.specs.Causes.{HasCause, ShowsMisordered}
use Rattle.reg_opening.specs.Partitions.{AreUnfed}
use Rattle.reg_opening.specs.Unordered.{AreRegistriesUnordered}

-- values that are not in their order were read of rows that are not
unordered : {T : Type 0} (of : Row → Option T) (order : T → T → Ordering) (rows : List Row)
    (values : List T) → ReadAs of rows values → ¬ IsAscending order values
    → ¬ ReadsInOrder of order rows
unordered of order rows values read not ordered =
    not (subst (IsAscending order) (same_values ordered.0 values (sym ordered.1 ∙ read)) ordered.2)

module _ {S : Type 0} {g : Ghosts S} {Reported : Error → Type 0} {Read Ungrown : Type 0}
    (old mid new : Held S) (fault : Fault) (registries : List Registry) (ranges : List RegistryRange)
    (first : Stays (state g old) (state g mid)) (second : Stays (state g mid) (state g new))
    (names : Works (state g mid) → (rows : List Row)
    × Shown SELECT_REGISTRIES.now [] (state g old) (state g mid) rows
    × ReadAs registry_in rows registries)
    (values : Works (state g new) → (rows : List Row)
    × Shown SELECT_RANGES.now [] (state g mid) (state g new) rows
    × ReadAs range_in rows ranges) where
  pub unfed_cause : AreUnfed Ungrown registries ranges fault
      → HasCause Reported (Read ⊎ Ungrown) AreRegistriesUnordered g (state g old) (state g new) fault
  unfed_cause (inl memory) = record { why = inr (inl (memory.0, inr memory.1)) }
  unfed_cause (inr store) = record { why = inr (inr (store.0, λ works. inl (shows works store.1))) }
    where
      shows : Works (state g new) → ¬ IsAscending (λ (a b : Registry). text_cmp a.name b.name) registries
          ⊎ ¬ IsAscending (λ (a b : RegistryRange). place_cmp (a.registry, a.range.lo) (b.registry, b.range.lo)) ranges
          → ShowsMisordered g AreRegistriesUnordered (state g old).now
      shows works (inl not) =
          let read = names (second.worked works) in
          record {
            sql = SELECT_REGISTRIES.now;
            rows = read.0;
            from = old;
            upto = mid;
            seen = refl;
            shown = read.1;
            misordered = inl (refl, unordered registry_in _ read.0 registries read.2 not);
          }
      shows works (inr not) =
          let read = values works in
          record {
            sql = SELECT_RANGES.now;
            rows = read.0;
            from = mid;
            upto = new;
            seen = first.unchanged (second.worked works);
            shown = read.1;
            misordered = inr (refl, unordered range_in _ read.0 ranges read.2 not);
          }
