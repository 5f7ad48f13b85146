-- The values of registries that have entries, as these change.
use Rattle.std.proofs.Common.{◌≡◌, ℕ, Bool, true, false, cond, ◌&&◌, ◌||◌, nat_eq, List, refl, sym, ap, ◌∙◌, arith}
use Rattle.std.specs.Prelude.{Option, Some, None, Contains, IsTrue, ◌↔◌, is_some}
use Rattle.std.specs.Ordering.{nat_cmp, eq_by_cmp}
use Rattle.std.specs.Cmp.{eq_by_cmp_equiv, tied_then}
use Rattle.std.specs.BTreeMap as tree
use Rattle.std.specs.BTreeMap.{is_at}
use Rattle.std.specs.FinMap.{FinMap, get, insert, contains_key}
use Rattle.std.proofs.lemmas.Bool.Decides.{nat_tests}
use Rattle.reg_maps.specs.Maps.{text_cmp}
use Rattle.reg_maps.proofs.MapLaws.{text_keys, tied, get-at_insert}
use Rattle.reg_vacancies.specs.Runs.{has}
use Rattle.reg_vacancies.specs.declared.runs.Runs.{Runs}
use Rattle.reg_core.specs.LeastFree.{values_in}
use Rattle.reg_core.specs.World.{place_cmp}
use Rattle.reg_core.specs.declared.entry.Registration.{Registration}
use Rattle.reg_core.proofs.ValuesIn.{has_entry}
use Rattle.reg_core.proofs.KeyOrders.{place_keys}
use Rattle.reg_vacancies.specs.Sets.{Sets, Test, TellsEntries, GainsValue, AreSameTests, is_in, is_member}

-- ---- One set put in the place of another, or of none

number_tied : (n v : ℕ) → is_at (nat_cmp v) n ≡ nat_eq n v
number_tied n v = grind (arith, nat_tests)

place_tied : (name registry : List ℕ) (n v : ℕ)
    → (is_at (text_cmp registry) name && nat_eq n v)
    ≡ eq_by_cmp place_cmp (name, n) (registry, v)
place_tied name registry n v =
    ap (λ b. is_at (text_cmp registry) name && b) (sym (number_tied n v))
    ∙ tied_then (text_cmp registry name) (nat_cmp v n)
    ∙ (eq_by_cmp_equiv place_keys.total).symm (registry, v) (name, n)

module _ (old new : Sets) (registry : List ℕ) (was : Option Runs) (runs : Runs)
    (is : tree.get text_cmp old registry ≡ was)
    (put : (name : List ℕ) → tree.get text_cmp new name
    ≡ cond (is_at (text_cmp registry) name) (Some runs) (tree.get text_cmp old name)) where
  was_at : (name : List ℕ) → is_at (text_cmp registry) name ≡ true
      → was ≡ tree.get text_cmp old name
  was_at name t = sym (ap (tree.get text_cmp old) (sym (tied text_keys registry name t)) ∙ is)

  -- with one value more
  pub gains : (v : ℕ) → ((n : ℕ) → has runs n ≡ (nat_eq n v || is_in was n))
      → GainsValue (is_member old) (is_member new) registry v
  gains v adds name n =
      ap (λ set. is_in set n) (put name)
      ∙ elim (is_at (text_cmp registry) name) as (λ t. is_at (text_cmp registry) name ≡ t
      → is_in (cond t (Some runs) (tree.get text_cmp old name)) n
      ≡ ((t && nat_eq n v) || is_member old name n)) [
        | true ↦ λ t. adds n ∙ ap (λ set. nat_eq n v || is_in set n) (was_at name t)
        | false ↦ λ t. refl
      ] refl
      ∙ ap (λ b. b || is_member old name n) (place_tied name registry n v)

  -- with the same values
  pub alike : ((n : ℕ) → has runs n ≡ is_in was n) → AreSameTests (is_member old) (is_member new)
  alike same name n =
      ap (λ set. is_in set n) (put name)
      ∙ elim (is_at (text_cmp registry) name) as (λ t. is_at (text_cmp registry) name ≡ t
      → is_in (cond t (Some runs) (tree.get text_cmp old name)) n ≡ is_member old name n) [
        | true ↦ λ t. same n ∙ ap (λ set. is_in set n) (was_at name t)
        | false ↦ λ t. refl
      ] refl

-- ---- In step with the entries

is_some-cond : {X : Type 0} (b : Bool) (x : X) (o : Option X)
    → is_some (cond b (Some x) o) ≡ (b || is_some o)
is_some-cond true x o = refl
is_some-cond false x o = refl

module _ (entries : FinMap place_cmp Registration) (old new : Test) where
  -- where an entry is put, and its value
  pub tells-put : TellsEntries old entries → (registry : List ℕ) (v : ℕ) (x : Registration)
      → GainsValue old new registry v → TellsEntries new (insert entries (registry, v) x)
  tells-put tells registry v x adds name n =
      adds name n
      ∙ ap (λ b. eq_by_cmp place_cmp (name, n) (registry, v) || b) (tells name n)
      ∙ sym (is_some-cond (eq_by_cmp place_cmp (name, n) (registry, v)) x (get entries (name, n)))
      ∙ sym (ap is_some (get-at_insert place_keys entries (registry, v) x (name, n)))

  -- where nothing is
  pub tells-alike : AreSameTests old new → TellsEntries new entries ↔ TellsEntries old entries
  tells-alike same = (
    (λ tells. λ name n. sym (same name n) ∙ tells name n),
    (λ tells. λ name n. same name n ∙ tells name n),
  )

no_row : {X : Type 0} (o : Option X) → is_some o ≡ false → o ≡ None
no_row None h = refl
no_row (Some x) h = absurd (cc)

module _ (entries : FinMap place_cmp Registration) (test : Test) (tells : TellsEntries test entries)
    (registry : List ℕ) where
  -- at a value that is not taken there is no entry
  pub not_taken : (v : ℕ) → test registry v ≡ false → get entries (registry, v) ≡ None
  not_taken v free = no_row (get entries (registry, v)) (sym (tells registry v) ∙ free)

  -- a set that has just the values at which the test holds has those at which there are entries
  pub members : (set : ℕ → Bool) → ((n : ℕ) → set n ≡ test registry n)
      → (n : ℕ) → IsTrue (set n) ↔ Contains (values_in registry entries) n
  members set same n =
      let is : set n ≡ contains_key entries (registry, n) = same n ∙ tells registry n in
      let there = has_entry registry entries n in
      ((λ t. there.0 (sym is ∙ t)), (λ has. is ∙ there.1 has))
