-- What writes to the tables of entries and of their marks make of the entries of an office.
use Rattle.std.proofs.Common.{◌≡◌, Bool, true, false, cond, Option, Some, None, IsSome}
use Rattle.std.proofs.Common.{is_some, option_map, refl, sym, ap, ◌∙◌}
use Rattle.std.specs.FinMap.{FinMap, contains_key, get, insert}
use Rattle.std.specs.Ordering.{eq_by_cmp}
use Rattle.std.specs.declared.cmp.Ordering.{Ordering}
use Rattle.reg_maps.specs.Maps.{replaced, update}
use Rattle.reg_maps.proofs.KeySets.{each_key, was_left}
use Rattle.reg_maps.proofs.MapLaws.{IsKeyOrder, get-at_insert, get-inserted, get-update, get-updated, same_at, tied}
use Rattle.reg_core.specs.Entry.{registration_in, with_hold}
use Rattle.reg_core.specs.World.{Place, World, place_cmp}
use Rattle.reg_core.specs.declared.entry.Entry.{Entry}
use Rattle.reg_core.specs.declared.entry.Registration.{Registration}
use Rattle.reg_core.proofs.KeyOrders.{place_keys}
use Rattle.reg_records.specs.Entries.{unheld}
use Rattle.reg_records.specs.declared.holds.Hold.{Hold}
use Rattle.reg_statements.specs.Content.{AreTied, assembled}
use Rattle.reg_statements.specs.Defined.{HasFreeKey, KeepsTies, with_row, without_row}
use Rattle.reg_statements.specs.Office as office
use Rattle.reg_statements.specs.Parts.{Parts}
use Rattle.reg_statements.proofs.Marks.{get-marked, marked-add, marked-insert, marked-take}
use Rattle.reg_rows.specs.Marks.{IsHeldSo, IsUnheld}
use Rattle.reg_rows.proofs.Found.{absent}
use Rattle.reg_rows.proofs.JoinedRows.{was_made}

-- ---- One key twice

module _ {K X : Type 0} {R : K → K → Ordering} (o : IsKeyOrder R) (m : FinMap R X) (k : K) where
  -- what is put at a key takes the place of what was put there
  pub twice : (u v : X) → insert (insert m k u) k v ≡ insert m k v
  twice u v = same_at o _ _ (λ q.
      get-at_insert o (insert m k u) k v q
      ∙ elim (eq_by_cmp R q k) as (λ b. eq_by_cmp R q k ≡ b
      → cond b (Some v) (get (insert m k u) q) ≡ cond b (Some v) (get m q)) [
        | true ↦ λ t. refl
        | false ↦ λ t. get-at_insert o m k u q ∙ ap (λ b. cond b (Some u) (get m q)) t
      ] refl
      ∙ sym (get-at_insert o m k v q))

  pub update-inserted : (v : X) (f : X → X) → update (insert m k v) k f ≡ insert m k (f v)
  update-inserted v f =
      ap (λ r. replaced (insert m k v) k (option_map f r)) (get-inserted o m k v) ∙ twice v (f v)

  pub insert-updated : (f : X → X) (v : X) → insert (update m k f) k v ≡ insert m k v
  insert-updated f v = same_at o _ _ (λ q.
      get-at_insert o (update m k f) k v q
      ∙ elim (eq_by_cmp R q k) as (λ b. eq_by_cmp R q k ≡ b
      → cond b (Some v) (get (update m k f) q) ≡ cond b (Some v) (get m q)) [
        | true ↦ λ t. refl
        | false ↦ λ t.
            get-update o m k f q ∙ ap (λ b. cond b (option_map f (get m k)) (get m q)) t
      ] refl
      ∙ sym (get-at_insert o m k v q))

-- ---- Another key

is_false : (b : Bool) → (b ≡ true → ⊥) → b ≡ false
is_false true other = absurd (other refl)
is_false false other = refl

-- what another key has is there after an insertion
pub still_there : {K X : Type 0} {R : K → K → Ordering} (o : IsKeyOrder R) (m : FinMap R X) (k : K)
    (v : X) (P : X → Type 0) (q : K) → (eq_by_cmp R q k ≡ true → ⊥)
    → (x : X) × (get m q ≡ Some x) × P x → (x : X) × (get (insert m k v) q ≡ Some x) × P x
still_there {R = R} o m k v P q other found = (
  found.0,
  get-at_insert o m k v q ∙ ap (λ b. cond b (Some v) (get m q)) (is_false (eq_by_cmp R q k) other)
      ∙ found.1,
  found.2,
)

-- ---- Entries beside their marks

module _ (p : Parts) (ties : AreTied p) (place : Place) where
  -- the entry of the office at the place is the one of the table with its mark
  record Entered (a : Registration) : Type 0 where
    bare : Registration
    there : get p.entries place ≡ Some bare
    is : with_hold (contains_key p.holds place) bare ≡ a

  entered : (a : Registration) → get (assembled p).entries place ≡ Some a → Entered a
  entered a is =
      let it = was_made (with_hold (contains_key p.holds place)) (get p.entries place) a
      (sym (get-marked p.holds p.entries place) ∙ is) in
      record { bare = it.item; there = it.is; is = it.makes }

  -- an entry that is not held has no mark
  unmarked : IsUnheld place (assembled p) → contains_key p.holds place ≡ true → ⊥
  unmarked free marks =
      let found = ties.holds place marks in
      let none = free (with_hold (contains_key p.holds place) found.0)
      (get-marked p.holds p.entries place
      ∙ ap (option_map (with_hold (contains_key p.holds place))) found.1) in
      absurd (cc)

-- ---- One mark more, and one less

module _ (p : Parts) (ties : AreTied p) (hold : Hold) where
  abbrev at : Place
  at = (hold.registry, hold.value)

  pub mark_added : IsHeldSo false at (assembled p)
      → (HasFreeKey office.holds hold p × KeepsTies (with_row office.holds hold) p)
      × (assembled (with_row office.holds hold p) ≡ record (assembled p) {
        entries = update (assembled p).entries at (with_hold true);
      })
  mark_added fits =
      let entry = entered p ties at fits.0 fits.1 in
      let none : contains_key p.holds at ≡ false =
      ap (λ (a : Registration). a.term.held) entry.is ∙ fits.2 in
      let expires : IsSome entry.bare.term.expires =
      ap (λ (a : Registration). is_some a.term.expires) entry.is ∙ fits.3 in (
        (
          absent (get p.holds at) none,
          λ old. record {
            ranges = old.ranges;
            holds = each_key place_keys p.holds at
                (λ q. (a : Registration) × (get p.entries q ≡ Some a) × IsSome a.term.expires) tt
                old.holds (entry.bare, entry.there, expires);
            minutes = old.minutes;
            acts = old.acts;
          },
        ),
        ap (λ m. record (assembled p) { entries = m }) (marked-add p.holds p.entries at),
      )

pub mark_taken : (p : Parts) (place : Place)
    → KeepsTies (without_row office.holds place) p
    × (assembled (without_row office.holds place p) ≡ record (assembled p) {
      entries = update (assembled p).entries place (with_hold false);
    })
mark_taken p place = (
  λ old. record {
    ranges = old.ranges;
    holds = λ q is. old.holds q (was_left place_keys p.holds place q is);
    minutes = old.minutes;
    acts = old.acts;
  },
  ap (λ m. record (assembled p) { entries = m }) (marked-take p.holds p.entries place),
)

-- ---- An entry without its mark, where none stands that is held

module _ (p : Parts) (ties : AreTied p) (entry : Entry) where
  abbrev place_of : Place
  place_of = (entry.registry, entry.value)

  pub entry_put : IsUnheld place_of (assembled p)
      → KeepsTies (with_row office.entries (unheld entry)) p
      × (assembled (with_row office.entries (unheld entry) p) ≡ record (assembled p) {
        entries = insert (assembled p).entries place_of (with_hold false (registration_in entry));
      })
  entry_put free =
      let no_mark = unmarked p ties place_of free in (
        λ old. record {
          ranges = old.ranges;
          holds = λ q is.
              still_there place_keys p.entries place_of _ (λ a. IsSome a.term.expires) q
              (λ t. no_mark (ap (contains_key p.holds) (sym (tied place_keys q place_of t)) ∙ is))
              (old.holds q is);
          minutes = old.minutes;
          acts = old.acts;
        },
        ap (λ m. record (assembled p) { entries = m })
            (marked-insert p.holds p.entries place_of (registration_in (unheld entry))
            ∙ ap (λ held. insert (assembled p).entries place_of
            (with_hold held (registration_in (unheld entry)))) (is_false _ no_mark)),
      )

-- ---- An entry with its mark

module _ (w : World) (place : Place) (a : Registration) where
  abbrev with_entries : FinMap place_cmp Registration → World
  with_entries m = record w { entries = m }

  -- once its mark is taken, the entry at a place is not held
  pub is_unheld : IsUnheld place (with_entries (update w.entries place (with_hold false)))
  is_unheld b is = go (get w.entries place) (sym (get-updated place_keys w.entries place (with_hold false)) ∙ is)
    where
      go : (r : Option Registration) → option_map (with_hold false) r ≡ Some b
          → b.term.held ≡ false
      go None is = absurd (cc)
      go (Some x) is =
          let same : with_hold false x ≡ b = cc in
          ap (λ (b : Registration). b.term.held) (sym same)

  pub put_bare : insert (update w.entries place (with_hold false)) place (with_hold false a)
      ≡ insert w.entries place (with_hold false a)
  put_bare = insert-updated place_keys w.entries place (with_hold false) (with_hold false a)

  -- and one that expires can be marked
  pub can_mark : IsSome a.term.expires
      → IsHeldSo false place (with_entries (insert w.entries place (with_hold false a)))
  can_mark expires =
      (with_hold false a, get-inserted place_keys w.entries place (with_hold false a), refl, expires)

  pub put_held : a.term.held ≡ true
      → update (insert w.entries place (with_hold false a)) place (with_hold true)
      ≡ insert w.entries place a
  put_held held =
      update-inserted place_keys w.entries place (with_hold false a) (with_hold true)
      ∙ ap (λ b. insert w.entries place (with_hold b a)) (sym held)
