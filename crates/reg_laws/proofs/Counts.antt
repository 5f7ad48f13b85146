-- Counts are of just the things of each kind.
use Rattle.std.proofs.Common.{◌≡◌, ◌≢◌, ◌<◌, ◌≤◌, ℕ, Bool, true, false, List, length, map, filter, inl, inr, refl, sym, ap, subst, ◌∙◌, arith}
use Rattle.std.specs.Prelude.{Option, Some, None, IsSome, is_some, option_and_then, All, AllPairs, Contains, ◌⊎◌, count_by, if◌then◌else◌, nat_lt, slice_index_or}
use Rattle.std.specs.FinMap.{FinMap, get, entries, keys}
use Rattle.std.specs.declared.cmp.Ordering.{Ordering}
use Rattle.std.proofs.lemmas.List.{length-map}
use Rattle.std.proofs.lemmas.List.Elements.{All-contains, All-contains_itself, All-filter, All-map, All-weaker, filter_passes}
use Rattle.std.proofs.lemmas.List.Kept.{AllPairs-filter}
use Rattle.std.proofs.lemmas.List.Sums.{length-filter}
use Rattle.reg_core.proofs.Common.{All-entries, Contains-entries, Contains-keys, Contains-map, IsKeyOrder, Outcome, Place}
use Rattle.reg_core.proofs.Common.{SizedPrefix, WellKept, World, ascending-entries, ascending-keys, block_keys, bytes_eq-Decides}
use Rattle.reg_core.proofs.Common.{cap_row, cap_rows, counts, entries_in, entries_of, entry_row, entry_rows, get-chosen, is_open_at}
use Rattle.reg_core.proofs.Common.{link_keys, listed_rows, masked, masked_blocks, get-select, nat_tests, number_keys, place_cmp, place_keys}
use Rattle.reg_core.proofs.Common.{place_of, registration_in, same_text, status_on, text_keys, utc_day}
use Rattle.reg_core.proofs.ValuesIn.{found_own}
use Rattle.reg_core.specs.Counting.{same_status}
use Rattle.reg_core.specs.Holding.{listed_row}
use Rattle.reg_core.specs.Link.{link_row}
use Rattle.reg_core.specs.declared.command.ClerkCommand.TheVariants.{CountRows}
use Rattle.reg_core.specs.declared.told.Told.TheVariants.{Counts}
use Rattle.reg_early.proofs.TermsInWords.{expired, held as while_held, temporary}
use Rattle.reg_early.specs.Terms.{status_until}
use Rattle.reg_early.specs.declared.term.Status.TheVariants as status
use Rattle.reg_ranges.specs.Tables.{Table}
use Rattle.reg_laws.proofs.Capabilities.{passing}
use Rattle.reg_laws.proofs.ClerkLists.{was_told}
use Rattle.reg_laws.proofs.Pairs.{apart_sorted, contains_flat, all_flat, pairs_flat, pairs_map, pairs_unmap}
use Rattle.reg_laws.proofs.Types.{Cap, CapRow, Entry, Holder, Registration}
use Rattle.reg_laws.specs.Counts.{AreCounts, AreSoMany, CountsAreExact, HasEntryThat, IsExpiredOn, IsTemporaryOn, IsValidAt}

-- ---- Counting

-- what is the same is counted alike
alike : {A : Type 0} {P Q : A → Type 0} {n : ℕ} → ((a : A) → P a → Q a) → ((a : A) → Q a → P a)
    → AreSoMany P n → AreSoMany Q n
alike {P = P} {Q = Q} to back so = record {
  things = so.things;
  only = All-weaker P Q to so.things so.only;
  every = λ a is. so.every a (back a is);
  once = so.once;
  many = so.many;
}

-- rows, each with its own key, or some of them
module _ {A B : Type 0} (key : B → A) (rows : List B)
    (apart : AllPairs (λ a b. key a ≢ key b) rows) where
  abbrev HasRowAt : A → Type 0
  HasRowAt a = (row : B) × Contains rows row × (key row ≡ a)

  counted : AreSoMany HasRowAt (length rows)
  counted = record {
    things = map key rows;
    only = All-map HasRowAt key rows
        (All-weaker (Contains rows) (λ row. HasRowAt (key row)) (λ row inside. (row, inside, refl))
        rows (All-contains_itself rows));
    every = λ a has. subst (Contains (map key rows)) has.2 (Contains-map key rows has.0 has.1);
    once = pairs_map key (λ a b. a ≢ b) rows apart;
    many = length-map rows key;
  }

  module _ (test : B → Bool) where
    abbrev kept : List B
    kept = filter test rows

    abbrev HasKeptAt : A → Type 0
    HasKeptAt a = (row : B) × Contains rows row × (key row ≡ a) × (test row ≡ true)

    counted_where : AreSoMany HasKeptAt (count_by test rows)
    counted_where = record {
      things = map key kept;
      only = All-map HasKeptAt key kept (λ k d inside. (
        slice_index_or kept k d,
        All-filter test (Contains rows) rows (All-contains_itself rows) k d inside,
        refl,
        filter_passes test rows k d inside,
      ));
      every = λ a has.
          subst (Contains (map key kept)) has.2
          (Contains-map key kept has.0
          (All-contains (λ row. test row ≡ true → Contains kept row) rows has.0
          (passing test rows) has.1 has.3));
      once = pairs_map key (λ a b. a ≢ b) kept
          (AllPairs-filter (λ a b. key a ≢ key b) test rows apart);
      many = length-map kept key ∙ length-filter test rows;
    }

-- the keys of a map
module _ {K X : Type 0} {R : K → K → Ordering} (o : IsKeyOrder R) (m : FinMap R X) where
  counted_keys : AreSoMany (λ k. IsSome (get m k)) (length (keys m))
  counted_keys = record {
    things = keys m;
    only = All-map (λ k. IsSome (get m k)) (λ e. e.0) (entries m)
        (All-entries o.total (λ e. IsSome (get m e.0)) m (λ k x is. ap is_some is));
    every = λ k. by k (get m k) refl;
    once = apart_sorted o (keys m) (ascending-keys m);
    many = refl;
  }
    where
      by : (k : K) (there : Option X) → get m k ≡ there → IsSome there → Contains (keys m) k
      by k None is some = absurd (cc)
      by k (Some x) is some = Contains-keys o m k x is

  -- as many as rows that show its entries
  counted_entries : {Y : Type 0} (row : K × X → Y)
      → AreSoMany (λ k. IsSome (get m k)) (length (map row (entries m)))
  counted_entries row =
      subst (AreSoMany (λ k. IsSome (get m k)))
      (length-map (entries m) (λ e. e.0) ∙ sym (length-map (entries m) row)) counted_keys

-- ---- Entries

module _ (w : World) (kept : WellKept w) (today : ℕ) where
  abbrev names : List (List ℕ)
  names = keys w.registries

  abbrev those_of : List ℕ → List Entry
  those_of name = entry_rows (entries_of name w.entries)

  abbrev all : List Entry
  all = entries_in names w

  abbrev row_at : Place × Registration → Entry
  row_at e = entry_row e.0.0 e.0.1 e.1

  -- each of a registry's is there
  abbrev IsThereIn : List ℕ → Entry → Type 0
  IsThereIn name e =
      (e.registry ≡ name) × (get w.entries (place_of e) ≡ Some (registration_in e))

  there_in : (name : List ℕ) → All (IsThereIn name) (those_of name)
  there_in name =
      All-map (IsThereIn name) row_at (entries (entries_of name w.entries))
      (All-entries place_keys.total (λ e. IsThereIn name (row_at e)) (entries_of name w.entries)
      (λ place a found.
      let is = get-chosen place_keys (λ place a. same_text place.0 name) w.entries place a found in
      ((bytes_eq-Decides place.0 name).0 is.1, is.0)))

  there : All (λ (e : Entry). get w.entries (place_of e) ≡ Some (registration_in e)) all
  there =
      all_flat those_of (λ (e : Entry). get w.entries (place_of e) ≡ Some (registration_in e)) names
      (λ k d inside.
      All-weaker (IsThereIn (slice_index_or names k d))
      (λ (e : Entry). get w.entries (place_of e) ≡ Some (registration_in e)) (λ e is. is.1)
      (those_of (slice_index_or names k d)) (there_in (slice_index_or names k d)))

  -- no two of them have one place
  apart : AllPairs (λ (a b : Entry). place_of a ≢ place_of b) all
  apart =
      pairs_flat those_of (λ (a b : Entry). place_of a ≢ place_of b)
      (λ name.
      pairs_unmap place_of (λ a b. a ≢ b) (those_of name)
      (apart_sorted place_keys (map place_of (those_of name))
      (ascending-entries place_cmp row_at place_of (λ e. refl) (entries_of name w.entries))))
      (λ name other differ k d inside i e within same.
      let first = (there_in name k d inside).0 in
      let second = (there_in other i e within).0 in
      differ (sym first ∙ ap (λ (p : Place). p.0) same ∙ second))
      names (apart_sorted text_keys names (ascending-keys w.registries))

  -- each entry is among them, since its registry is there
  is_among : (place : Place) (a : Registration) → get w.entries place ≡ Some a
      → Contains all (entry_row place.0 place.1 a)
  is_among place a is = by (get w.registries place.0) refl (kept.open_values place a is)
    where
      by : (table : Option Table) → get w.registries place.0 ≡ table
          → is_open_at table place.1 ≡ true → Contains all (entry_row place.0 place.1 a)
      by None at is_open = absurd (cc)
      by (Some table) at is_open =
          let named = Contains-keys text_keys w.registries place.0 table at in
          contains_flat those_of names place.0 (entry_row place.0 place.1 a) named.0 named.1
          named.2
          (Contains-map row_at (entries (entries_of place.0 w.entries)) (place, a)
          (Contains-entries place_keys (entries_of place.0 w.entries) place a
          (found_own place.0 w.entries place.1 a is)))

  found : (e : Entry) → Contains all e → get w.entries (place_of e) ≡ Some (registration_in e)
  found e inside =
      All-contains (λ (e : Entry). get w.entries (place_of e) ≡ Some (registration_in e)) all e there
      inside

  all_entries : AreSoMany (λ (place : Place). IsSome (get w.entries place)) (length all)
  all_entries =
      alike (λ place has. ap is_some (ap (get w.entries) (sym has.2) ∙ found has.0 has.1))
      (λ place. by place (get w.entries place) refl) (counted place_of all apart)
    where
      by : (place : Place) (a : Option Registration) → get w.entries place ≡ a → IsSome a
          → (e : Entry) × Contains all e × (place_of e ≡ place)
      by place None is some = absurd (cc)
      by place (Some a) is some = (entry_row place.0 place.1 a, is_among place a is, refl)

  -- those whose entries pass a test
  entries_where : (Is : Registration → Type 0) (test : Entry → Bool)
      → ((e : Entry) → test e ≡ true → Is (registration_in e))
      → ((place : Place) (a : Registration) → Is a → test (entry_row place.0 place.1 a) ≡ true)
      → AreSoMany (HasEntryThat w Is) (count_by test all)
  entries_where Is test passes is =
      alike (λ place has. (
        registration_in has.0,
        ap (get w.entries) (sym has.2) ∙ found has.0 has.1,
        passes has.0 has.3,
      ))
      (λ place has. (
        entry_row place.0 place.1 has.0,
        is_among place has.0 has.1,
        refl,
        is place has.0 has.2,
      ))
      (counted_where place_of all apart test)

  -- the statuses
  temporary_by : (held : Bool) (expires : Option ℕ)
      → same_status (status_until held expires today) status.Temporary ≡ true
      → (expiry : ℕ) × (expires ≡ Some expiry) × ((today < expiry) ⊎ (held ≡ true))
  temporary_by held None is = absurd (cc)
  temporary_by true (Some expiry) is = (expiry, refl, inr refl)
  temporary_by false (Some expiry) is = by (nat_lt today expiry) refl is
    where
      by : (b : Bool) → nat_lt today expiry ≡ b
          → same_status (if b then status.Temporary else status.Expired) status.Temporary ≡ true
          → (day : ℕ) × (Some expiry ≡ Some day) × ((today < day) ⊎ (false ≡ true))
      by true t is = (expiry, refl, inl (grind (arith, nat_tests)))
      by false t is = absurd (cc)

  expired_by : (held : Bool) (expires : Option ℕ)
      → same_status (status_until held expires today) status.Expired ≡ true
      → (expiry : ℕ) × (expires ≡ Some expiry) × (expiry ≤ today) × (held ≡ false)
  expired_by held None is = absurd (cc)
  expired_by true (Some expiry) is = absurd (cc)
  expired_by false (Some expiry) is = by (nat_lt today expiry) refl is
    where
      by : (b : Bool) → nat_lt today expiry ≡ b
          → same_status (if b then status.Temporary else status.Expired) status.Expired ≡ true
          → (day : ℕ) × (Some expiry ≡ Some day) × (day ≤ today) × (false ≡ false)
      by true t is = absurd (cc)
      by false t is = (expiry, refl, grind (arith, nat_tests), refl)

  is_temporary : (a : Registration) (expiry : ℕ) → a.term.expires ≡ Some expiry
      → ((today < expiry) ⊎ (a.term.held ≡ true))
      → same_status (status_on a.term today) status.Temporary ≡ true
  is_temporary a expiry is (inl before) =
      ap (λ s. same_status s status.Temporary) (temporary a.term expiry today is before)
  is_temporary a expiry is (inr held) =
      ap (λ s. same_status s status.Temporary) (while_held a.term expiry today is held)

  temporary_entries : AreSoMany (HasEntryThat w (IsTemporaryOn today))
      (count_by (λ (e : Entry). same_status (status_on e.term today) status.Temporary) all)
  temporary_entries =
      entries_where (IsTemporaryOn today)
      (λ (e : Entry). same_status (status_on e.term today) status.Temporary)
      (λ e. temporary_by e.term.held e.term.expires)
      (λ place a is. is_temporary a is.0 is.1 is.2)

  expired_entries : AreSoMany (HasEntryThat w (IsExpiredOn today))
      (count_by (λ (e : Entry). same_status (status_on e.term today) status.Expired) all)
  expired_entries =
      entries_where (IsExpiredOn today)
      (λ (e : Entry). same_status (status_on e.term today) status.Expired)
      (λ e. expired_by e.term.held e.term.expires)
      (λ place a is.
      ap (λ s. same_status s status.Expired) (expired a.term is.0 today is.1 is.3 is.2))

  held_entries : AreSoMany (HasEntryThat w (λ a. a.term.held ≡ true))
      (count_by (λ (e : Entry). e.term.held) all)
  held_entries =
      entries_where (λ a. a.term.held ≡ true) (λ (e : Entry). e.term.held) (λ e passes. passes)
      (λ place a is. is)

-- ---- Capabilities

module _ (w : World) (moment : ℕ) where
  abbrev cap_of : List ℕ × Cap → CapRow
  cap_of e = cap_row e.0 e.1

  caps_apart : AllPairs (λ (a b : CapRow). a.digest ≢ b.digest) (cap_rows w.caps)
  caps_apart =
      pairs_unmap (λ (row : CapRow). row.digest) (λ a b. a ≢ b) (cap_rows w.caps)
      (apart_sorted text_keys (map (λ (row : CapRow). row.digest) (cap_rows w.caps))
      (ascending-entries _ cap_of (λ row. row.digest) (λ e. refl) w.caps))

  cap_there : All (λ (row : CapRow). get w.caps row.digest ≡ Some row.cap) (cap_rows w.caps)
  cap_there =
      All-map (λ (row : CapRow). get w.caps row.digest ≡ Some row.cap) cap_of (entries w.caps)
      (All-entries text_keys.total (λ e. get w.caps e.0 ≡ Some e.1) w.caps (λ digest cap is. is))

  valid_caps : AreSoMany (IsValidAt w moment)
      (count_by (λ (row : CapRow). nat_lt moment row.cap.until) (cap_rows w.caps))
  valid_caps =
      alike (λ digest has. (
        has.0.cap,
        ap (get w.caps) (sym has.2)
            ∙ All-contains (λ (row : CapRow). get w.caps row.digest ≡ Some row.cap)
            (cap_rows w.caps) has.0 cap_there has.1,
        below has.0.cap.until has.3,
      ))
      (λ digest has. (
        cap_row digest has.0,
        Contains-map cap_of (entries w.caps) (digest, has.0)
            (Contains-entries text_keys w.caps digest has.0 has.1),
        refl,
        passes has.0.until has.2,
      ))
      (counted_where (λ (row : CapRow). row.digest) (cap_rows w.caps) caps_apart
      (λ (row : CapRow). nat_lt moment row.cap.until))
    where
      below : (until : ℕ) → nat_lt moment until ≡ true → moment < until
      below until is = grind (arith, nat_tests)

      passes : (until : ℕ) → moment < until → nat_lt moment until ≡ true
      passes until is = grind (arith, nat_tests)

-- ---- Blocks

block_count : (w : World)
    → AreSoMany (λ (block : SizedPrefix). IsSome (get w.blocks block))
    (length (listed_rows (masked_blocks w.blocks)))
block_count w =
    alike (λ block some. shown block (get w.blocks block) refl some)
    (λ block some. hidden block (get w.blocks block) refl some)
    (counted_entries block_keys (masked_blocks w.blocks) (λ e. listed_row e.0 e.1))
  where
    at : (block : SizedPrefix)
        → get (masked_blocks w.blocks) block
        ≡ option_and_then (λ (h : Holder). Some (masked h)) (get w.blocks block)
    at block = get-select block_keys (λ block h. Some (masked h)) w.blocks block

    shown : (block : SizedPrefix) (h : Option Holder) → get w.blocks block ≡ h
        → IsSome (get (masked_blocks w.blocks) block) → IsSome (get w.blocks block)
    shown block None is some =
        let none =
        ap is_some (at block ∙ ap (option_and_then (λ (h : Holder). Some (masked h))) is) in
        absurd (cc)
    shown block (Some h) is some = ap is_some is

    hidden : (block : SizedPrefix) (h : Option Holder) → get w.blocks block ≡ h
        → IsSome (get w.blocks block) → IsSome (get (masked_blocks w.blocks) block)
    hidden block None is some = let none = ap is_some is in absurd (cc)
    hidden block (Some h) is some =
        ap is_some (at block ∙ ap (option_and_then (λ (h : Holder). Some (masked h))) is)

-- ---- All

are_counts : (w : World) (moment : ℕ) → WellKept w → AreCounts w moment (counts moment (utc_day moment) w)
are_counts w moment kept = record {
  registries = counted_keys text_keys w.registries;
  entries = all_entries w kept (utc_day moment);
  temporary = temporary_entries w kept (utc_day moment);
  expired = expired_entries w kept (utc_day moment);
  held = held_entries w kept (utc_day moment);
  caps = counted_entries text_keys w.caps (λ e. cap_row e.0 e.1);
  valid = valid_caps w moment;
  prefixes = counted_keys number_keys w.pool;
  blocks = block_count w;
  agents = counted_entries link_keys w.agents (λ e. link_row e.0);
}

pub counts_exact : (digest_of : List ℕ → List ℕ) → CountsAreExact digest_of
counts_exact digest_of w caller moment given kept is =
    let was = was_told digest_of w caller moment CountRows (Counts given) is in
    let told = was.told in
    let tells = ap (λ (o : Outcome). o.told) was.so.1 in
    let same : counts moment (utc_day moment) w ≡ given = cc in
    subst (AreCounts w moment) same (are_counts w moment kept)
