-- Places of acts that are noted act by act.
use Rattle.std.proofs.Common.{◌≡◌, ℕ, ◌<◌, ◌≤◌, ◌+◌, Bool, true, false, List, [], ◌∷◌, ◌++◌, length, take, filter, get_or, refl, sym, ap, ◌∙◌, arith, add-one, append-nil, append_assoc, length-append}
use Rattle.std.specs.Prelude.{Some, find, fold, filter_map, slice_get, option_and_then, if◌then◌else◌}
use Rattle.std.specs.List.{cons_option}
use Rattle.std.proofs.Math.Seq.{take-suc}
use Rattle.std.proofs.lemmas.List.{length-take-le, take_all}
use Rattle.std.proofs.lemmas.List.Elements.{filter_map-append}
use Rattle.std.proofs.lemmas.List.Sums.{fold-append}
use Rattle.reg_core.specs.Arrivals.{arrival, arrival_number}
use Rattle.reg_core.specs.File.{same_name}
use Rattle.reg_core.specs.Journal.{acts_in_order, is_about, with_acts}
use Rattle.reg_core.specs.Times.{submits}
use Rattle.reg_core.specs.World.{RequestName}
use Rattle.reg_core.specs.declared.journal.Act.{Act}
use Rattle.reg_core.specs.declared.journal.Deed.{Deed}
use Rattle.reg_core.specs.declared.journal.Deed.TheVariants.{Submit}
use Rattle.reg_core.specs.declared.journal.Stamp.{Stamp}
use Rattle.reg_store.specs.Lists.ActPlaces.{AreActPlaces, arrived_at, arrived_in, not_come, places_held, places_in}
use Rattle.reg_store.specs.Lists.Journal.{journal_of}
use Rattle.reg_store.specs.declared.lists.act_places.ActPlaces.{ActPlaces}
use Rattle.reg_store.proofs.JournalLaws.{all_in_order, chosen_in_order, with_acts-append}

-- ---- A journal of so many acts

length-with_acts : (acts journal : List Act)
    → length (with_acts acts journal) ≡ length acts + length journal
length-with_acts [] journal = omega arith
length-with_acts (act ∷ acts) journal =
    let rest = length-with_acts acts (act ∷ journal) in
    omega (arith, rest)

pub length-journal : (n : ℕ) (acts : List Act) → n ≤ length acts
    → length (journal_of (take n acts)) ≡ n
length-journal n acts h =
    let all = length-with_acts (take n acts) [] in
    let taken = length-take-le n acts h in
    omega (arith, all, taken)

-- with the next one
pub journal-next : (acts : List Act) (n : ℕ) (act : Act) → n < length acts
    → get_or acts n act ≡ act → journal_of (take (n + 1) acts) ≡ act ∷ journal_of (take n acts)
journal-next acts n act inside here =
    rw add-one
    (ap journal_of (take-suc acts n act inside ∙ ap (λ a. take n acts ++ a ∷ []) here)
    ∙ with_acts-append (take n acts) (act ∷ []) [])

-- ---- The acts at the places

-- all acts of a journal, the oldest first
abbrev in_order : List Act → List Act
in_order journal = acts_in_order (λ (act : Act). true) journal

length-in_order : (journal : List Act) → length (in_order journal) ≡ length journal
length-in_order [] = refl
length-in_order (act ∷ journal) =
    let rest = length-in_order journal in
    let more = length-append (in_order journal) (act ∷ []) in
    omega (arith, rest, more)

slice_get-after : {X : Type 0} (xs : List X) (x : X) (ys : List X)
    → slice_get (xs ++ x ∷ ys) (length xs) ≡ Some x
slice_get-after [] x ys = refl
slice_get-after (y ∷ xs) x ys = slice_get-after xs x ys

-- the acts that come later are behind those of the journal
module _ (name : RequestName) (journal : List Act) (act : Act) (more : List Act) where
  abbrev all_acts : List Act
  all_acts = in_order (act ∷ journal) ++ more

  all_acts-are : all_acts ≡ in_order journal ++ act ∷ more
  all_acts-are = append_assoc (in_order journal) (act ∷ []) more

  last_is : slice_get all_acts (length journal) ≡ Some act
  last_is =
      (λ i. slice_get (all_acts-are i) (sym (length-in_order journal) i))
      ∙ slice_get-after (in_order journal) act more

  listed-next : filter_map (slice_get (in_order journal ++ act ∷ more)) (places_in journal name)
      ≡ acts_in_order (is_about name) journal
      → filter_map (slice_get all_acts) (places_in (act ∷ journal) name)
      ≡ acts_in_order (is_about name) (act ∷ journal)
  listed-next listed = by (is_about name act)
    where
      places : List ℕ
      places = places_in journal name

      before : filter_map (slice_get all_acts) places ≡ acts_in_order (is_about name) journal
      before = ap (λ acts. filter_map (slice_get acts) places) all_acts-are ∙ listed

      by : (b : Bool) → filter_map (slice_get all_acts)
          (if b then places ++ length journal ∷ [] else places)
          ≡ acts_in_order (is_about name) journal ++ (if b then act ∷ [] else [])
      by true =
          filter_map-append (slice_get all_acts) places (length journal ∷ [])
          ∙ (λ i. before i ++ cons_option (last_is i) [])
      by false = before ∙ sym (append-nil (acts_in_order (is_about name) journal))

listed : (name : RequestName) (journal more : List Act)
    → filter_map (slice_get (in_order journal ++ more)) (places_in journal name)
    ≡ acts_in_order (is_about name) journal
listed name [] more = refl
listed name (act ∷ journal) more =
    listed-next name journal act more (listed name journal (act ∷ more))

-- ---- When a request came

module _ (name : RequestName) (journal acts : List Act) (stamp : Stamp)
    (before : fold (arrived_at acts) not_come (places_in journal name) ≡ arrival journal name)
  where
    abbrev act_of : Deed → Act
    act_of deed = record { stamp = stamp; deed = deed }

    abbrev places : Bool → List ℕ
    places b = if b then places_in journal name ++ length journal ∷ [] else places_in journal name

    -- by an act about the request
    at_last : (deed : Deed) → slice_get acts (length journal) ≡ Some (act_of deed)
        → fold (arrived_at acts) not_come (places true)
        ≡ arrived_in (Some (act_of deed)) (length journal) (arrival journal name)
    at_last deed is =
        fold-append (arrived_at acts) not_come (places_in journal name) (length journal ∷ [])
        ∙ (λ i. arrived_in (is i) (length journal) (before i))

    came-next : (deed : Deed) → slice_get acts (length journal) ≡ Some (act_of deed)
        → fold (arrived_at acts) not_come (places_in (act_of deed ∷ journal) name)
        ≡ arrival (act_of deed ∷ journal) name
    came-next (Submit account reference) is = by (same_name (account, reference) name)
      where
        act : Act
        act = act_of (Submit account reference)

        by : (b : Bool) → fold (arrived_at acts) not_come (places b) ≡ record {
          number = if b then length journal + 1 else arrival_number journal name;
          moment =
              option_and_then (λ (act : Act). act.stamp.moment)
              (if b then Some act else find (λ (act : Act). submits name act.deed) journal);
        }
        by true = at_last (Submit account reference) is
        by false = before
    came-next deed is = by (is_about name (act_of deed))
      where
        by : (b : Bool) → fold (arrived_at acts) not_come (places b) ≡ arrival journal name
        by true = at_last deed is
        by false = before

came : (name : RequestName) (journal more : List Act)
    → fold (arrived_at (in_order journal ++ more)) not_come (places_in journal name)
    ≡ arrival journal name
came name [] more = refl
came name (act ∷ journal) more =
    came-next name journal (all_acts name journal act more) act.stamp
    (ap (λ acts. fold (arrived_at acts) not_come (places_in journal name))
    (all_acts-are name journal act more) ∙ came name journal (act ∷ more))
    act.deed (last_is name journal act more)

-- ---- What is kept of all acts

module _ (kept : ActPlaces) (acts : List Act) (name : RequestName) (are : AreActPlaces kept acts)
    (all : kept.noted ≡ length acts) where
  places-are : places_held kept.lists name ≡ places_in (journal_of acts) name
  places-are =
      let long : length acts ≤ kept.noted = omega (arith, all) in
      are.found name
      ∙ ap (λ acts. places_in (journal_of acts) name) (take_all kept.noted acts long)

  acts-are : in_order (journal_of acts) ++ [] ≡ acts
  acts-are = append-nil (in_order (journal_of acts)) ∙ all_in_order acts

  pub acts-listed : filter_map (slice_get acts) (places_held kept.lists name)
      ≡ filter (is_about name) acts
  acts-listed =
      (λ i. filter_map (slice_get (sym acts-are i)) (places-are i))
      ∙ listed name (journal_of acts) [] ∙ chosen_in_order (is_about name) acts

  pub arrival-found : fold (arrived_at acts) not_come (places_held kept.lists name)
      ≡ arrival (journal_of acts) name
  arrival-found =
      (λ i. fold (arrived_at (sym acts-are i)) not_come (places-are i))
      ∙ came name (journal_of acts) []
