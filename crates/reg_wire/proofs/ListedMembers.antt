-- What is found and read in objects whose members are listed in byte order of their names.
use Rattle.std.proofs.Common.{◌≡◌, ℕ, List, [], ◌∷◌, Bool, true, false, Option, Some, None, Ok, Ordering, Less, Equal, Greater, nat_cmp, is_eq, bytes_eq, refl, sym, ap, ◌∙◌, cond, option_and_then}
use Rattle.std.specs.Cmp.{first_so, second_so}
use Rattle.std.specs.Cmp.Lexicographic.{slice_cmp}
use Rattle.std.specs.List.{list_all}
use Rattle.std.specs.Ordering.{is_lt, match_ordering}
use Rattle.std.proofs.lemmas.Map.Text.{is_eq-slice_cmp}
use Rattle.std.proofs.lemmas.Slice.Eq.{bytes_eq-Decides}
use Rattle.serde_json.specs.Data.{Data, Members}
use Rattle.serde_json.specs.Find.{get, get_member, as_object}
use Rattle.reg_core.specs.declared.item.Item.{Item}
use Rattle.reg_core.specs.Item.{item_name}
use Rattle.reg_print.specs.Trees.Members.{Listed, object_with}
use Rattle.reg_print.proofs.ListedMembers.{as_listed, ascends, is_before, is_less, some_member, with_members-as_listed}
use Rattle.reg_json.specs.Members.{needed, formed, optional, only, all_among, is_among, names_any}

-- ---- a member is found where it is listed

abbrev pub find_listed : List ℕ → Listed → Option Data
find_listed name [] = None
find_listed name (m ∷ more) = cond (bytes_eq name m.0) m.1 (find_listed name more)

absent_at : (k l : List ℕ) (o : Option Data) (ms : Members) → is_lt (slice_cmp nat_cmp k l) ≡ true
    → get_member k ms ≡ None → get_member k (some_member l o ms) ≡ None
absent_at k l None ms before none = none
absent_at k l (Some e) ms before none = rw (is_less (slice_cmp nat_cmp k l) before) none

absent : (k : List ℕ) (ms : Listed) → is_before k ms ≡ true → get_member k (as_listed ms) ≡ None
absent k [] h = refl
absent k (m ∷ ms) h =
    absent_at k m.0 m.1 (as_listed ms)
    (first_so (is_lt (slice_cmp nat_cmp k m.0)) (is_before k ms) h)
    (absent k ms (second_so (is_lt (slice_cmp nat_cmp k m.0)) (is_before k ms) h))

either : (o : Ordering) (a b : Option Data) → match_ordering o a b a ≡ cond (is_eq o) b a
either Less a b = refl
either Equal a b = refl
either Greater a b = refl

missing_at : (k l : List ℕ) (found : Option Data) (b : Bool) → bytes_eq k l ≡ b
    → (l ≡ k → found ≡ None) → found ≡ cond b None found
missing_at k l found true e h = h (sym ((bytes_eq-Decides k l).0 e))
missing_at k l found false e h = refl

found_at : (k l : List ℕ) (o : Option Data) (ms : Members) → (l ≡ k → get_member k ms ≡ None)
    → get_member k (some_member l o ms) ≡ cond (bytes_eq k l) o (get_member k ms)
found_at k l None ms none = missing_at k l (get_member k ms) (bytes_eq k l) refl none
found_at k l (Some e) ms none =
    either (slice_cmp nat_cmp k l) (get_member k ms) (Some e)
    ∙ ap (λ b. cond b (Some e) (get_member k ms)) (is_eq-slice_cmp k l)

get_member-as_listed : (k : List ℕ) (ms : Listed) → ascends ms ≡ true
    → get_member k (as_listed ms) ≡ find_listed k ms
get_member-as_listed k [] h = refl
get_member-as_listed k (m ∷ ms) h =
    let before = first_so (is_before m.0 ms) (ascends ms) h in
    found_at k m.0 m.1 (as_listed ms) (λ same. absent k ms (rw (← same) before))
    ∙ ap (λ found. cond (bytes_eq k m.0) m.1 found)
    (get_member-as_listed k ms (second_so (is_before m.0 ms) (ascends ms) h))

pub get-object_with : (k : List ℕ) (ms : Listed) → ascends ms ≡ true
    → get k (object_with ms) ≡ find_listed k ms
get-object_with k ms h =
    ap (get_member k) (with_members-as_listed ms h) ∙ get_member-as_listed k ms h

-- ---- what is read of it

pub needed-object_with : {A : Type 0} (part : Item) (form : Data → Option A) (x : A) (ms : Listed)
    → ascends ms ≡ true → option_and_then form (find_listed (item_name part) ms) ≡ Some x
    → needed part form (object_with ms) ≡ Ok x
needed-object_with part form x ms h e = rw (get-object_with (item_name part) ms h, e) refl

pub optional-object_with : {A : Type 0} (part : Item) (form : Data → Option A) (x : Option A)
    (ms : Listed) → ascends ms ≡ true → formed part form (find_listed (item_name part) ms) ≡ Ok x
    → optional part form (object_with ms) ≡ Ok x
optional-object_with part form x ms h e =
    ap (formed part form) (get-object_with (item_name part) ms h) ∙ e

among_at : (items : List Item) (k : List ℕ) (o : Option Data) (ms : Members)
    → names_any items k ≡ true → all_among items ms ≡ true
    → all_among items (some_member k o ms) ≡ true
among_at items k None ms named among = among
among_at items k (Some d) ms named among = rw named among

abbrev pub are_named : List Item → Listed → Bool
are_named items ms = list_all (λ m. names_any items m.0) ms

all_among-as_listed : (items : List Item) (ms : Listed) → are_named items ms ≡ true
    → all_among items (as_listed ms) ≡ true
all_among-as_listed items [] h = refl
all_among-as_listed items (m ∷ ms) h =
    among_at items m.0 m.1 (as_listed ms) (first_so (names_any items m.0) (are_named items ms) h)
    (all_among-as_listed items ms (second_so (names_any items m.0) (are_named items ms) h))

pub is_among-object_with : (items : List Item) (ms : Listed) → ascends ms ≡ true
    → are_named items ms ≡ true → is_among items (as_object (object_with ms)) ≡ true
is_among-object_with items ms h named =
    ap (all_among items) (with_members-as_listed ms h) ∙ all_among-as_listed items ms named

pub only-object_with : (items : List Item) (ms : Listed) → ascends ms ≡ true
    → are_named items ms ≡ true → only items (object_with ms) ≡ Ok tt
only-object_with items ms h named = rw (is_among-object_with items ms h named) refl
