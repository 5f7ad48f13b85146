-- Registries that take their ranges in turn, where no row is left, take all of theirs.
use Rattle.std.proofs.Common.{◌≡◌, ℕ, Bool, true, false, cond, ◌&&◌, ◌||◌, List, [], ◌∷◌, ◌++◌, map, filter, length, ◌<◌, arith}
use Rattle.std.proofs.Common.{refl, sym, ap, subst, ◌∙◌, Option, Some, None}
use Rattle.std.proofs.lemmas.Bool.{and_parts, or_parts, or_right}
use Rattle.std.proofs.lemmas.List.{append-nil}
use Rattle.std.specs.Cmp.{eq_by_cmp_equiv}
use Rattle.std.specs.List.{AllByRecursion}
use Rattle.std.specs.List.Sorted.{IsStrictlySortedBy}
use Rattle.std.specs.Ordering.{is_eq, nat_cmp, ordering_then}
use Rattle.std.specs.Prelude.{MatchOption, Vec}
use Rattle.std.specs.declared.alloc.Global.{Global}
use Rattle.std.specs.declared.cmp.Ordering.{Ordering}
use Rattle.std.specs.declared.cmp.Ordering.TheVariants.{Less, Equal, Greater}
use Rattle.reg_core.specs.World.{place_cmp}
use Rattle.reg_statements.specs.Loading.{IsAscending}
use Rattle.reg_maps.specs.Maps.{same_text, text_cmp}
use Rattle.reg_maps.proofs.MapLaws.{text_keys, tied}
use Rattle.reg_maps.proofs.KeyTests.{text_test}
use Rattle.reg_ranges.specs.Forms.{is_partition}
use Rattle.reg_records.specs.declared.ranges.RegistryRange.{RegistryRange}
use Rattle.reg_records.specs.declared.registries.Registry.{Registry}
use Rattle.reg_opening.specs.Partitions.{ArePartitions, Share, are_owned, is_named, leading, left_over}
use Rattle.reg_opening.specs.Partitions.{partition_from, partition_of, ranges_named, shared_out, trailing}
use Rattle.reg_opening.specs.declared.partitions.Partition.{Partition}

abbrev share_of : List RegistryRange → Registry → Share
share_of rows g = (g, ranges_named rows g.name)

abbrev names : List Registry → List (List ℕ)
names gs = map (λ g. g.name) gs

-- each registry with all ranges of its name, or none where those of one are no partition
abbrev AreMade : List Registry → List RegistryRange → Option (Vec Partition Global) → Type 0
AreMade gs rows found =
    MatchOption found
    (¬ AllByRecursion (λ g. is_partition (partition_of rows g).table ≡ true) gs)
    (λ all. all.items ≡ map (partition_of rows) gs)

-- ---- Texts

equal : (x y : List ℕ) → same_text x y ≡ true → x ≡ y
equal x y is = tied text_keys x y (sym (text_test x y) ∙ is)

turned : (x y : List ℕ) → same_text x y ≡ same_text y x
turned x y = text_test x y ∙ (eq_by_cmp_equiv text_keys.total).symm x y ∙ sym (text_test y x)

-- a name that comes before those of all is none of theirs
none_named : (name : List ℕ) (gs : List Registry)
    → AllByRecursion (λ y. text_cmp name y ≡ Less) (names gs) → is_named gs name ≡ false
none_named name [] less = refl
none_named name (g ∷ gs) less =
    let differ : same_text g.name name ≡ false =
    turned g.name name ∙ text_test name g.name ∙ ap is_eq less.0 in
    λ i. differ i || none_named name gs less.1 i

-- ---- Ranges that are taken

-- the ranges of a name: those that come first, and those after them
own : (name : List ℕ) (rows : List RegistryRange)
    → ranges_named rows name ≡ leading name rows ++ ranges_named (trailing name rows) name
own name [] = refl
own name (r ∷ rows) =
    let more = filter (λ row. same_text row.registry name) rows in
    elim (same_text r.registry name) as (λ b. same_text r.registry name ≡ b
    → map (λ row. row.range) (cond b (r ∷ more) more)
    ≡ cond b (r.range ∷ leading name rows) []
    ++ ranges_named (cond b (trailing name rows) (r ∷ rows)) name) [
      | true ↦ λ e. ap (λ later. r.range ∷ later) (own name rows)
      | false ↦ λ e. sym (ap (λ b. map (λ row. row.range) (cond b (r ∷ more) more)) e)
    ] refl

-- those of another name all come after them
others : (name other : List ℕ) → same_text other name ≡ false → (rows : List RegistryRange)
    → ranges_named (trailing name rows) other ≡ ranges_named rows other
others name other apart [] = refl
others name other apart (r ∷ rows) =
    let more = filter (λ row. same_text row.registry other) rows in
    elim (same_text r.registry name) as (λ b. same_text r.registry name ≡ b
    → ranges_named (cond b (trailing name rows) (r ∷ rows)) other ≡ ranges_named (r ∷ rows) other) [
      | true ↦ λ e.
          let differ : same_text r.registry other ≡ false =
          ap (λ x. same_text x other) (equal r.registry name e) ∙ turned name other ∙ apart in
          others name other apart rows
          ∙ sym (ap (λ b. map (λ row. row.range) (cond b (r ∷ more) more)) differ)
      | false ↦ λ e. refl
    ] refl

all_others : (name : List ℕ) (gs : List Registry) (rows : List RegistryRange)
    → is_named gs name ≡ false → map (share_of (trailing name rows)) gs ≡ map (share_of rows) gs
all_others name [] rows none = refl
all_others name (g ∷ gs) rows none =
    let both = or_parts (same_text g.name name) (is_named gs name) none in
    λ i. (g, others name g.name both.0 rows i) ∷ all_others name gs rows both.1 i

-- ---- Rows and their registries

none_of : (gs : List Registry) (name : List ℕ) → is_named gs name ≡ false
    → (rows : List RegistryRange) → are_owned gs rows ≡ true → ranges_named rows name ≡ []
none_of gs name none [] all = refl
none_of gs name none (r ∷ rows) all =
    let both = and_parts (is_named gs r.registry) (are_owned gs rows) all in
    let more = filter (λ row. same_text row.registry name) rows in
    elim (same_text r.registry name) as (λ b. same_text r.registry name ≡ b
    → map (λ row. row.range) (cond b (r ∷ more) more) ≡ []) [
      | true ↦ λ e.
          let gone : is_named gs name ≡ true =
          ap (is_named gs) (sym (equal r.registry name e)) ∙ both.0 in
          absurd (cc)
      | false ↦ λ e. none_of gs name none rows both.1
    ] refl

owned_more : (g : Registry) (gs : List Registry) (rows : List RegistryRange)
    → are_owned gs rows ≡ true → are_owned (g ∷ gs) rows ≡ true
owned_more g gs [] all = refl
owned_more g gs (r ∷ rows) all =
    let both = and_parts (is_named gs r.registry) (are_owned gs rows) all in
    λ i. (or_right (same_text g.name r.registry) (is_named gs r.registry) both.0 i)
    && owned_more g gs rows both.1 i

owned_before : (g : Registry) (gs : List Registry) (rows : List RegistryRange)
    → are_owned gs (trailing g.name rows) ≡ true → are_owned (g ∷ gs) rows ≡ true
owned_before g gs [] all = refl
owned_before g gs (r ∷ rows) all =
    elim (same_text r.registry g.name) as (λ b. same_text r.registry g.name ≡ b
    → are_owned gs (cond b (trailing g.name rows) (r ∷ rows)) ≡ true
    → are_owned (g ∷ gs) (r ∷ rows) ≡ true) [
      | true ↦ λ e all.
          let here : same_text g.name r.registry ≡ true = turned g.name r.registry ∙ e in
          λ i. (here i || is_named gs r.registry) && owned_before g gs rows all i
      | false ↦ λ e all. owned_more g gs (r ∷ rows) all
    ] refl all

-- ---- All of them

-- where no row is left, each registry took its ranges, and each row has a registry
all_taken : (gs : List Registry) (rows : List RegistryRange)
    → IsStrictlySortedBy text_cmp (names gs) → left_over gs rows ≡ []
    → (shared_out gs rows ≡ map (share_of rows) gs) × (are_owned gs rows ≡ true)
unfolding IsStrictlySortedBy
all_taken [] rows up none = (refl, subst (λ rows. are_owned [] rows ≡ true) (sym none) refl)
all_taken (g ∷ gs) rows up none =
    let rest = trailing g.name rows in
    let more = all_taken gs rest up.1 none in
    let free = none_named g.name gs up.0 in
    let mine : leading g.name rows ≡ ranges_named rows g.name =
    sym (own g.name rows ∙ ap (λ later. leading g.name rows ++ later) (none_of gs g.name free rest more.1)
    ∙ append-nil (leading g.name rows)) in
    let theirs = more.0 ∙ all_others g.name gs rows free in (
      λ i. (g, mine i) ∷ theirs i,
      owned_before g gs rows more.1,
    )

-- ---- Rows in their order, of registries in theirs

abbrev Rise : List RegistryRange → Type 0
Rise = IsAscending (λ a b. place_cmp (a.registry, a.range.lo) (b.registry, b.range.lo))

rise_after : (r : RegistryRange) (rows : List RegistryRange) → Rise (r ∷ rows) → Rise rows
rise_after r [] up = tt
rise_after r (q ∷ rows) up = up.1

rise_behind : (name : List ℕ) (rows : List RegistryRange) → Rise rows → Rise (trailing name rows)
rise_behind name [] up = tt
rise_behind name (r ∷ rows) up =
    elim (same_text r.registry name) as (λ b. Rise (cond b (trailing name rows) (r ∷ rows))) [
      | true ↦ rise_behind name rows (rise_after r rows up)
      | false ↦ up
    ]

-- a name before that of a row is before that of the next
name_below : (name : List ℕ) (r q : RegistryRange) → text_cmp name r.registry ≡ Less
    → place_cmp (r.registry, r.range.lo) (q.registry, q.range.lo) ≡ Less
    → text_cmp name q.registry ≡ Less
name_below name r q less up = by (text_cmp r.registry q.registry) refl up
  where
    by : (o : Ordering) → text_cmp r.registry q.registry ≡ o
        → ordering_then o (nat_cmp r.range.lo q.range.lo) ≡ Less → text_cmp name q.registry ≡ Less
    by Less is up = text_keys.total.trans name r.registry q.registry less is
    by Equal is up =
        subst (λ other. text_cmp name other ≡ Less) (text_keys.exact r.registry q.registry is) less
    by Greater is up = absurd (cc)

-- a name before those of all is before one of theirs
named_below : (name other : List ℕ) (gs : List Registry)
    → AllByRecursion (λ y. text_cmp name y ≡ Less) (names gs) → is_named gs other ≡ true
    → text_cmp name other ≡ Less
named_below name other [] less named = absurd (cc)
named_below name other (g ∷ gs) less named =
    elim (same_text g.name other) as (λ b. same_text g.name other ≡ b
    → (b || is_named gs other) ≡ true → text_cmp name other ≡ Less) [
      | true ↦ λ e h. subst (λ y. text_cmp name y ≡ Less) (equal g.name other e) less.0
      | false ↦ λ e h. named_below name other gs less.1 h
    ] refl named

second_holds : (a b : Bool) → a ≡ false → (a || b) ≡ true → b ≡ true
second_holds true b is h = absurd (cc)
second_holds false b is h = h

-- rows of which the first has a name after a registry's are of the registries after it
named_later : (g : Registry) (gs : List Registry) (name : List ℕ) → text_cmp g.name name ≡ Less
    → is_named (g ∷ gs) name ≡ true → is_named gs name ≡ true
named_later g gs name less named =
    second_holds (same_text g.name name) (is_named gs name) (text_test g.name name ∙ ap is_eq less)
    named

owned_later : (g : Registry) (gs : List Registry) (r : RegistryRange) (rows : List RegistryRange)
    → Rise (r ∷ rows) → text_cmp g.name r.registry ≡ Less → are_owned (g ∷ gs) (r ∷ rows) ≡ true
    → are_owned gs (r ∷ rows) ≡ true
owned_later g gs r [] up less all =
    let both = and_parts (is_named (g ∷ gs) r.registry) true all in
    λ i. named_later g gs r.registry less both.0 i && true
owned_later g gs r (q ∷ rows) up less all =
    let both = and_parts (is_named (g ∷ gs) r.registry) (are_owned (g ∷ gs) (q ∷ rows)) all in
    λ i. named_later g gs r.registry less both.0 i
    && owned_later g gs q rows up.1 (name_below g.name r q less up.0) both.1 i

-- so are those that a registry leaves
owned_behind : (g : Registry) (gs : List Registry) (rows : List RegistryRange)
    → AllByRecursion (λ y. text_cmp g.name y ≡ Less) (names gs) → Rise rows
    → are_owned (g ∷ gs) rows ≡ true → are_owned gs (trailing g.name rows) ≡ true
owned_behind g gs [] less up all = refl
owned_behind g gs (r ∷ rows) less up all =
    let both = and_parts (is_named (g ∷ gs) r.registry) (are_owned (g ∷ gs) rows) all in
    elim (same_text r.registry g.name) as (λ b. same_text r.registry g.name ≡ b
    → are_owned gs (cond b (trailing g.name rows) (r ∷ rows)) ≡ true) [
      | true ↦ λ e. owned_behind g gs rows less (rise_after r rows up) both.1
      | false ↦ λ e.
          let named = second_holds (same_text g.name r.registry) (is_named gs r.registry)
          (turned g.name r.registry ∙ e) both.0 in
          owned_later g gs r rows up (named_below g.name r.registry gs less named) all
    ] refl

none_left : (gs : List Registry) (rows : List RegistryRange)
    → IsStrictlySortedBy text_cmp (names gs) → Rise rows → are_owned gs rows ≡ true
    → left_over gs rows ≡ []
unfolding IsStrictlySortedBy
none_left [] [] sorted up all = refl
none_left [] (r ∷ rows) sorted up all = absurd (cc)
none_left (g ∷ gs) rows sorted up all =
    none_left gs (trailing g.name rows) sorted.1 (rise_behind g.name rows up)
    (owned_behind g gs rows sorted.0 up all)

-- where a row is left, one has no registry
pub left_not_owned : (gs : List Registry) (rows left : List RegistryRange)
    → left ≡ left_over gs rows → IsStrictlySortedBy text_cmp (names gs) → Rise rows
    → ¬ (length left ≡ 0) → are_owned gs rows ≡ false
left_not_owned gs rows left is sorted up some =
    elim (are_owned gs rows) as (λ b. are_owned gs rows ≡ b → b ≡ false) [
      | true ↦ λ e. absurd (some (ap length (is ∙ none_left gs rows sorted up e)))
      | false ↦ λ e. refl
    ] refl

-- no row is left
all_gone : (gs : List Registry) (rows left : List RegistryRange) → left ≡ left_over gs rows
    → length left < 1 → left_over gs rows ≡ []
all_gone gs rows [] is short = sym is
all_gone gs rows (x ∷ more) is short = absurd (omega (arith, short))

each_from : (rows : List RegistryRange) (gs : List Registry)
    → map partition_from (map (share_of rows) gs) ≡ map (partition_of rows) gs
each_from rows [] = refl
each_from rows (g ∷ gs) = ap (λ more. partition_of rows g ∷ more) (each_from rows gs)

each_share : (rows : List RegistryRange) (gs : List Registry)
    → AllByRecursion (λ g. is_partition (partition_of rows g).table ≡ true) gs
    → AllByRecursion (λ share. is_partition (partition_from share).table ≡ true) (map (share_of rows) gs)
each_share rows [] all = tt
each_share rows (g ∷ gs) all = (all.0, each_share rows gs all.1)

made_from : (gs : List Registry) (rows : List RegistryRange) (found : Option (Vec Partition Global))
    → shared_out gs rows ≡ map (share_of rows) gs → ArePartitions (shared_out gs rows) found
    → AreMade gs rows found
made_from gs rows None taken are = λ all.
    are (subst (AllByRecursion (λ share. is_partition (partition_from share).table ≡ true)) (sym taken)
    (each_share rows gs all))
made_from gs rows (Some all) taken are = are ∙ ap (map partition_from) taken ∙ each_from rows gs

-- partitions that were made from what the registries took, where no row is left
pub made_of_all : (gs : List Registry) (rows left : List RegistryRange) (shares : List Share)
    (found : Option (Vec Partition Global)) → IsStrictlySortedBy text_cmp (names gs)
    → (shares ≡ shared_out gs rows) × (left ≡ left_over gs rows) → length left < 1
    → ArePartitions shares found → (are_owned gs rows ≡ true) × AreMade gs rows found
made_of_all gs rows left shares found up shared short are =
    let taken = all_taken gs rows up (all_gone gs rows left shared.1 short) in (
      taken.1,
      made_from gs rows found taken.0 (subst (λ shares. ArePartitions shares found) shared.0 are),
    )
