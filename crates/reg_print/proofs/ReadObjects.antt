-- An object whose members read as their values, and ascend by their names, reads as itself.
use Rattle.std.proofs.Common.{◌≡◌, ℕ, List, [], ◌∷◌, Bool, true, ◌&&◌, Option, Some, None, Ordering, Less, Equal, Greater, nat_cmp, refl, sym, ap, ◌∙◌}
use Rattle.std.specs.Cmp.{first_so, second_so}
use Rattle.std.specs.Cmp.Lexicographic.{slice_cmp}
use Rattle.std.specs.Ordering.{is_lt, is_gt, ordering_reverse}
use Rattle.std.proofs.lemmas.Cmp.{nat_list_cmp_total}
use Rattle.serde_json.specs.Data.{Data, object, Members, no_members, member, put}
use Rattle.serde_json.specs.Read.{of_json, of_members}
use Rattle.serde_json.specs.Written.{outline, members_outline}
use Rattle.reg_print.specs.Trees.Members.{Listed, object_with}
use Rattle.reg_print.proofs.ListedMembers.{as_listed, ascends, is_before, some_member, with_members-as_listed}

-- the outline of the tree reads as the tree
abbrev pub Reads : Data → Type 0
Reads tree = of_json (outline tree) ≡ Some tree

abbrev pub IfReads : Option Data → Type 0
IfReads None = Unit {0}
IfReads (Some tree) = Reads tree

abbrev pub AllRead : Listed → Type 0
AllRead [] = Unit {0}
AllRead (m ∷ more) = IfReads m.1 × AllRead more

abbrev join : Members → Members → Members
join no_members more = more
join (member k d ms) more = member k d (join ms more)

join-assoc : (a : Members) (k : List ℕ) (d : Data) (more : Members)
    → join (join a (member k d no_members)) more ≡ join a (member k d more)
join-assoc no_members k d more = refl
join-assoc (member l e a) k d more = ap (member l e) (join-assoc a k d more)

join-nil : (a : Members) → join a no_members ≡ a
join-nil no_members = refl
join-nil (member l e a) = ap (member l e) (join-nil a)

-- a name stands behind all of these
abbrev is_after : List ℕ → Members → Bool
is_after k no_members = true
is_after k (member l e ms) = is_gt (slice_cmp nat_cmp k l) && is_after k ms

is_greater : (o : Ordering) → is_gt o ≡ true → o ≡ Greater
is_greater Less h = cc
is_greater Equal h = cc
is_greater Greater h = refl

turned : (o p : Ordering) → p ≡ ordering_reverse o → is_lt o ≡ true → is_gt p ≡ true
turned Less p e h = rw e refl
turned Equal p e h = cc
turned Greater p e h = cc

above : (k l : List ℕ) → is_lt (slice_cmp nat_cmp k l) ≡ true → is_gt (slice_cmp nat_cmp l k) ≡ true
above k l h =
    turned (slice_cmp nat_cmp k l) (slice_cmp nat_cmp l k) (nat_list_cmp_total.antisymm l k) h

put_last : (k : List ℕ) (d : Data) (found : Members) → is_after k found ≡ true
    → put k d found ≡ join found (member k d no_members)
put_last k d no_members h = refl
put_last k d (member l e found) h =
    rw (is_greater (slice_cmp nat_cmp k l)
    (first_so (is_gt (slice_cmp nat_cmp k l)) (is_after k found) h))
    (ap (member l e)
    (put_last k d found (second_so (is_gt (slice_cmp nat_cmp k l)) (is_after k found) h)))

after_join : (q k : List ℕ) (d : Data) (found : Members) → is_after q found ≡ true
    → is_gt (slice_cmp nat_cmp q k) ≡ true → is_after q (join found (member k d no_members)) ≡ true
after_join q k d no_members h g = rw g refl
after_join q k d (member l e found) h g =
    rw (first_so (is_gt (slice_cmp nat_cmp q l)) (is_after q found) h)
    (after_join q k d found (second_so (is_gt (slice_cmp nat_cmp q l)) (is_after q found) h) g)

abbrev all_after : Members → Listed → Bool
all_after found [] = true
all_after found (m ∷ ms) = is_after m.0 found && all_after found ms

all_after_join : (k : List ℕ) (d : Data) (found : Members) (ms : Listed) → all_after found ms ≡ true
    → is_before k ms ≡ true → all_after (join found (member k d no_members)) ms ≡ true
all_after_join k d found [] h b = refl
all_after_join k d found (m ∷ ms) h b =
    rw (after_join m.0 k d found (first_so (is_after m.0 found) (all_after found ms) h)
    (above k m.0 (first_so (is_lt (slice_cmp nat_cmp k m.0)) (is_before k ms) b)))
    (all_after_join k d found ms (second_so (is_after m.0 found) (all_after found ms) h)
    (second_so (is_lt (slice_cmp nat_cmp k m.0)) (is_before k ms) b))

put_at : (k : List ℕ) (o : Option Data) (ms found : Members) → IfReads o
    → is_after k found ≡ true → of_members (members_outline ms) found ≡ Some (join found ms)
    → ((d : Data) → of_members (members_outline ms) (join found (member k d no_members))
    ≡ Some (join (join found (member k d no_members)) ms))
    → of_members (members_outline (some_member k o ms)) found
    ≡ Some (join found (some_member k o ms))
put_at k None ms found h a absent there = absent
put_at k (Some d) ms found h a absent there =
    rw (h, put_last k d found a) (there d ∙ ap Some (join-assoc found k d ms))

of_members-as_listed : (ms : Listed) (found : Members) → ascends ms ≡ true
    → all_after found ms ≡ true → AllRead ms
    → of_members (members_outline (as_listed ms)) found ≡ Some (join found (as_listed ms))
of_members-as_listed [] found h a r = ap Some (sym (join-nil found))
of_members-as_listed (m ∷ ms) found h a r =
    let before = first_so (is_before m.0 ms) (ascends ms) h in
    let later = second_so (is_before m.0 ms) (ascends ms) h in
    let behind = second_so (is_after m.0 found) (all_after found ms) a in
    put_at m.0 m.1 (as_listed ms) found r.0 (first_so (is_after m.0 found) (all_after found ms) a)
    (of_members-as_listed ms found later behind r.1)
    (λ d. of_members-as_listed ms (join found (member m.0 d no_members)) later
    (all_after_join m.0 d found ms behind before) r.1)

none_before : (ms : Listed) → all_after no_members ms ≡ true
none_before [] = refl
none_before (m ∷ ms) = none_before ms

pub listed-reads : (ms : Listed) → ascends ms ≡ true → AllRead ms → Reads (object (as_listed ms))
listed-reads ms h r = rw (of_members-as_listed ms no_members h (none_before ms) r) refl

pub object_with-reads : (ms : Listed) → ascends ms ≡ true → AllRead ms → Reads (object_with ms)
object_with-reads ms h r = rw (with_members-as_listed ms h) (listed-reads ms h r)
