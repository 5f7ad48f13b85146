-- Objects whose members are listed in byte order of their names.
use Rattle.std.proofs.Common.{◌≡◌, ℕ, List, [], ◌∷◌, Bool, true, ◌&&◌, Option, Some, None, Ordering, Less, Equal, Greater, nat_cmp, refl, ap, ◌∙◌}
use Rattle.std.specs.Cmp.{first_so, second_so}
use Rattle.std.specs.Cmp.Lexicographic.{slice_cmp}
use Rattle.std.specs.Ordering.{is_lt}
use Rattle.serde_json.specs.Data.{Data, Members, member, no_members, put}
use Rattle.reg_print.specs.Trees.Members.{Listed, put_some, with_members}

-- the members that are there, as they are listed
abbrev pub some_member : List ℕ → Option Data → Members → Members
some_member name None more = more
some_member name (Some json) more = member name json more

abbrev pub as_listed : Listed → Members
as_listed [] = no_members
as_listed (m ∷ more) = some_member m.0 m.1 (as_listed more)

-- a name stands before all of these
abbrev pub is_before : List ℕ → Listed → Bool
is_before name [] = true
is_before name (m ∷ more) = is_lt (slice_cmp nat_cmp name m.0) && is_before name more

abbrev pub ascends : Listed → Bool
ascends [] = true
ascends (m ∷ more) = is_before m.0 more && ascends more

pub is_less : (o : Ordering) → is_lt o ≡ true → o ≡ Less
is_less Less h = refl
is_less Equal h = cc
is_less Greater h = cc

-- ---- they stand as they are listed

put_first_at : (k l : List ℕ) (d : Data) (o : Option Data) (ms : Members)
    → is_lt (slice_cmp nat_cmp k l) ≡ true → put k d ms ≡ member k d ms
    → put k d (some_member l o ms) ≡ member k d (some_member l o ms)
put_first_at k l d None ms before same = same
put_first_at k l d (Some e) ms before same = rw (is_less (slice_cmp nat_cmp k l) before) refl

put_first : (k : List ℕ) (d : Data) (ms : Listed) → is_before k ms ≡ true
    → put k d (as_listed ms) ≡ member k d (as_listed ms)
put_first k d [] h = refl
put_first k d (m ∷ ms) h =
    put_first_at k m.0 d m.1 (as_listed ms)
    (first_so (is_lt (slice_cmp nat_cmp k m.0)) (is_before k ms) h)
    (put_first k d ms (second_so (is_lt (slice_cmp nat_cmp k m.0)) (is_before k ms) h))

put_some-first : (k : List ℕ) (o : Option Data) (ms : Members) (listed : Listed)
    → ms ≡ as_listed listed → is_before k listed ≡ true
    → put_some k o ms ≡ some_member k o (as_listed listed)
put_some-first k None ms listed same h = same
put_some-first k (Some d) ms listed same h = ap (put k d) same ∙ put_first k d listed h

pub with_members-as_listed : (ms : Listed) → ascends ms ≡ true → with_members ms ≡ as_listed ms
with_members-as_listed [] h = refl
with_members-as_listed (m ∷ ms) h =
    put_some-first m.0 m.1 (with_members ms) ms
    (with_members-as_listed ms (second_so (is_before m.0 ms) (ascends ms) h))
    (first_so (is_before m.0 ms) (ascends ms) h)
