-- Runs of numbers in a map: which is kept where, and what stays where the map is unchanged.
use Rattle.std.proofs.Common.{◌≡◌, ◌≢◌, ℕ, false, refl, sym, ap, ◌∙◌, arith, IsSome}
use Rattle.std.specs.BTreeMap.{IsUnchanged, get, is_at}
use Rattle.std.specs.Map.{lookup}
use Rattle.std.specs.Ordering.{nat_cmp}
use Rattle.std.proofs.lemmas.Bool.Decides.{nat_tests}
use Rattle.reg_maps.specs.Spans.{Spans, IsRun}

-- numbers that differ are keys of their own
pub apart_keys : (a b : ℕ) → a ≢ b → is_at (nat_cmp a) b ≡ false
apart_keys a b ne = grind (arith, nat_tests)

-- two runs that begin at one number are one
pub same_run : (spans : Spans) (first last f l : ℕ) → f ≡ first → IsRun spans first last
    → IsRun spans f l → l ≡ last
same_run spans first last f l e a b = cc

pub is_some_at : (spans : Spans) (first last : ℕ) → IsRun spans first last
    → IsSome (get nat_cmp spans first)
is_some_at spans first last is = rw is refl

pub run_unchanged : (old new : Spans) → IsUnchanged old new → (f l : ℕ) → IsRun new f l
    → IsRun old f l
run_unchanged old new same f l run = sym (ap (lookup (is_at (nat_cmp f))) same) ∙ run
