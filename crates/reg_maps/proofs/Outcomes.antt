-- What follows after a call, whichever way it came out.
use Rattle.std.proofs.Common.{◌≡◌, sym, subst, Result, Ok, Err, OnOk, OnErr}

-- what holds anyway holds at an error
pub any_err : {T E P : Type 0} (r : Result T E) → P → OnErr r P
any_err (Ok x) p = tt
any_err (Err e) p = p

-- what holds of a value as it was made, and as it was, holds of it at either outcome
pub either_way : {T E W : Type 0} (P : W → Type 0) (r : Result T E) (new made old : W)
    → OnOk r (new ≡ made) → OnErr r (new ≡ old) → P made → P old → P new
either_way P (Ok x) new made old is kept p q = subst P (sym is) p
either_way P (Err e) new made old is kept p q = subst P (sym kept) q

-- what follows at either outcome
pub either : {T E P Q G : Type 0} (r : Result T E) → OnOk r P → OnErr r Q → (P → G) → (Q → G) → G
either (Ok x) p q f g = f p
either (Err e) p q f g = g q

-- and of two clauses on each
pub on_either : {T E A B C D G : Type 0} (r : Result T E)
    → OnOk r A → OnOk r B → OnErr r C → OnErr r D → (A → B → G) → (C → D → G) → G
on_either (Ok x) a b c d f g = f a b
on_either (Err e) a b c d f g = g c d
