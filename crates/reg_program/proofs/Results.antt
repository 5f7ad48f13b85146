-- What a call promises, as what its caller does.
use Rattle.std.proofs.Common.{ℕ, List, Option, Result, Ok, Err}
use Rattle.std.specs.Prelude.{IfErr, OnOk}
use Rattle.std.specs.Io.KnownBytes.{Appends, Keeps}
use Rattle.std.proofs.KnownBytes.{Appends-kept}

pub err_as : {T E : Type 0} {P Q : E → Type 0} (r : Result T E) → ((e : E) → P e → Q e)
    → IfErr r P → IfErr r Q
err_as (Ok x) h p = tt
err_as (Err e) h p = h e p

pub ok_as : {T E : Type 0} {P Q : Type 0} (r : Result T E) → (P → Q) → OnOk r P → OnOk r Q
ok_as (Ok x) h p = h p
ok_as (Err e) h p = tt

-- bytes that were written went out
pub went_out : {T E : Type 0} (r : Result T E) (a b c : Option (List ℕ)) (bytes : List ℕ)
    → Appends a b bytes → Keeps b c → OnOk r (Appends a c bytes)
went_out (Ok x) a b c bytes h k = Appends-kept a b c bytes h k
went_out (Err e) a b c bytes h k = tt
