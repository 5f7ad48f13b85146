-- What a writer took in two calls, and what a reader gave.
use Rattle.std.proofs.Common.{◌≡◌, ℕ, ◌+◌, ◌-◌, List, ◌++◌, Option, length, take, drop, arith, append-nil, length-drop, subst}
use Rattle.std.proofs.lemmas.List.{take_all}
use Rattle.std.proofs.Math.Seq.{take-add}
use Rattle.std.proofs.KnownBytes.{Appends-trans, Consumes-trans}
use Rattle.std.specs.Io.KnownBytes.{Appends, Consumes}

pub sent_more : (a b c : Option (List ℕ)) (xs : List ℕ) (i n : ℕ) → Appends a b (take i xs)
    → Appends b c (take n (take (length xs - i) (drop i xs))) → Appends a c (take (i + n) xs)
sent_more a b c xs i n p q =
    let all : take (length xs - i) (drop i xs) ≡ drop i xs =
    take_all _ _ (omega (arith, length-drop i xs)) in
    rw take-add (Appends-trans a b c _ _ p (rw all at q))

-- a read that gave nothing
pub read_none : (a b c : Option (List ℕ)) (bs buf : List ℕ) (n : ℕ) → n ≡ 0 → Consumes a b bs
    → Consumes b c (take n buf) → Consumes a c bs
read_none a b c bs buf n z p q =
    let e : bs ++ take n buf ≡ bs = rw z (append-nil bs) in
    let P = λ (t : List ℕ). Consumes a c t in
    subst P e (Consumes-trans a b c bs (take n buf) p q)
