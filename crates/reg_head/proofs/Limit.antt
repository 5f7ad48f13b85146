-- A head within the limit lies in the first bytes.
use Rattle.std.proofs.Common.{◌≡◌, ℕ, ◌≤◌, List, ◌++◌, length, take, drop, arith, sym, ap, ◌∙◌, take-append-drop}
use Rattle.std.proofs.lemmas.List.{take-append-le}
use Rattle.std.proofs.Math.Seq.{take-append_seam}
use Rattle.httparse.specs.Grammar.{RequestHead, print_request, HasNoRequest}
use Rattle.reg_head.specs.Head.{HasHead, most_bytes}

pub past_limit : (buf more : List ℕ) (head : RequestHead) (rest : List ℕ) → length buf ≡ most_bytes → HasNoRequest buf → HasHead (buf ++ more) head rest → ⊥
past_limit buf more head rest full none h =
    let n = length (print_request head) in
    let within : n ≤ length buf = omega (arith, h.short) in
    let front : take n buf ≡ print_request head = sym (take-append-le n buf more within) ∙ ap (take n) h.reads.1 ∙ take-append_seam (print_request head) rest in
    none head (drop n buf) (h.reads.0, sym (take-append-drop n buf) ∙ ap (λ t. t ++ drop n buf) front)
