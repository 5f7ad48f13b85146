-- What all the bytes of a reader ask.
use Rattle.std.proofs.Common.{◌≡◌, ℕ, List, ◌++◌, Option, None, Some, Result, append-nil, ap, sym, ◌∙◌, subst, inl, inr, ◌⊎◌}
use Rattle.std.specs.Io.KnownBytes.{Consumes, IsAtEnd}
use Rattle.reg_head.specs.Reading.{AskByAllTheirBytes}
use Rattle.reg_head.specs.Request.{Request, BytesAsk, IsSettled}
use Rattle.reg_head.specs.declared.malformed.Malformed.{Malformed}

asks_all : (all : List ℕ) (left : Option (List ℕ)) (asked : Result Request Malformed)
    (bytes : List ℕ) → Consumes (Some all) left bytes
    → (IsSettled bytes asked ⊎ (IsAtEnd left × BytesAsk bytes asked)) → BytesAsk all asked
asks_all all None asked bytes read h = absurd read
asks_all all (Some rest) asked bytes read (inl settled) =
    subst (λ (t : List ℕ). BytesAsk t asked) (sym read) (settled rest)
asks_all all (Some rest) asked bytes read (inr (end, asks)) =
    let same : bytes ≡ all = sym (read ∙ ap (λ t. bytes ++ t) end ∙ append-nil bytes) in
    subst (λ (t : List ℕ). BytesAsk t asked) same asks

pub by_all_bytes : AskByAllTheirBytes
by_all_bytes all left asked h = asks_all all left asked h.bytes h.is_read h.asks
