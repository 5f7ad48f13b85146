-- Bytes ask one thing, as they begin with one head.
use Rattle.std.proofs.Common.{sym, ap, ◌∙◌, inl, inr}
use Rattle.httparse.proofs.GrammarLemmas.{request_unique}
use Rattle.reg_head.specs.Request.{AskOneThing, request_of}

pub one_thing : AskOneThing
one_thing bytes asked other (inl (head, rest, has, is)) (inl (head', rest', has', is')) =
    let same = request_unique bytes head head' rest rest' has.reads has'.reads in
    is ∙ ap (λ h. request_of h rest) same.0 ∙ ap (request_of head') same.1 ∙ sym is'
one_thing bytes asked other (inl (head, rest, has, is)) (inr (none, is')) = absurd (none head rest has)
one_thing bytes asked other (inr (none, is)) (inl (head, rest, has, is')) = absurd (none head rest has)
one_thing bytes asked other (inr (none, is)) (inr (none', is')) = is ∙ sym is'
