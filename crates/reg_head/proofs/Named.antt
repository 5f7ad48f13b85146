-- One header more.
use Rattle.std.proofs.Common.{◌≡◌, ℕ, List, [], ◌∷◌, ◌++◌, Bool, true, false, cond, length, map, sym, ap, ◌∙◌, refl, subst, take, get_or, ◌+◌, ◌<◌}
use Rattle.std.proofs.lemmas.List.{take_more, map-append}
use Rattle.httparse.specs.declared.spans.HeaderSpan.{HeaderSpan}
use Rattle.std.specs.Str.{str_eq_ignore_ascii_case}
use Rattle.httparse.specs.Spans.{header_bytes}
use Rattle.reg_head.specs.Head.{named}
use Rattle.reg_head.specs.Found.{IsFieldFound}
use Rattle.reg_head.specs.declared.fields.Found.{Found}

cond-append : (b : Bool) (x : List ℕ) (xs ys : List (List ℕ)) → cond b (x ∷ (xs ++ ys)) (xs ++ ys) ≡ cond b (x ∷ xs) xs ++ ys
cond-append true x xs ys = refl
cond-append false x xs ys = refl

pub named-append : (name : List ℕ) (ps qs : List (List ℕ × List ℕ)) → named name (ps ++ qs) ≡ named name ps ++ named name qs
named-append name [] qs = refl
named-append name (p ∷ ps) qs = rw (named-append name ps qs) (cond-append (str_eq_ignore_ascii_case p.0 name) p.1 (named name ps) (named name qs))

pub next_named : (name buf : List ℕ) (hs : List HeaderSpan) (i : ℕ) (d : HeaderSpan) (f : Found) → i < length hs
    → IsFieldFound buf (named name (map (header_bytes buf) (take i hs)) ++ named name (header_bytes buf (get_or hs i d) ∷ [])) f
    → IsFieldFound buf (named name (map (header_bytes buf) (take (i + 1) hs))) f
next_named name buf hs i d f h e =
    let P = λ (t : List (List ℕ)). IsFieldFound buf t f in
    let more : named name (map (header_bytes buf) (take (i + 1) hs)) ≡ named name (map (header_bytes buf) (take i hs)) ++ named name (header_bytes buf (get_or hs i d) ∷ []) =
    ap (λ t. named name (map (header_bytes buf) t)) (take_more hs i d h) ∙ ap (named name) (map-append (header_bytes buf) (take i hs) (get_or hs i d ∷ [])) ∙ named-append name (map (header_bytes buf) (take i hs)) (header_bytes buf (get_or hs i d) ∷ []) in
    subst P (sym more) e
