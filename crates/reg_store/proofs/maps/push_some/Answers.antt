use Rattle.std.proofs.Common.{◌≡◌, ◌++◌, List, [], ◌∷◌, ap, sym, ◌∙◌, append_assoc, map, rules}
use Rattle.std.specs.Prelude.{Option, Some, None, filter_map}
use Rattle.std.specs.Borrow.{Bor}
use Rattle.std.specs.List.{cons_option}
use Rattle.std.specs.Map.Iter.{deref_pair}
use Rattle.std.proofs.lemmas.List.{append-nil, map-append}
use Rattle.std.proofs.lemmas.List.Elements.{filter_map-append}
use Rattle.reg_store.proofs.maps.push_some.Goals as goal

-- what is made of one row more, if anything
made-push : {K V T : Type 0} (f : K → V → Option T) (old made : List T)
    (done : List (Bor K × Bor V)) (next : Bor K × Bor V) (one : Option T)
    → made ≡ old ++ filter_map (λ e. f e.0 e.1) (map deref_pair done) → one ≡ f next.0.now next.1.now
    → made ++ cons_option one []
    ≡ old ++ filter_map (λ e. f e.0 e.1) (map deref_pair (done ++ next ∷ []))
made-push {K = K} {V = V} {T = T} f old made done next one so_far is =
    let h : K × V → Option T = λ e. f e.0 e.1 in
    let row : K × V = deref_pair next in
    ap (λ ys. ys ++ cons_option one []) so_far
    ∙ ap (λ o. (old ++ filter_map h (map deref_pair done)) ++ cons_option o []) is
    ∙ append_assoc old (filter_map h (map deref_pair done)) (cons_option (h row) [])
    ∙ ap (λ ys. old ++ ys) (sym (filter_map-append h (map deref_pair done) (row ∷ [])))
    ∙ ap (λ es. old ++ filter_map h es) (sym (map-append deref_pair done (next ∷ [])))

pub loop-key-preserved-in-Continue-branch-3 : goal.loop-key-preserved-in-Continue-branch-3
loop-key-preserved-in-Continue-branch-3 g c = λ f computes.
    let pushed : c.push.new.self.items ≡ c.loop-key.made.items ++ c.in-Some-2.one ∷ [] =
    search rules in
    pushed
    ∙ made-push f c.args.made.now.items c.loop-key.made.items c.loop-key.yielded
    (c.in-Some.key, c.in-Some.row) (Some c.in-Some-2.one) (c.loop-key.invariant f computes)
    (sym c.in-Some-2.is
    ∙ computes c.in-Some.key c.in-Some.row c.in_ok-one.field-0 c.in_ok-one.ensures)

pub loop-key-preserved : goal.loop-key-preserved
loop-key-preserved g c = λ f computes.
    sym (append-nil c.loop-key.made.items)
    ∙ made-push f c.args.made.now.items c.loop-key.made.items c.loop-key.yielded
    (c.in-Some.key, c.in-Some.row) None (c.loop-key.invariant f computes)
    (sym c.in_default.is
    ∙ computes c.in-Some.key c.in-Some.row c.in_ok-one.field-0 c.in_ok-one.ensures)
