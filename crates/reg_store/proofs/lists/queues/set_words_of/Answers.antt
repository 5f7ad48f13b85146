use Rattle.std.proofs.Common.{◌≡◌, ◌&&◌, ◌∷◌, [], cond, ap, sym, ◌∙◌, map, rules}
use Rattle.std.specs.Prelude.{option_map}
use Rattle.std.specs.BTreeMap.{is_at, keys}
use Rattle.std.specs.FinMap.{get}
use Rattle.std.specs.Map.Iter.{deref}
use Rattle.std.proofs.lemmas.List.{map-append}
use Rattle.std.proofs.lemmas.Map.Iter.{iter_end}
use Rattle.reg_core.specs.World.{name_cmp}
use Rattle.reg_store.specs.Lists.Queues.{all_queues, with_word}
use Rattle.reg_store.proofs.QueueLaws.Words.{is_among, is_among-keys, one_more}
use Rattle.reg_store.proofs.lists.queues.set_words_of.Goals as goal

pub loop-expert-preserved : goal.loop-expert-preserved
loop-expert-preserved c e n =
    let old = all_queues c.args.queues.now in
    let row = get old (e, n) in
    let at = is_at (name_cmp c.args.name.now) n in
    ap (λ rows. get rows (e, n))
    (c.change_row.ensures (with_word c.args.word) (λ row left changed. search rules))
    ∙ one_more c.args.word c.args.name.now old (all_queues c.loop-expert.queues)
    (map deref c.loop-expert.yielded) c.in-Some.expert.now c.loop-expert.invariant e n
    ∙ ap (λ done. cond (is_among e done && at) (option_map (with_word c.args.word) row) row)
    (sym (map-append deref c.loop-expert.yielded (c.in-Some.expert ∷ [])))

pub returns : goal.returns
returns c e n =
    let row = get (all_queues c.args.queues.now) (e, n) in
    let at = is_at (name_cmp c.args.name.now) n in
    let all : map deref c.loop-expert.yielded ≡ keys c.args.panel.now = search (rules, iter_end) in
    c.loop-expert.invariant e n
    ∙ ap (λ b. cond (b && at) (option_map (with_word c.args.word) row) row)
    (ap (is_among e) all ∙ is_among-keys e c.args.panel.now.entries)
