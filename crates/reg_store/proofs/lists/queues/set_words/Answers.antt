use Rattle.std.proofs.Common.{◌&&◌, cond, ap, ◌∙◌}
use Rattle.std.specs.Prelude.{is_some, option_map}
use Rattle.std.specs.BTreeMap.{is_at}
use Rattle.std.specs.FinMap.{get}
use Rattle.reg_core.specs.World.{name_cmp}
use Rattle.reg_store.specs.Lists.Queues.{all_queues, with_word}
use Rattle.reg_store.proofs.lists.queues.set_words.Goals as goal

pub returns-in-Some : goal.returns-in-Some
returns-in-Some c e n =
    let old = get (all_queues c.args.queues.now) (e, n) in
    let at = is_at (name_cmp c.args.name.now) n in
    c.set_words_of.ensures e n
    ∙ ap (λ row. cond (is_some row && at) (option_map (with_word c.args.word) old) old)
    (c.in-Some.ensures.row e)

pub returns-in_default : goal.returns-in_default
returns-in_default c e n =
    let old = get (all_queues c.args.queues.now) (e, n) in
    let at = is_at (name_cmp c.args.name.now) n in
    ap (λ row. cond (is_some row && at) (option_map (with_word c.args.word) old) old)
    (c.in_default.ensures.row e)
