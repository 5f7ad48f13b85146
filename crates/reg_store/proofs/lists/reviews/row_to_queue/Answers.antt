use Rattle.std.proofs.Common.{ap, ◌∙◌}
use Rattle.std.specs.Prelude.{Some, option_map}
use Rattle.std.specs.FinMap.{get}
use Rattle.reg_maps.specs.Maps.{text_cmp}
use Rattle.reg_maps.specs.Groups.{pair_map}
use Rattle.reg_core.specs.Queue.{queue_row}
use Rattle.reg_core.specs.View.{as_queued}
use Rattle.reg_core.specs.World.{name_cmp}
use Rattle.reg_store.proofs.lists.reviews.row_to_queue.Goals as goal

pub returns-in_ok-advice_in-in-Some : goal.returns-in_ok-advice_in-in-Some
returns-in_ok-advice_in-in-Some c =
    let name = c.args.name.now in
    let advice = get (pair_map name_cmp text_cmp c.args.opinions.now) (name, c.args.expert.now) in
    (λ i. Some (record {
      account = name.0;
      reference = name.1;
      ask = c.in_ok-copy-in-Some.ensures.equal i;
      word = c.word.ensures i;
      advice = c.in_ok-advice_in-in-Some.ensures i;
    }))
    ∙ ap (option_map (λ case. queue_row name (as_queued advice case))) c.in-Some.ensures
