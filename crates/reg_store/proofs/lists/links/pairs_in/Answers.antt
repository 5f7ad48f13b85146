use Rattle.std.proofs.Common.{◌≡◌, ◌++◌, ap, sym, ◌∙◌, map, rules}
use Rattle.std.specs.BTreeMap.{IsOrdered}
use Rattle.std.specs.Map.Iter.{deref_pair}
use Rattle.std.proofs.lemmas.Map.Iter.{iter_end}
use Rattle.reg_maps.specs.Maps.{text_cmp}
use Rattle.reg_core.specs.Link.{link_row}
use Rattle.reg_store.proofs.WholeGroups.{all_groups, ordered-push, rows-push}
use Rattle.reg_store.proofs.lists.links.pairs_in.Goals as goal

pub loop-first-preserved : goal.loop-first-preserved
loop-first-preserved c =
    let done = c.loop-first.yielded in
    let first = c.in-Some.first.now in
    record {
      listed =
          c.in_ok-push_rows.ensures (λ second none. link_row (first, second))
          (λ second none row made. search rules)
          ∙ ap (λ rows. rows ++ map (λ r. link_row (first, r.0)) c.in-Some.group.now.entries)
          c.loop-first.invariant.listed
          ∙ sym (rows-push done (λ pair none. link_row pair) (c.in-Some.first, c.in-Some.group));
      ordered = ordered-push done _ c.loop-first.invariant.ordered c.len-group.ensures.ordered;
    }

pub returns : goal.returns
returns c =
    let done = c.loop-first.yielded in
    let all : map deref_pair done ≡ c.args.pairs.now.entries = search (rules, iter_end) in
    let order : IsOrdered text_cmp c.args.pairs.now = search rules in
    c.from_vec.ensures ∙ c.loop-first.invariant.listed
    ∙ ap (map (λ e. link_row e.0))
    (all_groups done c.args.pairs.now order all c.loop-first.invariant.ordered)
