use Rattle.std.proofs.Common.{◌≡◌, ◌++◌, ap, sym, ◌∙◌, map, rules}
use Rattle.std.specs.BTreeMap.{IsOrdered}
use Rattle.std.specs.Map.Iter.{deref_pair}
use Rattle.std.proofs.lemmas.Map.Iter.{iter_end}
use Rattle.reg_maps.specs.Maps.{text_cmp}
use Rattle.reg_core.specs.Request.{request_row}
use Rattle.reg_store.proofs.WholeGroups.{all_groups, ordered-push, rows-push}
use Rattle.reg_store.proofs.lists.requests.all_rows.Goals as goal

pub loop-account-preserved : goal.loop-account-preserved
loop-account-preserved c =
    let done = c.loop-account.yielded in
    let account = c.in-Some.account.now in
    record {
      listed =
          c.in_ok-push_rows.ensures (λ reference case. request_row (account, reference) case)
          (λ reference case row made. search rules)
          ∙ ap (λ rows. rows
          ++ map (λ r. request_row (account, r.0) r.1) c.in-Some.group.now.entries)
          c.loop-account.invariant.listed
          ∙ sym (rows-push done (λ name case. request_row name case)
          (c.in-Some.account, c.in-Some.group));
      ordered = ordered-push done _ c.loop-account.invariant.ordered c.len-group.ensures.ordered;
    }

pub returns : goal.returns
returns c =
    let done = c.loop-account.yielded in
    let all : map deref_pair done ≡ c.args.requests.now.entries = search (rules, iter_end) in
    let order : IsOrdered text_cmp c.args.requests.now = search rules in
    c.from_vec.ensures ∙ c.loop-account.invariant.listed
    ∙ ap (map (λ e. request_row e.0 e.1))
    (all_groups done c.args.requests.now order all c.loop-account.invariant.ordered)
