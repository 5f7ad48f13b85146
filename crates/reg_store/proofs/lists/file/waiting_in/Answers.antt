use Rattle.std.proofs.Common.{◌≡◌, ◌++◌, ap, sym, ◌∙◌, map, rules}
use Rattle.std.specs.Prelude.{filter_map}
use Rattle.std.specs.BTreeMap.{IsOrdered}
use Rattle.std.specs.Map.Iter.{deref_pair}
use Rattle.std.proofs.lemmas.Map.Iter.{iter_end}
use Rattle.reg_maps.specs.Maps.{text_cmp}
use Rattle.reg_core.specs.World.{World}
use Rattle.reg_store.specs.Lists.File.{advice_world, review_world}
use Rattle.reg_store.proofs.WaitingFiles.{waiting_file, files_of, files_of-push, waiting_files-entries}
use Rattle.reg_store.proofs.WholeGroups.{all_groups, ordered-push}
use Rattle.reg_store.proofs.lists.file.waiting_in.Goals as goal

pub loop-account-preserved : goal.loop-account-preserved
loop-account-preserved c =
    let w : World = advice_world c.args.panels.now c.args.opinions.now in
    let done = c.loop-account.yielded in
    let account = c.in-Some.account.now in
    record {
      listed =
          c.in_ok-push_some.ensures (λ reference case. waiting_file w (account, reference) case)
          (λ reference case row made. search rules)
          ∙ ap (λ files. files
          ++ filter_map (λ r. waiting_file w (account, r.0) r.1) c.in-Some.group.now.entries)
          c.loop-account.invariant.listed
          ∙ sym (files_of-push w done (c.in-Some.account, c.in-Some.group));
      ordered = ordered-push done _ c.loop-account.invariant.ordered c.len-group.ensures.ordered;
    }

pub returns : goal.returns
returns c =
    let w : World = review_world c.args.requests.now c.args.panels.now c.args.opinions.now in
    let done = c.loop-account.yielded in
    let all : map deref_pair done ≡ c.args.requests.now.entries = search (rules, iter_end) in
    let order : IsOrdered text_cmp c.args.requests.now = search rules in
    c.from_vec.ensures ∙ c.loop-account.invariant.listed
    ∙ ap (files_of w) (all_groups done c.args.requests.now order all c.loop-account.invariant.ordered)
    ∙ sym (waiting_files-entries w)
