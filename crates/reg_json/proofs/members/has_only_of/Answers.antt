use Rattle.std.proofs.Common.{◌∙◌, ◌++◌, ap}
use Rattle.reg_json.specs.Members.{is_among}
use Rattle.reg_json.proofs.Objects.{all_among-members_view}
use Rattle.reg_json.proofs.members.has_only_of.Goals as goal

pub returns-in-Some : goal.returns-in-Some
returns-in-Some c =
    let items = c.args.these.now ++ c.args.those.now in
    c.are_of.ensures ∙ all_among-members_view items c.in-Some.members.now.entries
    ∙ ap (is_among items) c.in-Some.ensures
