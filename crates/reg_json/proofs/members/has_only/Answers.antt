use Rattle.std.proofs.Common.{◌∙◌, ap}
use Rattle.reg_json.specs.Members.{is_among}
use Rattle.reg_json.proofs.Objects.{all_among-members_view}
use Rattle.reg_json.proofs.members.has_only.Goals as goal

pub returns-in-Some : goal.returns-in-Some
returns-in-Some c =
    c.are_among.ensures ∙ all_among-members_view c.args.items.now c.in-Some.members.now.entries
    ∙ ap (is_among c.args.items.now) c.in-Some.ensures
