use Rattle.reg_parse.proofs.FormedCommands.{asked-formed}
use Rattle.reg_parse.proofs.laws.commands_have_form.Goals as goal

pub returns : goal.returns
returns c = asked-formed
