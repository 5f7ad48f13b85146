use Rattle.reg_parse.proofs.FormedCommands.{command_of-formed}
use Rattle.reg_parse.proofs.command.read_command.Goals as goal

pub returns-in-Some-operation-clause-form : goal.returns-in-Some-operation-clause-form
returns-in-Some-operation-clause-form c =
    command_of-formed c.in-Some-operation.operation _ _ _ c.command_of.ensures
