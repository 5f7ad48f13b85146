use Rattle.std.proofs.Common.{rules}
use Rattle.clap.specs.Words.{found_of}
use Rattle.clap.proofs.WalkLemmas.{first_value-rows}
use Rattle.reg_jobs.proofs.command_line.is_flagged.Goals as goal

pub returns-in-None : goal.returns-in-None
returns-in-None c =
    let read = first_value-rows (found_of c.args.matches.now) c.args.id.now in
    search rules

pub returns-in-Some : goal.returns-in-Some
returns-in-Some c =
    let read = first_value-rows (found_of c.args.matches.now) c.args.id.now in
    search rules
