use Rattle.std.proofs.Common.{rules, codes, inl, inr}
use Rattle.clap.specs.Words.{found_of}
use Rattle.clap.proofs.WalkLemmas.{first_value-rows}
use Rattle.reg_jobs.proofs.command_line.connections.Goals as goal

pub returns-in-None-clause-said : goal.returns-in-None-clause-said
returns-in-None-clause-said c =
    let read = first_value-rows (found_of c.args.matches.now) (codes "connections") in
    search rules

pub returns-in-Some-clause-given : goal.returns-in-Some-clause-given
returns-in-Some-clause-given c (inl none) =
    let read = first_value-rows (found_of c.args.matches.now) (codes "connections") in
    let said = c.in-Some.ensures in
    absurd (cc)
returns-in-Some-clause-given c (inr number) = c.said_connections.ensures.given number
