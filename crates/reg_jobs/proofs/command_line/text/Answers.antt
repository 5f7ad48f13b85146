use Rattle.std.proofs.Common.{rules, ◌∙◌, true≢false, sym}
use Rattle.clap.specs.Words.{found_of}
use Rattle.clap.proofs.WalkLemmas.{first_value-rows}
use Rattle.reg_jobs.proofs.ReadNumbers.{text_given}
use Rattle.reg_jobs.proofs.command_line.text.Goals as goal

pub returns-clause-said : goal.returns-clause-said
returns-clause-said c =
    let read = first_value-rows (found_of c.args.matches.now) c.args.id.now in
    search rules

pub returns-in_err-text-clause-given : goal.returns-in_err-text-clause-given
returns-in_err-text-clause-given c has =
    let there = text_given (found_of c.args.matches.now) c.args.id.now c.get_str.result c.get_str.ensures has in
    absurd (true≢false (sym (c.in_err-text.ensures.variant ∙ there)))
