use Rattle.std.proofs.Common.{arith, rules, ◌≡◌, IfOk, Some}
use Rattle.clap.specs.Words.{found_of}
use Rattle.reg_jobs.proofs.ReadNumbers.{number_given, number_read, number_returned}
use Rattle.reg_jobs.proofs.command_line.days.Goals as goal

pub returns-clause-said : goal.returns-clause-said
returns-clause-said c =
    let given : IfOk c.ok_or.result (λ n. c.get_one.result ≡ Some n) = search rules in
    number_read 32 (found_of c.args.matches.now) _ c.get_one.result c.ok_or.result c.get_one.ensures.none c.get_one.ensures.value given

pub returns-clause-given : goal.returns-clause-given
returns-clause-given c has =
    let number = number_given 32 0 36500 (found_of c.args.matches.now) _ c.get_one.result (omega arith) c.get_one.ensures.value has in
    number_returned c.ok_or.result c.get_one.result _ _ _ c.ok_or.ensures.value (number.0, number.1, number.2.1)
