use Rattle.std.proofs.Common.{FitsSigned, w64}
use Rattle.std.proofs.lemmas.Int.{to_z-of_z}
use Rattle.reg_program.proofs.opened.check_with.Goals as goal

pub returns : goal.returns
returns g c =
    let fits : FitsSigned w64 c.args.version = c.ranges.version in
    let does = simp to_z-of_z at c.check_in-done.ensures.does in
    record {
      moment = c.moment_now-moment.result;
      is_moment = c.moment_now-moment.ensures;
      does = rw (c.into_keeper.ensures, ← c.new-office.ensures) does;
      why = c.check_in-done.ensures.why;
    }
