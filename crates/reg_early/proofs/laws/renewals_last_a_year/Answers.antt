use Rattle.reg_early.proofs.TermsInWords.{not_permanent, not_again, in_time, late, known_renewal}
use Rattle.reg_early.proofs.laws.renewals_last_a_year.Goals as goal

pub returns : goal.returns
returns c =
    record {
      permanent = not_permanent;
      again = not_again;
      in_time = in_time;
      late = late;
      known = known_renewal;
    }
