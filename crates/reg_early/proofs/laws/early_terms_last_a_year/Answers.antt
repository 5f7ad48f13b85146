use Rattle.std.proofs.Common.{refl}
use Rattle.reg_early.specs.Calendar.{year_after}
use Rattle.reg_early.proofs.YearAfter.{IsYearAfter-year_after}
use Rattle.reg_early.proofs.laws.early_terms_last_a_year.Goals as goal

pub returns : goal.returns
returns c =
    record {
      permanent = λ first. ((refl, refl, refl), refl);
      early = λ first h. (
        (refl, refl, refl),
        year_after first,
        IsYearAfter-year_after first h,
        refl,
      );
    }
