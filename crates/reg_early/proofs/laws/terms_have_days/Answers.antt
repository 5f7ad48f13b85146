use Rattle.std.proofs.Common.{rules}
use Rattle.reg_early.proofs.TermsHaveDays.{HasDays-renewed_term}
use Rattle.reg_early.proofs.YearAfter.{IsDay-year_after}
use Rattle.reg_early.proofs.laws.terms_have_days.Goals as goal

pub returns : goal.returns
returns c =
    record {
      permanent = λ first h. (h, search rules);
      early = λ first h. (h, IsDay-year_after first h);
      renewed = HasDays-renewed_term;
      settled = λ term h. (h.0, search rules);
      held = λ term held h. h;
    }
