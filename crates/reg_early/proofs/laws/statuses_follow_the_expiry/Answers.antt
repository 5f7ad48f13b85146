use Rattle.reg_early.proofs.TermsInWords.{assigned, temporary, held, expired}
use Rattle.reg_early.proofs.laws.statuses_follow_the_expiry.Goals as goal

pub returns : goal.returns
returns c =
    record { assigned = assigned; temporary = temporary; held = held; expired = expired }
