use Rattle.reg_early.proofs.TermsInWords.{not_settled, settled, known_settlement}
use Rattle.reg_early.proofs.laws.settled_terms_are_for_good.Goals as goal

pub returns : goal.returns
returns c =
    record { permanent = not_settled; settled = settled; known = known_settlement }
