use Rattle.reg_opening.proofs.RowsDecide as lemma
use Rattle.reg_opening.proofs.laws.rows_decide.Goals as goal

pub returns : goal.returns
returns c = lemma.rows_decide
