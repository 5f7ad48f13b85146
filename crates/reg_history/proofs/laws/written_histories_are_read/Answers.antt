use Rattle.reg_history.proofs.Beginnings.{reads_back}
use Rattle.reg_history.proofs.laws.written_histories_are_read.Goals as goal

pub returns : goal.returns
returns c = λ records is e.
    reads_back c.read.result records c.args.text.now c.read.ensures.history c.read.ensures.wrong is e
