-- The reader of `reg_blocks` gives exactly the size whose word it is, as does that of the table.
use Rattle.reg_records.specs.Words.{read_size}
use Rattle.reg_records.proofs.WordsReadBack.{sizes_read, same_answer}
use Rattle.reg_records.proofs.word.SizeWorded.read_word.Goals as goal

pub returns : goal.returns
returns c =
    let word = c.args.word.now in
    same_answer c.read.result (read_size word)
    (λ size h. (sizes_read size word).1 ((c.read.ensures size).0 h))
    (λ size h. (c.read.ensures size).1 ((sizes_read size word).0 h))
