use Rattle.reg_core.proofs.WordsReadBack.{act_kinds_read, ask_kinds_read, kinds_read, states_read, verdicts_read}
use Rattle.reg_core.proofs.laws.words_read_back.Goals as goal

pub returns : goal.returns
returns c =
    record {
      verdicts = verdicts_read;
      kinds = kinds_read;
      asks = ask_kinds_read;
      acts = act_kinds_read;
      states = states_read;
    }
