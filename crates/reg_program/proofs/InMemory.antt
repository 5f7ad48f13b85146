-- Scripts that an office in memory answers.
use Rattle.std.proofs.Common.{◌≡◌, List, ℕ, false, Result, Ok, Err, inl}
use Rattle.std.specs.Prelude.{⊤, OnOk}
use Rattle.reg_core.specs.World.{empty_world}
use Rattle.reg_store.specs.Lists.{world_in}
use Rattle.reg_store.specs.declared.lists.ListKeeper.{ListKeeper}
use Rattle.reg_program.specs.Founding.{RunsAll}
use Rattle.reg_program.specs.Inputs.{AreKnown, token_in}
use Rattle.reg_program.specs.Performing.{RunsInMemory, Tries}
use Rattle.reg_program.specs.Tasks.{Streams}
use Rattle.reg_program.specs.declared.faults.Undone.{Undone}

-- Where it is done, an office that was empty was founded and answered the lines. No office in a file
-- was touched.
pub ran : (Untouched : Type 0) (word token : List ℕ) (io : Streams) (first : ListKeeper)
    (done : Result ⊤ Undone) → Untouched → AreKnown (token_in word) token
    → world_in first ≡ empty_world
    → OnOk done ((last : ListKeeper)
    × RunsAll world_in (λ _. ⊤) (λ _. ⊤) false first last token io.unread io.left
    io.had io.has)
    → Tries Untouched (λ (r : Result ⊤ Undone). Untouched × RunsInMemory word io) done
ran Untouched word token io first (Ok u) same said is_empty (last, runs) = (
  same,
  record {
    token = token;
    said = said;
    first = first;
    is_empty = is_empty;
    last = last;
    runs = runs;
  },
)
ran Untouched word token io first (Err why) same said is_empty runs = inl same
