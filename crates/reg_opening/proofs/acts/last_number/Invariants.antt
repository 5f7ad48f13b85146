use Rattle.std.proofs.Common.{◌≡◌, ◌<◌, ◌^◌, length}
use Rattle.reg_opening.specs.Acts.{last_after}
use Rattle.reg_opening.proofs.acts.last_number.Given as goal

abbrev pub invariant-acts : goal.invariant-acts
invariant-acts l =
    record {
      fits : l.last < 2 ^ 32;
      after : last_after l.last l.rows ≡ last_after 0 l.fn.rows;
    }

abbrev pub decreases-acts : goal.decreases-acts
decreases-acts l = length l.rows
