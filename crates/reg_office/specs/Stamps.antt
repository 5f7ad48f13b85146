-- When a job does something that needs no token.
use Rattle.std.specs.Prelude.{ℕ}
use Rattle.reg_maps.specs.Maps.{only_if}
use Rattle.reg_early.specs.Moment.{is_in_clock}
use Rattle.reg_core.specs.Journal.{stamp_of_job}
use Rattle.reg_core.specs.declared.journal.Stamp.{Stamp}

-- at a moment, where it is one of the years 2000 to 2999
abbrev pub job_stamp : ℕ → Stamp
job_stamp moment = stamp_of_job (only_if (is_in_clock moment) moment)
