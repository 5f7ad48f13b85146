-- Requests that wait, with the numbers of their arrivals.
use Rattle.reg_core.specs.Arrivals.{arrival_number}
use Rattle.reg_core.specs.File.{name_of}
use Rattle.reg_core.specs.Times.{last_moment, submits}
use Rattle.reg_core.specs.World.{World}
use Rattle.reg_core.specs.declared.case_file.CaseFile.{CaseFile}
use Rattle.reg_registers.specs.declared.arrivals.Arrived.{Arrived}

abbrev pub arrived_in : World → CaseFile → Arrived
arrived_in w file = record {
  number = arrival_number w.journal (name_of file);
  waiting = record { submitted = last_moment (submits (name_of file)) w.journal; file = file };
}
