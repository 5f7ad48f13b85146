-- The acts that are kept, the latest last.
use Rattle.std.specs.Global.{Vec}
use Rattle.std.specs.Prelude.{List, []}
use Rattle.reg_core.specs.Journal.{with_acts}
use Rattle.reg_core.specs.declared.journal.Act.{Act}

-- as a journal, the latest first
abbrev pub journal_of : List Act → List Act
journal_of acts = with_acts acts []

abbrev pub journal_held : Vec Act → List Act
journal_held acts = journal_of acts.items
