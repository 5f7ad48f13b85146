use Rattle.reg_site.proofs.NotesAgree.{notes_on_nothing_are_hidden}
use Rattle.reg_site.proofs.laws.notes_on_nothing_are_hidden.Goals as goal

pub returns : goal.returns
returns c = notes_on_nothing_are_hidden
