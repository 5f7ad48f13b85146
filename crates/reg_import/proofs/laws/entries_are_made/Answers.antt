use Rattle.reg_import.proofs.Made.{entries_made}
use Rattle.reg_import.proofs.laws.entries_are_made.Goals as goal

pub returns : goal.returns
returns c digest_of = entries_made digest_of
