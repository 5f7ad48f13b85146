use Rattle.reg_laws.proofs.JournalIsExact.{changes_signed, exact, stay}
use Rattle.reg_laws.proofs.journal_is_exact.Goals as goal

pub returns : goal.returns
returns c = record { exact = exact; stays = stay; signed = changes_signed }
