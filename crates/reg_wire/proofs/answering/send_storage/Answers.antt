use Rattle.std.proofs.Common.{sym}
use Rattle.reg_wire.proofs.StorageText.{storage_is, storage_sent}
use Rattle.reg_wire.proofs.answering.send_storage.Goals as goal

pub returns-in-Ok-clause-ok : goal.returns-in-Ok-clause-ok
returns-in-Ok-clause-ok g c = (storage_sent, rw (sym storage_is) c.in-Ok.ensures.ok)

pub returns-in-Err-clause-err : goal.returns-in-Err-clause-err
returns-in-Err-clause-err g c = rw (sym storage_is) c.in-Err.ensures.err
