use Rattle.reg_files.proofs.Told.{tells_less}
use Rattle.reg_files.proofs.journal.tell.Goals as goal

pub returns : goal.returns
returns g c =
    tells_less _ _ _ _ _
    (λ acts is. record {
      seen = c.requires;
      read = record c.args.snapshot { look = c.tell_seen-told.new.look };
      are = is;
    })
    c.tell_seen-told.result c.tell_seen-told.ensures
