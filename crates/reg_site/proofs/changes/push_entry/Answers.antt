use Rattle.std.proofs.Common.{[], codes, refl}
use Rattle.reg_pages.proofs.Pieces.{framed, joined, shown}
use Rattle.reg_site.specs.Changes.{register_part}
use Rattle.reg_site.proofs.changes.push_entry.Goals as goal

pub returns : goal.returns
returns c =
    shown
    (joined c.in_ok-push.ensures
    (joined
    (framed [] (codes " ") c.args.change.now.register.now register_part (λ rest. refl)
    (λ b more rest. refl) c.in_ok-push_framed.ensures).bytes
    (joined c.in_ok-push_all.ensures
    (joined c.in_ok-push_place.ensures c.in_ok-push_all-2.ensures))))
