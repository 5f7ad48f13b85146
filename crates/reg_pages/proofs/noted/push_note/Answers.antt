use Rattle.std.proofs.Common.{codes, refl}
use Rattle.reg_pages.specs.Noted.{title_shown}
use Rattle.reg_pages.proofs.Pieces.{framed, joined, shown}
use Rattle.reg_pages.proofs.noted.push_note.Goals as goal

pub returns : goal.returns
returns c =
    shown
    (joined c.in_ok-push.ensures
    (joined
    (framed (codes "<strong>") (codes "</strong> ") c.args.note.now.title title_shown (λ rest. refl)
    (λ b more rest. refl) (rw c.as_str.ensures at c.in_ok-push_framed.ensures)).bytes
    (joined (rw c.as_str-2.ensures at c.in_ok-push_reference.ensures).bytes
    (rw c.as_str-3.ensures at c.in_ok-push_all.ensures))))
