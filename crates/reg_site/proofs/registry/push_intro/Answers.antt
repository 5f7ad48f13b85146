use Rattle.std.proofs.Common.{codes, refl}
use Rattle.reg_pages.proofs.Pieces.{framed, joined, shown}
use Rattle.reg_site.specs.Registry.{last_changed}
use Rattle.reg_site.proofs.registry.push_intro.Goals as goal

pub returns : goal.returns
returns c =
    shown
    (joined (rw c.note_on.ensures at c.in_ok-push_noted.ensures).bytes
    (joined c.in_ok-push_links.ensures.bytes
    (joined c.in_ok-push_apply.ensures.bytes
    (framed (codes "<p>Last changed <time>") (codes "</time></p>") c.args.changed.now last_changed
    (λ rest. refl) (λ b more rest. refl) c.in_ok-push_framed.ensures).bytes)))
