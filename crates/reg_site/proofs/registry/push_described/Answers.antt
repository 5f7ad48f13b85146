use Rattle.std.proofs.Common.{codes, refl}
use Rattle.std.specs.Option.{option_copied}
use Rattle.reg_pages.specs.Noted.{title_in, words_in}
use Rattle.reg_pages.proofs.Pieces.{framed, joined}
use Rattle.reg_site.specs.Registry.{title_below, words_below}
use Rattle.reg_site.proofs.registry.push_described.Goals as goal

pub returns : goal.returns
returns c =
    let note = option_copied c.args.note in
    joined c.in_ok-push_all.ensures
    (joined
    (framed (codes "<div class=\"note\"><strong>") (codes "</strong></div>") (title_in note) title_below
    (λ rest. refl) (λ b more rest. refl) (rw c.title_in-title.ensures at c.in_ok-push_framed.ensures)).bytes
    (joined
    (framed (codes "<div class=\"note\">") (codes "</div>") (words_in note) words_below (λ rest. refl)
    (λ b more rest. refl) (rw c.words_in.ensures at c.in_ok-push_framed-2.ensures)).bytes
    c.in_ok-push.ensures))
