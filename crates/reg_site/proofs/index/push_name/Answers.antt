use Rattle.std.proofs.Common.{codes, refl}
use Rattle.reg_pages.specs.Document.{link}
use Rattle.reg_pages.proofs.Pieces.{framed, joined, shown_as}
use Rattle.reg_site.specs.Index.{changed_part, page_place, title_part}
use Rattle.reg_site.proofs.Escaped.{page_link-then}
use Rattle.reg_site.proofs.index.push_name.Goals as goal

pub returns : goal.returns
returns c =
    let name = c.args.name.now in
    joined c.in_ok-push_all.ensures
    (joined
    (framed (codes "<div>") (codes "</div>") c.args.title.now title_part (λ rest. refl)
    (λ b more rest. refl) c.in_ok-push_framed.ensures).bytes
    (joined
    (shown_as (link (page_place name) name) (page_link-then name) c.in_ok-push_all-2.ensures).bytes
    (joined
    (framed (codes "<div class=\"note\">Last changed <time>") (codes "</time></div>")
    c.args.changed.now changed_part (λ rest. refl) (λ b more rest. refl)
    c.in_ok-push_framed-2.ensures).bytes
    c.in_ok-push.ensures)))
