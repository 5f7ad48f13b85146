use Rattle.reg_pages.proofs.Pieces.{shown_as}
use Rattle.reg_site.specs.Registry.{links}
use Rattle.reg_site.proofs.Escaped.{links-then}
use Rattle.reg_site.proofs.registry.push_links.Goals as goal

pub returns : goal.returns
returns c =
    shown_as (links c.args.name.now) (links-then c.args.name.now) c.in_ok-push_all.ensures
