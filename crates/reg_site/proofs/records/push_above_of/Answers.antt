use Rattle.std.proofs.Common.{codes, refl}
use Rattle.reg_pages.proofs.Pieces.{framed, joined}
use Rattle.reg_site.specs.Records.{updated}
use Rattle.reg_site.proofs.records.push_above_of.Goals as goal

pub returns : goal.returns
returns c =
    joined c.in_ok-push_title.ensures
    (joined
    (framed (codes "<updated>") (codes "</updated>\n") c.args.day.now updated (λ rest. refl)
    (λ b more rest. refl) c.in_ok-push_framed.ensures).bytes
    c.in_ok-push_ranges.ensures.bytes)
