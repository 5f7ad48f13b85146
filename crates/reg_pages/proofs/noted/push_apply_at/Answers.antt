use Rattle.std.proofs.Common.{◌<◌, length, rules}
use Rattle.reg_pages.proofs.Pieces.{joined, shown}
use Rattle.reg_pages.proofs.NotEmpty.{apply_at-some}
use Rattle.reg_pages.proofs.noted.push_apply_at.Goals as goal

pub returns : goal.returns
returns c =
    let some : 0 < length c.args.reference.now = search rules in
    rw (apply_at-some c.args.reference.now some)
    (shown (joined c.in_ok-push.ensures (joined c.in_ok-push_reference.ensures.bytes c.in_ok-push-2.ensures)))
