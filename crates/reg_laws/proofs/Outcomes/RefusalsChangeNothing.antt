-- A refusal changes nothing.
use Rattle.std.proofs.Common.{◌≡◌, List, ℕ, refl, Ok, Err}
use Rattle.reg_core.proofs.Common.{Answer, reply_of, change_of, answer_to, World, recorded_if, stamp_in}
use Rattle.reg_laws.proofs.Types.{Refusal, Stamp}
use Rattle.reg_core.specs.Laws.{RefusalsChangeNothing}
use Rattle.reg_core.specs.declared.reply.Reply.TheVariants.{Refused}

-- no accepted answer is a refusal, and a refusal has no change
leaves : (stamp : Stamp) (w : World) (a : Answer) (refusal : Refusal)
    → reply_of a ≡ Refused refusal → recorded_if stamp w (change_of a) ≡ w
leaves stamp w (Ok outcome) refusal is = absurd (cc)
leaves stamp w (Err reason) refusal is = refl

pub refusals_leave : (digest_of : List ℕ → List ℕ) → RefusalsChangeNothing digest_of
refusals_leave digest_of w caller moment command =
    leaves (stamp_in w caller moment) w (answer_to digest_of w caller moment command)
