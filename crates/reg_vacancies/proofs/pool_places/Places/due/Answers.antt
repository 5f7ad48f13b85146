use Rattle.std.proofs.Common.{List}
use Rattle.reg_blocks.specs.Block.{SizedPrefix}
use Rattle.reg_blocks.specs.Due.{block_due}
use Rattle.reg_blocks.proofs.TrialFindsTheBlockDue.{IsAnswer, IsAnswer-unique, block_due-IsAnswer}
use Rattle.reg_vacancies.specs.PoolPlaces.{FollowsGiven, IsFreeIn, pool_of}
use Rattle.reg_vacancies.proofs.Following.{due_followed}
use Rattle.reg_vacancies.proofs.SizeSteps.{least_is_due}
use Rattle.reg_vacancies.proofs.pool_places.Places.due.Goals as goal

pub returns-clause-least : goal.returns-clause-least
unfolding IsFreeIn
returns-clause-least c =
    let places = c.args.self.now in
    least_is_due places.large places.medium places.small c.args.size c.due_among.result
    c.runs.result.now c.runs.ensures.runs c.due_among.ensures

answer : (c : goal.After-due_among) (given : List SizedPrefix) → FollowsGiven c.args.self.now given
    → IsAnswer (pool_of c.args.self.now) given c.args.size c.due_among.result
answer c given follows =
    due_followed (IsFreeIn c.args.self.now) (pool_of c.args.self.now) given c.args.size
    c.due_among.result follows.free (returns-clause-least c)

pub returns-clause-due : goal.returns-clause-due
returns-clause-due c = λ given follows. (answer c given follows).due

pub returns-clause-none : goal.returns-clause-none
returns-clause-none c = λ given follows. (answer c given follows).none

pub returns-clause-trial : goal.returns-clause-trial
unfolding pool_of
returns-clause-trial c = λ given follows.
    let pool = pool_of c.args.self.now in
    IsAnswer-unique pool given c.args.size c.due_among.result (block_due pool given c.args.size)
    (answer c given follows)
    (block_due-IsAnswer pool given c.args.size c.args.self.now.pooled.pool.ascending)
