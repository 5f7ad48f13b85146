use Rattle.std.proofs.Common.{map}
use Rattle.std.specs.Map.Iter.{deref}
use Rattle.reg_store.specs.Lists.Queues.{AreWorded, all_queues}
use Rattle.reg_store.proofs.QueueLaws.Words.{is_among}
use Rattle.reg_store.proofs.lists.queues.set_words_of.Given as goal

abbrev pub invariant-loop-expert : goal.invariant-loop-expert
invariant-loop-expert l =
    AreWorded (λ e. is_among e (map deref l.yielded)) l.name l.word (all_queues l.fn.queues)
    (all_queues l.queues)
