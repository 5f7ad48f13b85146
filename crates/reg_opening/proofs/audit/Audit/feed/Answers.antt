use Rattle.reg_opening.proofs.FedAudits.{feeds_error, feeds_fit, feeds_misfit}
use Rattle.reg_opening.proofs.audit.Audit.feed.Goals as goal

pub returns-then-not-accepts-clause-feeds : goal.returns-then-not-accepts-clause-feeds
returns-then-not-accepts-clause-feeds g c =
    feeds_misfit c.args.self.now c.args.row c.accepts.result c.accepts.ensures.world
    c.if-not-accepts.true

pub returns-in_err-keep-clause-feeds : goal.returns-in_err-keep-clause-feeds
returns-in_err-keep-clause-feeds g c =
    feeds_error c.args.self.now c.args.row c.keep.new.self c.from_residual.result
    c.from_residual.ensures.0 c.in_err-keep.ensures.err c.in_err-keep.ensures.same

pub returns-clause-feeds : goal.returns-clause-feeds
returns-clause-feeds g c =
    feeds_fit c.args.self.now c.args.row c.accepts.result c.accepts.ensures.world
    c.keep.new.self c.if-not-accepts.false (c.accepts.ensures.so_far c.if-not-accepts.false)
    c.in_ok-keep.ensures.ok c.in_ok-keep.ensures.same
    (c.in_ok-keep.ensures.free (c.accepts.ensures.pool c.if-not-accepts.false))
