use Rattle.std.proofs.Common.{◌∙◌, inl}
use Rattle.std.specs.Io.KnownBytes.{Appends}
use Rattle.std.specs.Option.{option_copied}
use Rattle.reg_core.specs.Step.{answer_to, stamp_in}
use Rattle.reg_office.specs.Caller.{caller_of, step_by, token_digest}
use Rattle.reg_program.proofs.Asked.{is_printed, looks, printing_unprinted, refused_may, unprinted}
use Rattle.reg_program.proofs.Did.{ends_printing, stops, undone_by, write_prints}
use Rattle.reg_program.proofs.Results.{err_as}
use Rattle.reg_program.proofs.asking.ask_in.Goals as goal

pub returns-in_err-reply-clause-does : goal.returns-in_err-reply-clause-does
returns-in_err-reply-clause-does g c =
    let stopped = c.in_err-reply in
    stops g.K.Keeper.world g.K.Keeper.Holds g.K.Keeper.Sound g.K.Keeper.FAILS c.args.office.now
    c.handle.new.self _ _ _ stopped.field-0.0 c.from_residual.ensures.1
    stopped.ensures.premise stopped.ensures.fault (λ h. inl (stopped.ensures.kept h))

pub returns-in_err-text-clause-does : goal.returns-in_err-text-clause-does
returns-in_err-text-clause-does g c =
    let world = g.K.Keeper.world in
    let given = c.in_ok-reply.ensures in
    let stopped = c.in_err-text in
    let who = caller_of (option_copied c.args.question.now.token) in
    let by = stamp_in (world c.args.office.now) who c.args.moment in
    let a = answer_to token_digest (world c.args.office.now) who c.args.moment
    c.args.question.now.command in
    undone_by world g.K.Keeper.Holds g.K.Keeper.Sound g.K.Keeper.FAILS c.args.office.now
    c.handle.new.self _ _ _ stopped.field-0.0 c.from_residual-in_err-text.ensures.1 given.premise
    (refused_may g.K.Keeper.FAILS c.in_ok-reply.reply stopped.field-0.0 stopped.ensures.refused)
    (λ h. unprinted by (world c.args.office.now) (world c.handle.new.self) a c.in_ok-reply.reply
    stopped.field-0.0 (given.reply h) (given.world h) stopped.ensures.refused)

pub returns-in_err-text-clause-looks : goal.returns-in_err-text-clause-looks
returns-in_err-text-clause-looks g c =
    λ only h. c.in_ok-reply.ensures.world h
    ∙ looks (g.K.Keeper.world c.args.office.now) (option_copied c.args.question.now.token) c.args.moment
    c.args.question.now.command only

pub returns-clause-does : goal.returns-clause-does
returns-clause-does g c =
    let world = g.K.Keeper.world in
    let given = c.in_ok-reply.ensures in
    let step = step_by (world c.args.office.now) (option_copied c.args.question.now.token) c.args.moment
    c.args.question.now.command in
    let had = g.W.Write.contents c.args.output.now in
    let has = g.W.Write.contents c.print.new.output in
    ends_printing world g.K.Keeper.Holds g.K.Keeper.Sound g.K.Keeper.FAILS c.args.office.now
    c.handle.new.self _ _ c.print.result (Appends had has c.as_slice.result.now) c.print.ensures.ok
    (err_as c.print.result write_prints c.print.ensures.err) given.premise
    (λ h wrote. is_printed c.args.question.now.form had has step (world c.handle.new.self) c.in_ok-reply.reply
    c.as_slice.result.now (given.reply h) (given.world h) c.in_ok-text.ensures.accepted
    (c.as_slice.ensures.value ∙ c.in_ok-text.ensures.text) wrote)
    (λ h why of. printing_unprinted (world c.args.office.now) (world c.handle.new.self) step why
    (given.world h) of)

pub returns-clause-looks : goal.returns-clause-looks
returns-clause-looks g c =
    λ only h. c.in_ok-reply.ensures.world h
    ∙ looks (g.K.Keeper.world c.args.office.now) (option_copied c.args.question.now.token) c.args.moment
    c.args.question.now.command only
