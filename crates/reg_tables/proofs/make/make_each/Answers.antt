use Rattle.std.proofs.Common.{get_or, subst, ◌∙◌}
use Rattle.sqlite.specs.Held.{state}
use Rattle.reg_tables.proofs.Library.GrowingSchemas.{gains_none}
use Rattle.reg_tables.proofs.MakeLemmas.{GoesOn, goes_more, none_made}
use Rattle.reg_tables.proofs.TextSlices.{blank, first_and_rest, none_left, rest, said}
use Rattle.reg_tables.proofs.make.make_each.Goals as goal

pub texts-preserved : goal.texts-preserved
texts-preserved g c =
    let old = state g.S.Store c.args.tx.now.conn.now in
    let mid = state g.S.Store c.texts.tx.conn.now in
    let new = state g.S.Store c.make.new.tx.conn.now in
    let texts = c.texts.texts.now in
    let all = said c.args.texts.now in
    let on = subst (λ left. GoesOn all left old mid)
    (first_and_rest texts c.in-len1-up.len_at_least) c.texts.invariant.on in
    let made = c.in_ok-make.ensures in
    record {
      same = made.same_reference ∙ c.texts.invariant.same;
      on = goes_more all (said (rest texts)) (get_or texts 0 blank).now old mid new made.inside on
          made.made made.gained;
    }

pub returns-clause-made : goal.returns-clause-made
returns-clause-made g c clean =
    let on = subst (λ left. GoesOn (said c.args.texts.now) left
    (state g.S.Store c.args.tx.now.conn.now) (state g.S.Store c.texts.tx.conn.now))
    (none_left c.texts.texts.now c.in_default.len_below) c.texts.invariant.on in
    on.made clean _ (none_made _)

pub returns-clause-gained : goal.returns-clause-gained
returns-clause-gained g c clean =
    let on = subst (λ left. GoesOn (said c.args.texts.now) left
    (state g.S.Store c.args.tx.now.conn.now) (state g.S.Store c.texts.tx.conn.now))
    (none_left c.texts.texts.now c.in_default.len_below) c.texts.invariant.on in
    on.gained clean _ (gains_none _)
