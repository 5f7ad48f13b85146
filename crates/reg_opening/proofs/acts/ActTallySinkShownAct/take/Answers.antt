use Rattle.std.proofs.Common.{◌==◌, ◌+◌, refl, sym, ◌∙◌}
use Rattle.std.proofs.lemmas.Bool.{and_parts, eqb-true}
use Rattle.reg_opening.proofs.acts.ActTallySinkShownAct.take.Goals as goal

pub returns-clause-taken : goal.returns-clause-taken
returns-clause-taken g c = record {
  rises = λ rowids risen. c.then-self.ensures rowids risen;
  last = refl;
  follows = λ holds.
      let was = c.args.self.now in
      let number = c.args.shown.row.number in
      let both = and_parts was.follows (number == was.last + 1) (sym c.follows_on-self.ensures ∙ holds) in
      (both.0, eqb-true number (was.last + 1) both.1);
}
