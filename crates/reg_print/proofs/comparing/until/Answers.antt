use Rattle.std.proofs.Common.{◌≡◌, ◌==◌, sym, ◌∙◌, rules, tests}
use Rattle.std.specs.Prelude.{position}
use Rattle.std.proofs.lemmas.Iterator.{YieldsList-from_slice}
use Rattle.std.proofs.lemmas.Iterator.Search.{position_from_yields_List}
use Rattle.reg_print.proofs.Fronts.{parts_of, until_none, until_some}
use Rattle.reg_print.proofs.comparing.until.Goals as goal

pub returns-in_err-end-clause-value : goal.returns-in_err-end-clause-value
returns-in_err-end-clause-value c =
    let found : c.position.result ≡ position (λ b. b == c.args.byte) c.args.text.now =
    position_from_yields_List _ _ _ _ c.position.ensures.ran
    (YieldsList-from_slice c.args.text.now cc) (λ x b q k. search (rules, tests)) in
    rw c.from_residual.ensures
    (until_none c.args.byte c.args.text.now (sym found ∙ c.in_err-end.was))

pub returns-clause-value : goal.returns-clause-value
returns-clause-value c =
    let found : c.position.result ≡ position (λ b. b == c.args.byte) c.args.text.now =
    position_from_yields_List _ _ _ _ c.position.ensures.ran
    (YieldsList-from_slice c.args.text.now cc) (λ x b q k. search (rules, tests)) in
    until_some c.args.byte c.args.text.now _ _ c.in_ok-end.end (sym found ∙ c.in_ok-end.was)
    c.split_at.ensures.front c.split_at.ensures.back

pub returns-clause-whole : goal.returns-clause-whole
returns-clause-whole c =
    parts_of c.args.text.now _ _ c.in_ok-end.end c.split_at.ensures.front c.split_at.ensures.back
