use Rattle.std.proofs.lemmas.Bool.Decides.{Decides-eqb}
use Rattle.std.proofs.lemmas.Slice.Eq.{strip_prefix_is}
use Rattle.reg_print.proofs.Fronts.{behind_by}
use Rattle.reg_print.proofs.comparing.behind.Goals as goal

pub returns-clause-value : goal.returns-clause-value
returns-clause-value c =
    behind_by c.args.front.now c.args.text.now c.strip_prefix.result c.strip_prefix.ensures.cases

pub returns-clause-leaves : goal.returns-clause-leaves
returns-clause-leaves c =
    strip_prefix_is Decides-eqb c.args.text.now c.args.front.now c.strip_prefix.result
    c.strip_prefix.ensures.cases
