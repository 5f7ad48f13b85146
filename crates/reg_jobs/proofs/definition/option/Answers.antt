use Rattle.std.proofs.Common.{Some, ap}
use Rattle.clap.specs.Words.{Rule}
use Rattle.clap.specs.declared.builder.action.ArgAction.TheVariants.{Set}
use Rattle.reg_jobs.proofs.definition.option.Goals as goal

pub returns : goal.returns
returns c =
    rw (c.action.ensures, c.help.ensures, c.value_name.ensures, c.long.ensures) (record {
      rule = ap (λ (r : Rule). record r { long = Some c.args.name.now; value_names = 1; action = Some Set }) c.new.ensures.rule;
      local = c.new.ensures.optional.1;
    })
