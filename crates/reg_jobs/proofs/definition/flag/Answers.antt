use Rattle.std.proofs.Common.{Some, ap}
use Rattle.clap.specs.Words.{Rule}
use Rattle.clap.specs.declared.builder.action.ArgAction.TheVariants.{SetTrue}
use Rattle.reg_jobs.proofs.definition.flag.Goals as goal

pub returns : goal.returns
returns c =
    rw (c.action.ensures, c.help.ensures, c.long.ensures) (record {
      rule = ap (λ (r : Rule). record r { long = Some c.args.name.now; action = Some SetTrue }) c.new.ensures.rule;
      local = c.new.ensures.optional.1;
    })
