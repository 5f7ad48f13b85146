use Rattle.std.proofs.Common.{Some, ap}
use Rattle.clap.specs.Words.{Rule}
use Rattle.clap.specs.declared.builder.action.ArgAction.TheVariants.{Set}
use Rattle.reg_jobs.proofs.definition.last_place.Goals as goal

pub returns : goal.returns
returns c =
    rw (c.action.ensures, c.help.ensures) (record {
      rule = ap (λ (r : Rule). record r { action = Some Set }) c.new.ensures.rule;
      local = c.new.ensures.optional.1;
    })
