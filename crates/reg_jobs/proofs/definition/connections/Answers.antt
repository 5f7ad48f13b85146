use Rattle.std.proofs.Common.{◌≡◌, Some, ap, pos, rules}
use Rattle.clap.specs.Words.{Rule}
use Rattle.clap.specs.declared.builder.value_parser.ValueParser.TheVariants.{Signed}
use Rattle.reg_jobs.proofs.definition.connections.Goals as goal

pub returns : goal.returns
returns c =
    let parser : c.value_parser-2.result.value_parser ≡ Some (Signed (pos 1) (pos 1000000)) = search rules in
    rw (c.value_parser-2.ensures.others, parser) (record {
      rule = ap (λ (r : Rule). record r { parser = Some (Signed (pos 1) (pos 1000000)) }) c.option.ensures.rule;
      local = c.option.ensures.local;
    })
