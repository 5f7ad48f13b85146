use Rattle.std.proofs.Common.{◌≡◌, Some, ap, pos, rules, true}
use Rattle.clap.specs.Words.{Rule}
use Rattle.clap.specs.declared.builder.value_parser.ValueParser.TheVariants.{Signed}
use Rattle.reg_jobs.proofs.definition.port.Goals as goal

pub returns : goal.returns
returns c =
    let parser : c.value_parser-2.result.value_parser ≡ Some (Signed (pos 1) (pos 65535)) = search rules in
    rw (c.value_parser-2.ensures.others, parser, c.required.ensures) (record {
      rule = ap (λ (r : Rule). record r { required = true; parser = Some (Signed (pos 1) (pos 65535)) }) c.option.ensures.rule;
      local = c.option.ensures.local;
    })
