use Rattle.std.proofs.Common.{◌≡◌, true, rules, ◌∙◌, ap}
use Rattle.serde_json.specs.Read.{read}
use Rattle.reg_print.proofs.PrintedTokens.{printed_text, printed_reads}
use Rattle.reg_print.proofs.printing.printed.Goals as goal

pub returns-clause-text : goal.returns-clause-text
returns-clause-text g c =
    let whole : c.print.new.out.is_whole ≡ true = search rules in
    c.into_inner.ensures.items
    ∙ printed_text c.new.result c.print.new.out.json g.T.Print.levels
    (g.T.Print.tree c.args.value.now) (c.new.ensures.before ∙ c.in_ok-bytes.ensures.items)
    c.new.ensures.tokens (c.print.ensures.told whole).1

pub returns-clause-reads_back : goal.returns-clause-reads_back
returns-clause-reads_back g c =
    let whole : c.print.new.out.is_whole ≡ true = search rules in
    ap read (returns-clause-text g c)
    ∙ printed_reads c.new.result c.print.new.out.json g.T.Print.levels
    (g.T.Print.tree c.args.value.now) c.new.ensures.tokens (c.print.ensures.told whole).1
    c.into_inner.ensures.reads_back c.requires
