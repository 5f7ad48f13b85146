use Rattle.reg_print.proofs.PrintedTokens.{front_more, prints_array}
use Rattle.reg_print.proofs.printing.Printer.list.Goals as goal

pub loop-item-preserved : goal.loop-item-preserved
loop-item-preserved g c =
    front_more g.T.Print.levels g.T.Print.tree c.args.items.now c.loop-item.item-index
    c.item-item.result c.loop-item-test.true c.item-item.is c.loop-item.invariant
    c.print.ensures

pub returns : goal.returns
returns g c =
    prints_array g.T.Print.levels g.T.Print.tree c.args.items.now c.loop-item.item-index
    c.loop-item-test.false c.open_array.ensures c.loop-item.invariant
    c.close_array.ensures
