use Rattle.reg_print.proofs.PrintedTokens.{◌▸◌, prints_object}
use Rattle.reg_print.proofs.bodies.counts.CountsPrintItself.print.Goals as goal

pub returns : goal.returns
returns c =
    prints_object c.open_object.ensures
    (c.put_count.ensures ▸ c.put_count-2.ensures ▸ c.put_count-3.ensures
    ▸ c.put_count-4.ensures ▸ c.put_count-5.ensures ▸ c.put_count-6.ensures
    ▸ c.put_count-7.ensures ▸ c.put_count-8.ensures ▸ c.put_count-9.ensures
    ▸ c.put_count-10.ensures)
    c.close_object.ensures tt
