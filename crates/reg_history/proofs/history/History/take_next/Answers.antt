use Rattle.std.proofs.Common.{◌≡◌, true, false, sym, ap, subst, ◌++◌, ◌∙◌, rules}
use Rattle.std.specs.Ordering.{is_le}
use Rattle.reg_maps.specs.Maps.{text_cmp}
use Rattle.reg_changes.specs.declared.change.HistoryRecord.{HistoryRecord}
use Rattle.reg_history.specs.Chain.{record_of}
use Rattle.reg_history.specs.History.{IsWrongAfter}
use Rattle.reg_history.proofs.Coming.{none_given, other_line, out_of_order, row_of}
use Rattle.reg_history.proofs.Histories.{takes_record, wrong_after}
use Rattle.reg_history.proofs.history.History.take_next.Goals as goal

pub returns-in_default-clause-wrong : goal.returns-in_default-clause-wrong
returns-in_default-clause-wrong c = λ before is here.
    let text = c.args.text.now in
    subst (IsWrongAfter before text) (sym c.wrong-wrong.ensures.number) (
      wrong_after c.args.self.now before is,
      none_given c.args.self.now before is c.wrong-wrong.ensures.counts c.args.records.now text here
          (rw c.in_default.is at c.in_ok-next.ensures.reads),
    )

pub returns-then-not-is_in_order-clause-wrong : goal.returns-then-not-is_in_order-clause-wrong
returns-then-not-is_in_order-clause-wrong c = λ before is here.
    let text = c.args.text.now in
    let late : is_le (text_cmp c.args.self.now.moment c.in-Some.next.moment) ≡ false = search rules in
    subst (IsWrongAfter before text) (sym c.wrong-wrong.ensures.number) (
      wrong_after c.args.self.now before is,
      out_of_order c.args.self.now before is c.wrong-wrong.ensures.counts c.args.records.now text here
          c.in-Some.next (rw c.in-Some.is at c.in_ok-next.ensures.reads)
          late,
    )

pub returns-clause-wrong : goal.returns-clause-wrong
returns-clause-wrong c = λ before is here.
    let text = c.args.text.now in
    let ordered : is_le (text_cmp c.args.self.now.moment c.in-Some.next.moment) ≡ true = search rules in
    let adds = c.in_ok-line.ensures.adds before is ordered in
    subst (IsWrongAfter before text) (sym c.wrong-wrong.ensures.number) (
      wrong_after c.args.self.now before is,
      other_line c.args.self.now before is c.wrong-wrong.ensures.counts c.args.records.now text here
          c.in-Some.next c.in_ok-line.line.items (rw c.in-Some.is at c.in_ok-next.ensures.reads) adds.line
          (λ rest e. c.in-None.ensures.leaves rest (e ∙ ap (λ l. l ++ rest) (sym c.as_slice.ensures.value))),
    )

pub returns-in-Some-behind-clause-takes : goal.returns-in-Some-behind-clause-takes
returns-in-Some-behind-clause-takes c = λ before is.
    let ordered : is_le (text_cmp c.args.self.now.moment c.in-Some.next.moment) ≡ true = search rules in
    let adds = c.in_ok-line.ensures.adds before is ordered in
    takes_record c.add.new.self before (record_of c.in-Some.next.moment c.in-Some.next.change)
    c.in_ok-line.line.items c.args.text.now c.in-Some-behind.rest.now adds
    (c.in-Some-behind.ensures.leaves ∙ ap (λ l. l ++ c.in-Some-behind.rest.now) c.as_slice.ensures.value)

pub returns-in-Some-behind-clause-goes_on : goal.returns-in-Some-behind-clause-goes_on
returns-in-Some-behind-clause-goes_on c = λ before is here.
    let rest = c.in-Some-behind.rest.now in
    let next : HistoryRecord = record_of c.in-Some.next.moment c.in-Some.next.change in
    let ordered : is_le (text_cmp c.args.self.now.moment c.in-Some.next.moment) ≡ true = search rules in
    let adds = c.in_ok-line.ensures.adds before is ordered in
    c.in_ok-next.ensures.goes_on c.args.text.now next rest here
    (row_of c.args.self.now before is c.wrong-wrong.ensures.counts c.args.records.now c.args.text.now here
    next rest
    (c.in-Some-behind.ensures.leaves ∙ ap (λ l. l ++ rest) c.as_slice.ensures.value ∙ ap (λ l. l ++ rest) adds.line))
