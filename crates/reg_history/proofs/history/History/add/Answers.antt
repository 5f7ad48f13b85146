use Rattle.std.proofs.Common.{refl}
use Rattle.reg_history.proofs.Histories.{adds_record}
use Rattle.reg_history.proofs.history.History.add.Goals as goal

pub returns-clause-adds : goal.returns-clause-adds
returns-clause-adds c = λ records is ordered.
    adds_record c.args.self.now
    (record {
      said = c.apply.new.said;
      chain = c.push.new.self;
      overview = c.add.new.self;
      moment = c.args.moment;
    })
    records c.args.moment c.args.change c.in_ok-line.line is ordered c.in_ok-apply.ensures
    (c.in_ok-line.ensures records is.shown) c.in_ok-push.ensures refl
