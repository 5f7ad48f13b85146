use Rattle.std.proofs.Common.{arith}
use Rattle.sqlite.specs.Held.{state}
use Rattle.sqlite.specs.State.{HasCleanDisk}
use Rattle.reg_tables.proofs.BesideLemmas.{begun_beside}
use Rattle.reg_tables.proofs.Library.GrowingSchemas.{gains_as}
use Rattle.reg_tables.proofs.MakeLemmas.{founded, on_all}
use Rattle.reg_tables.proofs.make.make_and_mark.Goals as goal

pub returns-clause-founds : goal.returns-clause-founds
returns-clause-founds g c clean =
    let old = state g.S.Store c.args.tx.now.conn.now in
    let mid = state g.S.Store c.make_all.new.tx.conn.now in
    let new = state g.S.Store c.add_version.new.tx.conn.now in
    let was_clean : HasCleanDisk mid = omega (arith, c.add_version.ensures.inside.clean) in
    let made = c.in_ok-make_all.ensures in
    on_all c.add_version.result (λ added same anywhere. record {
      made = λ blank.
          let empty = made.made was_clean blank in
          founded mid.now new.now (added empty).0 (added empty).1 empty;
      gained = gains_as same (made.gained was_clean);
      beside = begun_beside old.now mid.now new.now (made.makes was_clean) anywhere;
    }) (c.add_version.ensures.added clean) (c.add_version.ensures.defined clean)
    (c.add_version.ensures.anywhere clean)
