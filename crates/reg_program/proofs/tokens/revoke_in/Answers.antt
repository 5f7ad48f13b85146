use Rattle.std.proofs.Common.{List, subst}
use Rattle.reg_core.specs.declared.capability.CapRow.{CapRow}
use Rattle.reg_program.specs.Printing.{Prints}
use Rattle.reg_program.specs.Tokens.{IsTokenTable}
use Rattle.reg_program.proofs.Did.{ends_printing}
use Rattle.reg_program.proofs.Revoked.{printing_unrevoked, takes_none}
use Rattle.reg_program.proofs.tokens.revoke_in.Goals as goal

pub returns-in-Ok : goal.returns-in-Ok
returns-in-Ok g c =
    let world = g.K.Keeper.world in
    let given = c.in-Ok.ensures in
    let rows = c.in-Ok.rows in
    let had = g.W.Write.contents c.args.output.now in
    let has = g.W.Write.contents c.print_rows.new.output in
    record {
      does =
          ends_printing world g.K.Keeper.Holds g.K.Keeper.Sound g.K.Keeper.FAILS c.args.office.now
          c.revoke.new.self _ _ c.print_rows.result (Prints had has (IsTokenTable c.into_vec.result.items))
          c.print_rows.ensures.ok c.print_rows.ensures.err given.premise
          (λ h printed. record {
            rows = rows;
            chosen = given.rows h;
            gone = given.world h;
            clerk = given.clerk h;
            prints =
                subst (λ (all : List CapRow). Prints had has (IsTokenTable all)) c.into_vec.ensures printed;
          })
          (λ h why of. printing_unrevoked c.args.moment c.args.choice (world c.args.office.now)
          (world c.revoke.new.self) rows why (given.rows h) (given.world h) of);
    }

pub returns-in-Err : goal.returns-in-Err
returns-in-Err g c =
    let given = c.in-Err.ensures in
    record {
      does =
          takes_none g.K.Keeper.world g.K.Keeper.Holds g.K.Keeper.Sound g.K.Keeper.FAILS
          c.args.office.now c.revoke.new.self c.args.moment c.args.choice _ c.unrevoked.result
          c.in-Err.fault c.unrevoked.ensures given.cause given.kept given.premise given.fault;
    }
