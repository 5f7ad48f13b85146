use Rattle.std.proofs.Common.{List, ℕ, subst, sym, rules}
use Rattle.reg_core.specs.declared.capability.CapRow.{CapRow}
use Rattle.reg_program.specs.Tokens.{HasRecords, IsTokenTable}
use Rattle.reg_program.proofs.Listed.{in_places, prints}
use Rattle.reg_program.proofs.tokens.print_rows.Goals as goal

pub returns-clause-ok : goal.returns-clause-ok
returns-clause-ok g c =
    let sorted = c.in_ok-sort_by_key.ensures in
    let text = c.in_ok-text.text.items in
    let table : IsTokenTable c.args.rows.items text =
    record {
      ordered = c.sort_by_key.new.self.items;
      same = sorted.permutation;
      in_order = in_places c.sort_by_key.new.self.items sorted.sorted (λ a r q k. search rules);
      printed =
          let P : List CapRow → Type 0 = λ rows. HasRecords rows text in
          subst P c.as_slice.ensures.value c.in_ok-text.ensures;
    } in
    let Q : List ℕ → Type 0 = λ bytes. IsTokenTable c.args.rows.items bytes in
    prints c.print.result (g.W.Write.contents c.args.output.now)
    (g.W.Write.contents c.print.new.output) c.as_slice-2.result.now (IsTokenTable c.args.rows.items)
    (subst Q (sym c.as_slice-2.ensures.value) table) c.print.ensures.ok
