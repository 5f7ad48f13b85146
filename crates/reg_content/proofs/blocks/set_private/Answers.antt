use Rattle.std.proofs.Common.{true, refl, ap}
use Rattle.reg_maps.proofs.RowMaps.Tables.{changed_alone}
use Rattle.reg_core.specs.Holding.{with_mark}
use Rattle.reg_core.proofs.KeyOrders.{block_keys}
use Rattle.reg_blocks.specs.Block.{first_address}
use Rattle.reg_statements.specs.Content.{content_of}
use Rattle.reg_rows.proofs.BlocksApart.{begins_alone}
use Rattle.reg_rows.proofs.Joining.{steps_in}
use Rattle.reg_rows.proofs.Statements.{begins, changes_mark}
use Rattle.reg_content.proofs.blocks.set_private.Goals as goal

pub returns-clause-steps : goal.returns-clause-steps
returns-clause-steps g c =
    let block = c.args.block.now in
    let first = first_address block in
    steps_in (c.change.ensures.steps (begins first) (λ holder. true) (with_mark c.args.private)
    (rw (c.whole_value.ensures, c.first.ensures.value, c.flag_value.ensures)
    (changes_mark first c.args.private)))
    (λ db was fits. (
      ((λ k x is passes. refl), λ tied. tied),
      ap (λ m. record (content_of db) { blocks = m })
          (changed_alone block_keys (content_of db).blocks block (begins first) (with_mark c.args.private)
          (begins_alone (content_of db).blocks block fits.1)),
    ))
