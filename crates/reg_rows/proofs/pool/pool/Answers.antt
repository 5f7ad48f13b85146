use Rattle.std.proofs.Common.{◌≡◌, map, ap, subst, ◌∙◌}
use Rattle.std.specs.FinMap.{entries}
use Rattle.std.specs.Prelude.{IfOk}
use Rattle.reg_maps.proofs.MapLaws.{number_keys}
use Rattle.reg_statements.proofs.RegistryRows.{select-all}
use Rattle.reg_rows.proofs.Looking.{looks_if}
use Rattle.reg_rows.proofs.Statements.{lists_pool}
use Rattle.reg_rows.proofs.pool.pool.Goals as goal

pub returns : goal.returns
returns g c =
    looks_if c.in_ok-prefixes.ensures.rows (λ p is.
    subst (λ prefixes. IfOk c.pool_of.result (λ pool. pool ≡ prefixes))
    (c.as_slice.ensures.value ∙ is _ lists_pool
    ∙ ap (λ m. map (λ e. e.0) (entries m)) (select-all number_keys p.pool))
    c.pool_of.ensures)
