-- The rows of `pool` keep prefixes: what is written reads back, and only that reads.
use Rattle.std.proofs.Common.{[], ◌∷◌, ap}
use Rattle.sqlite.specs.Order.{column}
use Rattle.reg_records.specs.Columns.{is_number}
use Rattle.reg_records.specs.Laws.{KeepsRows}
use Rattle.reg_records.specs.Pool.{is_prefix, prefix_columns, prefix_in, prefix_values}
use Rattle.reg_records.proofs.ColumnLaws.{numbers}

pub prefixes_kept : KeepsRows prefix_columns prefix_in prefix_values is_prefix
prefixes_kept = record {
  back = (numbers is_number).back;
  exact = λ row prefix h. ap (λ v. v ∷ []) ((numbers is_number).exact (column row 0) prefix h);
  formed = λ row prefix h. (numbers is_number).formed (column row 0) prefix h;
}
