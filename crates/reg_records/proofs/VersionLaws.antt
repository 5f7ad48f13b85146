-- The rows of `office` keep versions: what is written reads back, and only that reads.
use Rattle.std.proofs.Common.{[], ◌∷◌, refl, ap}
use Rattle.sqlite.specs.Order.{column}
use Rattle.reg_records.specs.Laws.{KeepsRows}
use Rattle.reg_records.specs.Office.{is_version, version_columns, version_in, version_values}
use Rattle.reg_records.proofs.ColumnLaws.{ints}

pub versions_kept : KeepsRows version_columns version_in version_values is_version
versions_kept = record {
  back = λ version form. refl;
  exact = λ row version h. ap (λ v. v ∷ []) (ints.exact (column row 0) version h);
  formed = λ row version h. refl;
}
