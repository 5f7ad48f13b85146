pub mod RowsAscend
