-- What the library's compiler makes of a text, and what its statements do, whatever the tables are: no
-- lemma of this folder names a table of an office.
pub mod Compiling
pub mod Queries
pub mod Parts
pub mod Writes
pub mod Creating
pub mod EachOf
pub mod GrowingLists
pub mod GrowingSchemas
pub mod QuietReferences
pub mod RowLists
pub mod KeyedRows
pub mod Rowids
pub mod Casts
