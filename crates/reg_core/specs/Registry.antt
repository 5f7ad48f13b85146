-- The forms of registries.
pub use Rattle.reg_ranges.specs.Forms.{is_partition, has_table_form}
