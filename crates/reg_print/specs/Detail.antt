-- The texts that say what a refusal is about.
use Rattle.std.specs.Prelude.{ℕ, List}
use Rattle.reg_ranges.specs.Words.{item_word}
use Rattle.reg_core.specs.Item.{item_name}
use Rattle.reg_core.specs.WireRefusal.{table_fault_text}
use Rattle.reg_print.specs.declared.detail.Detail.{Detail}
use Rattle.reg_print.specs.declared.detail.Detail.TheVariants.{Part, Evidence, Ranges}

-- the text that says what a refusal is about
abbrev pub detail_text : Detail → List ℕ
detail_text (Part item) = item_name item
detail_text (Evidence item) = item_word item
detail_text (Ranges fault) = table_fault_text fault
