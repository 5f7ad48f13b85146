-- The words of a record.
use Rattle.std.specs.Prelude.{ℕ, List, codes}
use Rattle.reg_changes.specs.declared.change.Class.{Class}
use Rattle.reg_changes.specs.declared.change.Class.TheVariants as class

-- the word of the change by which a subject is first published
abbrev pub class_word : Class → List ℕ
class_word class.Range = codes "range"
class_word class.Entry = codes "entry"
class_word class.Prefix = codes "prefix"
class_word class.Block = codes "block"

-- the place of a class among all
abbrev pub class_place : Class → ℕ
class_place class.Range = 0
class_place class.Entry = 1
class_place class.Prefix = 2
class_place class.Block = 3
