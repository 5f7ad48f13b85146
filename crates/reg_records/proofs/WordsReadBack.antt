-- The words of sizes read to them, and no others do.
use Rattle.std.proofs.Common.{◌≡◌, Option, Some, None, refl, sym}
use Rattle.std.proofs.lemmas.Option.{none-some}
use Rattle.reg_blocks.specs.declared.size.Size.TheVariants.{MaL, MaM, MaS}
use Rattle.reg_blocks.specs.Size.{word_of}
use Rattle.reg_ranges.specs.Words.{ReadsWords}
use Rattle.reg_ranges.proofs.WordsReadBack.{reads_words}
use Rattle.reg_records.specs.Words.{sizes, read_size}

pub sizes_read : ReadsWords word_of read_size
sizes_read = reads_words sizes word_of (elim [
  | MaL ↦ refl
  | MaM ↦ refl
  | MaS ↦ refl
])

-- two answers are the same where each is a value that the other is
pub same_answer : {T : Type 0} (o p : Option T) → ((x : T) → o ≡ Some x → p ≡ Some x)
    → ((x : T) → p ≡ Some x → o ≡ Some x) → o ≡ p
same_answer None None there back = refl
same_answer None (Some x) there back = absurd (none-some x (back x refl))
same_answer (Some x) p there back = sym (there x refl)
