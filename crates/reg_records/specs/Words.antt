-- The words by which tables write sizes of blocks.
use Rattle.std.specs.Prelude.{ℕ, List, [], ◌∷◌, Option}
use Rattle.reg_ranges.specs.Words.{read_among}
use Rattle.reg_blocks.specs.declared.size.Size.{Size}
use Rattle.reg_blocks.specs.declared.size.Size.TheVariants.{MaL, MaM, MaS}
use Rattle.reg_blocks.specs.Size.{word_of}

abbrev pub sizes : List Size
sizes = MaL ∷ MaM ∷ MaS ∷ []

abbrev pub read_size : List ℕ → Option Size
read_size s = read_among sizes word_of s
