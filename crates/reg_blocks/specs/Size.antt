-- The sizes of blocks that the IEEE Registration Authority assigns.
use Rattle.std.specs.Prelude.{ℕ, ◌^◌, ◌==◌, if◌then◌else◌, List, codes, Option, Some, None}
use Rattle.reg_blocks.specs.declared.size.Size.{Size}
use Rattle.reg_blocks.specs.declared.size.Size.TheVariants.{MaL, MaM, MaS}

-- how many leading bits all addresses of a block share
abbrev pub prefix_bits : Size → ℕ
prefix_bits MaL = 24
prefix_bits MaM = 28
prefix_bits MaS = 36

-- how many addresses a block has: the other bits of the 48 are free
abbrev pub address_count : Size → ℕ
address_count MaL = 2 ^ 24
address_count MaM = 2 ^ 20
address_count MaS = 2 ^ 12

-- how many blocks of the size a 24-bit prefix has
abbrev pub blocks_in_prefix : Size → ℕ
blocks_in_prefix MaL = 1
blocks_in_prefix MaM = 2 ^ 4
blocks_in_prefix MaS = 2 ^ 12

-- how many hexadecimal digits write a prefix
abbrev pub digit_count : Size → ℕ
digit_count MaL = 6
digit_count MaM = 7
digit_count MaS = 9

-- the size whose prefixes are written by so many digits
abbrev pub size_of_digits : ℕ → Option Size
size_of_digits count =
    (if count == 6 then Some MaL
    else (if count == 7 then Some MaM else (if count == 9 then Some MaS else None)))

-- the word of a size
abbrev pub word_of : Size → List ℕ
word_of MaL = codes "MA-L"
word_of MaM = codes "MA-M"
word_of MaS = codes "MA-S"
