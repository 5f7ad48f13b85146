-- What a terminal is sent.
use Rattle.std.specs.Prelude.{◌==◌, ◌||◌, ◌&&◌, ℕ, Bool, nat_le, if◌then◌else◌}

-- a byte that any terminal shows, a line feed or a TAB
abbrev pub is_shown : ℕ → Bool
is_shown b = b == 10 || (b == 9 || (nat_le 32 b && nat_le b 126))

-- it as it is, and a question mark for any other byte
abbrev pub shown : ℕ → ℕ
shown b = if is_shown b then b else 63
