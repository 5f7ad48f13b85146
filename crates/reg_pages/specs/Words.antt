-- The form of the words of notes.
use Rattle.std.specs.Prelude.{ℕ, Bool, ◌&&◌, ◌||◌, ◌==◌, not, nat_le, List, length}
use Rattle.std.specs.List.{list_all}
use Rattle.std.specs.Str.{chars, is_utf8}
use Rattle.reg_ranges.specs.Texts.{is_within}

-- No control character (Unicode's Cc), and none of the two that no text of XML may have (XML 1.0,
-- section 2.2).
abbrev pub is_plain : ℕ → Bool
is_plain c = not (is_within 0 31 c || is_within 127 159 c || c == 65534 || c == 65535)

-- at most 1,000 bytes of UTF-8, each character plain
abbrev pub is_words : List ℕ → Bool
is_words s = is_utf8 s && (nat_le (length s) 1000 && list_all is_plain (chars s))
