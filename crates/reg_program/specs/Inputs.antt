-- What the words of a command line, and standard input, give to a job.
use Rattle.std.specs.Prelude.{◌≡◌, ℕ, Bool, List, [], ◌∷◌, Option, Some, None, IfSome, ◌==◌, take, position, codes, if◌then◌else◌}
use Rattle.std.specs.Io.BufRead.{strip_last}
use Rattle.std.specs.Str.{bytes_eq}
use Rattle.reg_source.specs.Bounded.{AreMore}

-- the bytes are those that are known, where they are
abbrev pub AreKnown : Option (List ℕ) → List ℕ → Type 0
AreKnown known bytes = IfSome known (λ all. bytes ≡ all)

-- a file has just these bytes, where it is known what it has
pub record HasBytes {F : Type 0} (held : F → Option (List ℕ)) (bytes : List ℕ) : Type 0 where
  pub file : F
  pub has : AreKnown (held file) bytes

-- a file has more bytes than so many, where it is known what it has
pub record HasMore {F : Type 0} (held : F → Option (List ℕ)) (most : ℕ) : Type 0 where
  pub file : F
  pub more : AreMore most (held file)

abbrev pub is_line_feed : ℕ → Bool
is_line_feed b = b == 10

-- what stands before the line feed at a place, or all where there is none
abbrev pub line_before : List ℕ → Option ℕ → List ℕ
line_before text None = text
line_before text (Some at) = take at text

-- the first line of a text, without its line end: a line feed, or a carriage return and one
abbrev pub line_in : List ℕ → List ℕ
line_in text = strip_last 13 (line_before text (position is_line_feed text))

-- the token that a word is; nothing is known of it where a @ before a path says that it stands in a file
abbrev pub token_in : List ℕ → Option (List ℕ)
token_in [] = Some []
token_in (b ∷ path) = if b == 64 then None else Some (b ∷ path)

-- the token of who asks: none without a word, and else the one that the word is
abbrev pub IsTokenOf : Option (List ℕ) → Option (List ℕ) → Type 0
IsTokenOf None token = token ≡ None
IsTokenOf (Some word) None = ⊥
IsTokenOf (Some word) (Some token) = AreKnown (token_in word) token

-- the body of a request: nothing without a word, what stands on standard input for -, and else the word
abbrev pub body_in : Option (List ℕ) → Option (List ℕ) → Option (List ℕ)
body_in None input = Some []
body_in (Some word) input = if bytes_eq word (codes "-") then input else Some word
