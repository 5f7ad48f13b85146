-- A line of a script: moment token METHOD path body, with one space between.
use Rattle.std.specs.Prelude.{ℕ, ◌+◌, ◌^◌, ◌==◌, ◌&&◌, ◌||◌, not, nat_lt, List, [], length, take, drop, map, slice_index, codes, position, Bool, Option, Some, None, if◌then◌else◌}
use Rattle.std.specs.Option.{option_copied}
use Rattle.std.specs.Str.{bytes_eq}
use Rattle.std.specs.List.{list_all}
use Rattle.std.specs.Char.{is_ascii_digit}
use Rattle.std.specs.Str.Parse.{digits_value}
use Rattle.reg_wire.specs.Exchange.{Call}
use Rattle.reg_wire.specs.declared.script.line.Line.{Line as Fields}

infixl 10 ◌>>=◌
abbrev pub ◌>>=◌ : {A B : Type 0} → Option A → (A → Option B) → Option B
None >>= f = None
(Some x) >>= f = f x

-- the most bytes of a line, its line feed aside
abbrev pub most_bytes : ℕ
most_bytes = 65536

abbrev pub is_space : ℕ → Bool
is_space b = b == 32

-- a field that is not empty, and what follows the space after it
abbrev pub field_before : List ℕ → Option ℕ → Option (List ℕ × List ℕ)
field_before line None = None
field_before line (Some at) = (if at == 0 then None else Some (take at line, drop (at + 1) line))

abbrev pub first_field : List ℕ → Option (List ℕ × List ℕ)
first_field line = field_before line (position is_space line)

-- the path, which is not empty, and the body, which may be missing with its space
abbrev pub path_before : List ℕ → Option ℕ → Option (List ℕ × List ℕ)
path_before line None = (if length line == 0 then None else Some (line, []))
path_before line (Some at) = (if at == 0 then None else Some (take at line, drop (at + 1) line))

abbrev pub path_and_body : List ℕ → Option (List ℕ × List ℕ)
path_and_body line = path_before line (position is_space line)

-- decimal digits with no leading zero, except for 0 itself
abbrev pub is_decimal : List ℕ → Bool
is_decimal text =
    list_all is_ascii_digit text && nat_lt 0 (length text)
    && (length text == 1 || not (slice_index text 0 == 48))

-- the seconds that a text writes in decimal
abbrev pub moment_of : List ℕ → Option ℕ
moment_of text =
    (if is_decimal text && nat_lt (digits_value 10 text) (2 ^ 64) then Some (digits_value 10 text)
    else None)

-- a dash stands for no token
abbrev pub token_of : List ℕ → Option (List ℕ)
token_of text = (if bytes_eq text (codes "-") then None else Some text)

-- a TAB of the body stands for a line feed
abbrev pub line_feed_of : ℕ → ℕ
line_feed_of b = (if b == 9 then 10 else b)

-- what the bytes of a line ask, without their line feed; none where they are no line of a script
abbrev pub fields_of : List ℕ → Option Call
fields_of bytes = do
  moment ← first_field bytes
  seconds ← moment_of moment.0
  token ← first_field moment.1
  method ← first_field token.1
  path ← path_and_body method.1
  Some (record {
    moment = seconds;
    token = token_of token.0;
    method = method.0;
    path = path.0;
    body = map line_feed_of path.1;
  })

-- the call that a line of a script is, none where it is no such line
unfoldable pub line_of : List ℕ → Option Call
line_of bytes = (if nat_lt most_bytes (length bytes) then None else fields_of bytes)

-- what a line asks, as it is read
abbrev pub call_of : Fields → Call
call_of fields =
    record {
      moment = fields.moment;
      token = option_copied fields.token;
      method = fields.method.now;
      path = fields.path.now;
      body = map line_feed_of fields.body.now;
    }
