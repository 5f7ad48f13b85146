-- What was read of a reader, and what it asks. `unread` and `left` are what is to be read before
-- and after.
use Rattle.std.specs.Prelude.{◌≡◌, ◌≤◌, ◌⊎◌, List, ℕ, length, Result, Ok, Err, Option, Some}
use Rattle.std.specs.Option.{option_copied}
use Rattle.std.specs.Io.KnownBytes.{Consumes, IsAtEnd}
use Rattle.httparse.specs.Spans.{IsWithin, span_bytes}
use Rattle.httparse.specs.Grammar.{RequestHead}
use Rattle.reg_head.specs.Fields.{announced}
use Rattle.reg_head.specs.Found.{IsWithinIf, token_at}
use Rattle.reg_head.specs.Head.{HasHead, MayBecomeHead, fields_of, most_bytes}
use Rattle.reg_head.specs.Request.{Request, BytesAsk, IsSettled}
use Rattle.reg_head.specs.declared.malformed.Malformed.{Malformed}
use Rattle.reg_head.specs.declared.malformed.Malformed.TheVariants as malformed
use Rattle.reg_head.specs.declared.message.Message.{Message}
use Rattle.reg_head.specs.declared.message.Parts.{Parts}
use Rattle.reg_head.specs.declared.unread.Unread.{Unread}
use Rattle.reg_head.specs.declared.unread.Unread.TheVariants as unread

-- ---- A message

-- the parts of a message lie among its bytes
pub record LiesInBytes (m : Message) : Type 0 where
  pub method : IsWithin (length m.bytes.items) m.method
  pub path : IsWithin (length m.bytes.items) m.path
  pub authorization : IsWithinIf (length m.bytes.items) m.authorization
  pub body : IsWithin (length m.bytes.items) m.body

-- the message has the parts of a request, each at its place
pub record IsMessage (m : Message) (request : Request) : Type 0 where
  pub placed : LiesInBytes m
  pub method : span_bytes m.bytes.items m.method ≡ request.method
  pub path : span_bytes m.bytes.items m.path ≡ request.path
  pub token : token_at m.bytes.items m.authorization ≡ request.token
  pub body : span_bytes m.bytes.items m.body ≡ request.body

-- parts without where they lie in memory
abbrev pub request_view : Parts → Request
request_view parts =
    record {
      method = parts.method.now;
      path = parts.path.now;
      token = option_copied parts.token;
      body = parts.body.now;
    }

-- ---- Reading

-- No more bytes than the most of a head, or than the head and the body that it announces.
abbrev pub IsNoFurther : List ℕ → Type 0
IsNoFurther bytes =
    (length bytes ≤ most_bytes)
    ⊎ ((head : RequestHead) × (rest : List ℕ) × (n : ℕ) × HasHead bytes head rest
    × (announced (fields_of head) ≡ Ok n) × (length rest ≤ n))

-- What the reader's bytes ask: those that were read ask it whatever follows, or no more came.
pub record IsAsked (unread left : Option (List ℕ)) (asked : Result Request Malformed) : Type 0
  where
    pub bytes : List ℕ
    pub is_read : Consumes unread left bytes
    pub no_further : IsNoFurther bytes
    pub asks : IsSettled bytes asked ⊎ (IsAtEnd left × BytesAsk bytes asked)

-- What was read so far is not yet a whole request, and may still become one: if no more came, the
-- head, which may still come, or the body would be what is wrong.
pub record IsUnfinished (unread left : Option (List ℕ)) : Type 0 where
  pub bytes : List ℕ
  pub is_read : Consumes unread left bytes
  pub no_further : IsNoFurther bytes
  pub lacks : (BytesAsk bytes (Err malformed.Head) × MayBecomeHead bytes)
      ⊎ BytesAsk bytes (Err malformed.Short)

-- why there is no message
abbrev pub IsUnread : Option (List ℕ) → Option (List ℕ) → Unread → Type 0
IsUnread before left (unread.Refused why) = IsAsked before left (Err why)
IsUnread before left unread.Read = IsUnfinished before left
IsUnread before left unread.Memory = Unit {0}

-- a reader whose bytes are known is asked what all of them ask
abbrev pub AskByAllTheirBytes : Type 0
AskByAllTheirBytes =
    (all : List ℕ) (left : Option (List ℕ)) (asked : Result Request Malformed)
    → IsAsked (Some all) left asked → BytesAsk all asked
