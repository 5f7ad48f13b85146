-- What bytes ask: one request, or the first thing that is wrong with them.
use Rattle.std.specs.Prelude.{◌≡◌, ◌⊎◌, List, ◌++◌, ℕ, length, take, nat_le, Result, Ok, Err, Option, if◌then◌else◌}
use Rattle.httparse.specs.Grammar.{RequestHead}
use Rattle.reg_head.specs.Fields.{announced, token_of}
use Rattle.reg_head.specs.Head.{HasHead, HasNoHead, fields_of}
use Rattle.reg_head.specs.declared.malformed.Malformed.{Malformed}
use Rattle.reg_head.specs.declared.malformed.Malformed.TheVariants as malformed

-- a request, without what its carrier adds
pub record Request : Type 0 where
  pub method : List ℕ
  -- the target as it stands
  pub path : List ℕ
  pub token : Option (List ℕ)
  pub body : List ℕ

-- the request with this head and the first n of the bytes after it
abbrev pub request_with : RequestHead → List ℕ → ℕ → Request
request_with head rest n =
    record {
      method = head.method;
      path = head.target;
      token = token_of (fields_of head);
      body = take n rest;
    }

-- with a body of so many bytes, where there are as many
abbrev pub request_by : RequestHead → List ℕ → Result ℕ Malformed → Result Request Malformed
request_by head rest (Err why) = Err why
request_by head rest (Ok n) =
    (if nat_le n (length rest) then Ok (request_with head rest n) else Err malformed.Short)

-- the request that a head and the bytes after it make, or what is wrong first
abbrev pub request_of : RequestHead → List ℕ → Result Request Malformed
request_of head rest = request_by head rest (announced (fields_of head))

-- what the bytes ask: the request of the head that they begin with, or what is wrong first
abbrev pub BytesAsk : List ℕ → Result Request Malformed → Type 0
BytesAsk bytes asked =
    ((head : RequestHead) × (rest : List ℕ) × HasHead bytes head rest
    × (asked ≡ request_of head rest))
    ⊎ (HasNoHead bytes × (asked ≡ Err malformed.Head))

-- bytes ask one thing
abbrev pub AskOneThing : Type 0
AskOneThing =
    (bytes : List ℕ) (asked other : Result Request Malformed) → BytesAsk bytes asked
    → BytesAsk bytes other → asked ≡ other

-- the bytes ask this, whatever follows them
abbrev pub IsSettled : List ℕ → Result Request Malformed → Type 0
IsSettled bytes asked = (more : List ℕ) → BytesAsk (bytes ++ more) asked
