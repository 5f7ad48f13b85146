-- What went out of an answer.
use Rattle.std.specs.Prelude.{◌≡◌, ◌≢◌, ◌<◌, ℕ, List, [], length, take, Option, Result, Ok, Err}
use Rattle.std.specs.Io.KnownBytes.{Appends}
use Rattle.reg_wire.specs.declared.wire_fault.WireFault.{WireFault}
use Rattle.reg_wire.specs.declared.wire_fault.WireFault.TheVariants as fault
use Rattle.reg_wire.specs.Response.{response_text, sent_as}
use Rattle.reg_wire.specs.declared.log.Sent.{Sent}
use Rattle.reg_wire.specs.Serving.{storage}
use Rattle.reg_wire.specs.declared.response.Response.{Response}

-- the first n bytes, and there are more; or nothing, of an answer that is not storage
abbrev pub IsUnsent : WireFault → Response → Option (List ℕ) → Option (List ℕ) → Type 0
IsUnsent fault.Read told had has = ⊥
IsUnsent (fault.Write n) told had has =
    (n < length (response_text told)) × Appends had has (take n (response_text told))
IsUnsent fault.Memory told had has = (told ≢ storage) × Appends had has []

-- what is given to be told is sent, or told to have failed
abbrev pub IsSentBy : Result Response WireFault → Result Sent WireFault → Option (List ℕ)
    → Option (List ℕ) → Type 0
IsSentBy (Ok told) (Ok sent) had has = (sent ≡ sent_as told) × Appends had has (response_text told)
IsSentBy (Ok told) (Err fault) had has = IsUnsent fault told had has
IsSentBy (Err why) (Ok sent) had has = ⊥
IsSentBy (Err why) (Err fault) had has = (fault ≡ why) × Appends had has []
