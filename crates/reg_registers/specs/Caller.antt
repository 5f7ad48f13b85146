-- Who calls: the digest of a token, the capability at it, and the step of the office by it.
use Rattle.std.specs.Prelude.{ℕ, List, Option, Some, None, Result, Ok, Err, if◌then◌else◌}
use Rattle.std.specs.FinMap.{get}
use Rattle.hex.specs.Hex.{encode_lower}
use Rattle.sha2.specs.Sha256.{sha256}
use Rattle.reg_core.specs.Allowance.{◌>>=◌}
use Rattle.reg_core.specs.Answer.{admitted, in_force}
use Rattle.reg_core.specs.Journal.{stamp_of}
use Rattle.reg_core.specs.Names.{is_token}
use Rattle.reg_core.specs.Step.{Stepped, step}
use Rattle.reg_core.specs.World.{World}
use Rattle.reg_core.specs.declared.capability.Cap.{Cap}
use Rattle.reg_core.specs.declared.capability.Kind.{Kind}
use Rattle.reg_core.specs.declared.command.Command.{Command}
use Rattle.reg_core.specs.declared.journal.Stamp.{Stamp}
use Rattle.reg_core.specs.declared.refusal.Refusal.{Refusal}
use Rattle.reg_core.specs.declared.refusal.Refusal.TheVariants as no
use Rattle.reg_registers.specs.declared.caller.Caller.{Caller}

-- the SHA-256 of a token, in lower-case hexadecimal
unfoldable pub token_digest : List ℕ → List ℕ
token_digest token = encode_lower (sha256 token)

-- a caller is known by the digest of its token; where the token is missing or ill formed, it is
-- nobody
abbrev pub caller_of : Option (List ℕ) → Option (List ℕ)
caller_of None = None
caller_of (Some token) = if is_token token then Some (token_digest token) else None

-- the caller with the capability by which it gives a command of a kind at a moment, on its day, or
-- the first refusal
abbrev pub admission : World → Option (List ℕ) → ℕ → ℕ → Kind → Result Caller Refusal
admission w None moment day kind = Err no.Token
admission w (Some digest) moment day kind = do
  cap ← admitted (get w.caps digest) moment kind
  Ok (record { digest = digest; capability = cap; moment = moment; day = day })

-- the capability of a caller, where it is valid at a moment
abbrev pub valid_cap : World → Option (List ℕ) → ℕ → Result Cap Refusal
valid_cap w None moment = Err no.Token
valid_cap w (Some digest) moment = in_force (get w.caps digest) moment

-- when a caller's command is given, and by whom
abbrev pub stamp_by : Caller → Stamp
stamp_by who = stamp_of (Some who.digest) (Some who.capability) who.moment

-- the step of the office at a command that comes with this token, or with none
abbrev pub step_by : World → Option (List ℕ) → ℕ → Command → Stepped
step_by w token moment command = step token_digest w (caller_of token) moment command
