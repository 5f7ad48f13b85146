-- The minutes that renewals name, beside their asks.
use Rattle.std.specs.Prelude.{Bool, true, false, is_none, List, ℕ, Option, None}
use Rattle.reg_core.specs.declared.ask.Ask.{Ask}
use Rattle.reg_core.specs.declared.ask.Ask.TheVariants.{Code, Early, Renew, Permanent, Block}
use Rattle.reg_core.specs.declared.request.Case.{Case}
use Rattle.reg_core.specs.declared.request.Request.{Request}

-- only a renewal names a minute
abbrev pub is_renewal : Ask → Bool
is_renewal (Code ask) = false
is_renewal (Early ask) = false
is_renewal (Renew ask) = true
is_renewal (Permanent ask) = false
is_renewal (Block ask) = false

-- the minute that it names, none of any other kind
abbrev pub minute_of : Ask → Option (List ℕ)
minute_of (Code ask) = None
minute_of (Early ask) = None
minute_of (Renew ask) = ask.iesg
minute_of (Permanent ask) = None
minute_of (Block ask) = None

-- an ask with this minute or none, if it is a renewal
abbrev pub ask_with : Option (List ℕ) → Ask → Ask
ask_with minute (Code ask) = Code ask
ask_with minute (Early ask) = Early ask
ask_with minute (Renew ask) = Renew (record ask { iesg = minute })
ask_with minute (Permanent ask) = Permanent ask
ask_with minute (Block ask) = Block ask

-- a request with this minute or none, if it is a renewal
abbrev pub with_minute : Option (List ℕ) → Case → Case
with_minute minute case = record case { ask = ask_with minute case.ask }

-- without its minute
abbrev pub bare_ask : Ask → Ask
bare_ask ask = ask_with None ask

abbrev pub bare : Request → Request
bare request = record request { ask = bare_ask request.ask }

abbrev pub is_bare : Ask → Bool
is_bare ask = is_none (minute_of ask)
