-- What is published, and what one caller sees.
use Rattle.std.specs.Prelude.{ℕ, Bool, List, Option, option_map, option_and_then}
use Rattle.std.specs.FinMap.{FinMap, get, contains_key}
use Rattle.std.specs.FinSet.{FinSet}
use Rattle.std.specs.Ordering.{nat_cmp}
use Rattle.reg_maps.specs.Maps.{text_cmp, same_text, only_if, select}
use Rattle.reg_blocks.specs.Block.{block_cmp}
use Rattle.reg_ranges.specs.Tables.{Table}
use Rattle.reg_core.specs.Holding.{ShownHolding, masked_blocks}
use Rattle.reg_core.specs.Request.{word_of}
use Rattle.reg_core.specs.Times.{Times, times_of}
use Rattle.reg_core.specs.World.{World, RequestName, name_cmp, place_cmp, link_cmp}
use Rattle.reg_core.specs.declared.advice.Advice.{Advice}
use Rattle.reg_core.specs.declared.ask.Ask.{Ask}
use Rattle.reg_core.specs.declared.entry.Registration.{Registration}
use Rattle.reg_core.specs.declared.capability.Cap.{Cap}
use Rattle.reg_core.specs.declared.holding.Holder.{Holder}
use Rattle.reg_core.specs.declared.request.Case.{Case}
use Rattle.reg_core.specs.declared.request.StateWord.{StateWord}

-- the published registers: the ranges of each registry, and its entries; the prefixes of the pool;
-- and the blocks that were given, where a private holder is not shown
pub record Published : Type 0 where
  pub registries : FinMap text_cmp Table
  pub entries : FinMap place_cmp Registration
  pub pool : FinSet nat_cmp
  pub blocks : FinMap block_cmp ShownHolding

abbrev pub published : World → Published
published w = record {
  registries = w.registries;
  entries = w.entries;
  pool = w.pool;
  blocks = masked_blocks w.blocks;
}

-- a registry's entries
abbrev pub entries_of : List ℕ → FinMap place_cmp Registration → FinMap place_cmp Registration
entries_of registry m = select (λ place a. only_if (same_text place.0 registry) a) m

-- a request as an expert sees it: the bare word of its state, and the expert's own advice
pub record Queued : Type 0 where
  pub ask : Ask
  pub word : StateWord
  pub advice : Option Advice

-- an account's own requests, the blocks that it holds, and the requests that are queued to it; its
-- agents, its principals, and the requests of these
pub record Personal : Type 0 where
  pub requests : FinMap name_cmp Case
  pub holdings : FinMap block_cmp Holder
  pub queue : FinMap name_cmp Queued
  pub agents : FinSet link_cmp
  pub principals : FinSet link_cmp
  pub principal_rows : FinMap name_cmp Case

-- those of these requests that an account made
abbrev pub requests_by : List ℕ → FinMap name_cmp Case → FinMap name_cmp Case
requests_by account m = select (λ name case. only_if (same_text name.0 account) case) m

-- an account's own requests
abbrev pub requests_of : List ℕ → World → FinMap name_cmp Case
requests_of account w = requests_by account w.requests

-- the blocks that an account holds
abbrev pub holdings_of : List ℕ → World → FinMap block_cmp Holder
holdings_of account w = select (λ block h. only_if (same_text h.account account) h) w.blocks

-- a request as an expert sees it
abbrev pub as_queued : Option Advice → Case → Queued
as_queued advice case = record { ask = case.ask; word = word_of case.state; advice = advice }

-- a request, where it is assigned to this account
abbrev pub queued_to : List ℕ → World → RequestName → Case → Option Queued
queued_to account w name case =
    only_if (contains_key w.queue (name, account)) (as_queued (get w.advice (name, account)) case)

-- all requests that are assigned to an account
abbrev pub queue_of : List ℕ → World → FinMap name_cmp Queued
queue_of account w = select (λ name case. queued_to account w name case) w.requests

-- the links of an account's agents, and those of its principals
abbrev pub agents_of : List ℕ → World → FinSet link_cmp
agents_of account w = select (λ link u. only_if (same_text link.0 account) u) w.agents

abbrev pub principals_of : List ℕ → World → FinSet link_cmp
principals_of account w = select (λ link u. only_if (same_text link.1 account) u) w.agents

-- the requests of all whose agent the account is
abbrev pub principal_rows_of : List ℕ → World → FinMap name_cmp Case
principal_rows_of account w =
    select (λ name case. only_if (contains_key w.agents (name.0, account)) case) w.requests

-- all that is an account's own
abbrev pub personal : List ℕ → World → Personal
personal account w = record {
  requests = requests_of account w;
  holdings = holdings_of account w;
  queue = queue_of account w;
  agents = agents_of account w;
  principals = principals_of account w;
  principal_rows = principal_rows_of account w;
}

-- when the requests of these applicants came, and when they were decided
abbrev pub times_by : (List ℕ → Bool) → World → FinMap name_cmp Times
times_by of w =
    select (λ name case. only_if (of name.0) (times_of w.journal name case)) w.requests

-- the times of an account's own requests, and of those of all whose agent the account is
pub record OwnTimes : Type 0 where
  pub own : FinMap name_cmp Times
  pub principals : FinMap name_cmp Times

abbrev pub own_times : List ℕ → World → OwnTimes
own_times account w = record {
  own = times_by (λ applicant. same_text applicant account) w;
  principals = times_by (λ applicant. contains_key w.agents (applicant, account)) w;
}

-- what one caller sees: the published registers, its capability, if there is one at its digest, all
-- that is that account's own, and the times of its requests and of those of its principals
pub record View : Type 0 where
  pub published : Published
  pub me : Option (Cap × Personal)
  pub times : Option OwnTimes

-- what it sees of the office as it stands now, without times
pub record ViewByNow : Type 0 where
  pub published : Published
  pub me : Option (Cap × Personal)

-- the capability at a digest
abbrev pub cap_at : World → Option (List ℕ) → Option Cap
cap_at w caller = option_and_then (get w.caps) caller

abbrev pub with_personal : World → Cap → Cap × Personal
with_personal w cap = (cap, personal cap.account w)

-- the times that a caller sees
abbrev pub times_seen : World → Option (List ℕ) → Option OwnTimes
times_seen w caller = option_map (λ (cap : Cap). own_times cap.account w) (cap_at w caller)

-- what a caller sees: the published registers, its own capability, and its account's own requests,
-- blocks, queue, agents and principals, and the requests of its principals; and of these requests,
-- and of its own, when they came and were decided
abbrev pub view_of : World → Option (List ℕ) → View
view_of w caller = record {
  published = published w;
  me = option_map (with_personal w) (cap_at w caller);
  times = times_seen w caller;
}

-- the same without the times
abbrev pub view_by_now : World → Option (List ℕ) → ViewByNow
view_by_now w caller =
    record { published = published w; me = option_map (with_personal w) (cap_at w caller) }
