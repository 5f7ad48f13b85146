-- Whether a request stands by the accounts to whom values and blocks were given.
use Rattle.std.specs.Prelude.{ℕ, Bool, true, false, ◌&&◌, List, Option, Some, None}
use Rattle.std.specs.BTreeMap.{BTreeMap, get}
use Rattle.reg_maps.specs.Maps.{same_text}
use Rattle.reg_blocks.specs.Block.{block_cmp}
use Rattle.reg_core.specs.Ask.{registry_of}
use Rattle.reg_core.specs.WellKept.{is_size_asked}
use Rattle.reg_core.specs.World.{Place, place_cmp}
use Rattle.reg_core.specs.declared.ask.Ask.{Ask}
use Rattle.reg_core.specs.declared.request.Given.TheVariants as given
use Rattle.reg_core.specs.declared.request.State.{State}
use Rattle.reg_core.specs.declared.request.State.TheVariants.{Pending, Approved, Declined, Withdrawn}
use Rattle.reg_opening.specs.Blocks.{Holders}
use Rattle.reg_opening.specs.declared.requests.Standing.{Standing}

-- what is kept of each entry
abbrev pub Standings : Type 0
Standings = BTreeMap Place Standing

-- there is an account, and it is this one
abbrev pub is_account : List ℕ → Option (List ℕ) → Bool
is_account account None = false
is_account account (Some other) = same_text other account

-- there is an entry, and this is its assignee
abbrev pub is_assignee : List ℕ → Option Standing → Bool
is_assignee account None = false
is_assignee account (Some standing) = same_text standing.assignee account

-- the account has the entry at a value of the registry that an ask names
abbrev pub is_assigned_at : Standings → List ℕ → Option (List ℕ) → ℕ → Bool
is_assigned_at standings account None v = false
is_assigned_at standings account (Some registry) v =
    is_assignee account (get place_cmp standings (registry, v))

-- there is an entry that can be held
abbrev pub is_holdable : Option Standing → Bool
is_holdable None = false
is_holdable (Some standing) = standing.can_be_held

-- what an approved request of an account was given is an entry of the account's, or a block of the
-- size that it asked for, which the account holds
abbrev pub stands_by : Standings → Holders → List ℕ → Ask → State → Bool
stands_by standings holders account ask Pending = true
stands_by standings holders account ask (Approved (given.Value v)) =
    is_assigned_at standings account (registry_of ask) v
stands_by standings holders account ask (Approved (given.Block block)) =
    is_size_asked ask block.size && is_account account (get block_cmp holders block)
stands_by standings holders account ask (Declined reason) = true
stands_by standings holders account ask Withdrawn = true
