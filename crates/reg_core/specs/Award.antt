-- What an ask is given, part by part.
use Rattle.std.specs.Prelude.{ℕ, Bool, false, List}
use Rattle.reg_blocks.specs.Block.{SizedPrefix}
use Rattle.reg_early.specs.Terms.{permanent_term, early_term, renewed_term, settled_term}
use Rattle.reg_early.specs.declared.term.Term.{Term}
use Rattle.reg_core.specs.declared.entry.Entry.{Entry}
use Rattle.reg_core.specs.declared.holding.Holding.{Holding}
use Rattle.reg_core.specs.declared.request.Given.{Given}
use Rattle.reg_core.specs.declared.request.Given.TheVariants.{Value, Block}

-- how long an entry is given for: a new one for good, or early; the one that stands in this term,
-- renewed, or for good
pub data Tenure : Type 0 where
  -- a new one, for good
  for_good : Tenure
  -- a new one, allocated early
  early : Tenure
  -- the one that stands in this term, renewed
  renewed : Term → Tenure
  -- the one that stands in this term, for good
  settled : Term → Tenure

-- an entry, but for its term, which is known on the day of the approval
pub record AwardedEntry : Type 0 where
  pub registry : List ℕ
  pub value : ℕ
  pub label : List ℕ
  pub assignee : List ℕ
  pub tenure : Tenure

-- a block with its holder, who is not private
pub record NewHolding : Type 0 where
  pub block : SizedPrefix
  pub holder : List ℕ
  pub organization : List ℕ
  pub address : List ℕ

-- what an ask is given: with the name of the request and the day, all that the change is made of
pub data Award : Type 0 where
  awarded_entry : AwardedEntry → Award
  new_holding : NewHolding → Award

-- what an ask is allowed: what it is given, and whether a designated expert has to approve (RFC
-- 8126 sections 4.5 and 4.6)
pub record Allowance : Type 0 where
  pub award : Award
  pub needs_advice : Bool

-- what a request that has this award was given
abbrev pub given_in : Award → Given
given_in (awarded_entry e) = Value e.value
given_in (new_holding h) = Block h.block

-- the term of an entry that is given on a day
abbrev pub term_on : ℕ → Tenure → Term
term_on today for_good = permanent_term today
term_on today early = early_term today
term_on today (renewed term) = renewed_term term today
term_on today (settled term) = settled_term term

-- the entry, as it is given on a day
abbrev pub entry_on : ℕ → AwardedEntry → Entry
entry_on today e =
    record {
      registry = e.registry;
      value = e.value;
      label = e.label;
      assignee = e.assignee;
      term =
          term_on today e.tenure;
    }

-- the holding, listed with organization and address
abbrev pub holding_from : NewHolding → Holding
holding_from h = record {
  block = h.block;
  holder = h.holder;
  organization = h.organization;
  address = h.address;
  private = false;
}
