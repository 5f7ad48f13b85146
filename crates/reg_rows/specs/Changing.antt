-- When a change can be made to the rows of an office.
use Rattle.std.specs.Prelude.{◌≡◌, ℕ, Bool, true, false, List, [], IsSome, Some, None, Result}
use Rattle.std.specs.FinMap.{get, insert}
use Rattle.sqlite.specs.Order.{Row}
use Rattle.sqlite.specs.State.{State as Store}
use Rattle.reg_blocks.specs.Block.{Clash, SizedPrefix}
use Rattle.reg_core.specs.Minutes.{bare_ask}
use Rattle.reg_core.specs.WellKept.{WellKept, CanApply}
use Rattle.reg_core.specs.World.{Place, RequestName, World, applied}
use Rattle.reg_core.specs.declared.change.Change.{Change}
use Rattle.reg_core.specs.declared.change.Change.TheVariants.{RevokeAll, Submit}
use Rattle.reg_core.specs.declared.entry.Entry.{Entry}
use Rattle.reg_core.specs.declared.entry.Registration.{Registration}
use Rattle.reg_core.specs.declared.holding.Holding.{Holding}
use Rattle.reg_core.specs.declared.request.Case.{Case}
use Rattle.reg_core.specs.declared.request.Given.TheVariants.{Value, Block}
use Rattle.reg_core.specs.declared.request.Request.{Request}
use Rattle.reg_core.specs.declared.request.State.{State}
use Rattle.reg_core.specs.declared.request.State.TheVariants.{Approved}
use Rattle.reg_records.specs.Requests.Forms.{gives_its_kind}
use Rattle.reg_statements.specs.Defined.{AllCan, Changes, KeepsTies, with_changed}
use Rattle.reg_statements.specs.Parts.{Parts, TableDef}
use Rattle.reg_rows.specs.Calls.{StepsIn}

-- the world is well kept, and the change fits it
pub record ChangeFits (change : Change) (w : World) : Type 0 where
  pub kept : WellKept w
  pub can : CanApply w change

-- the change writes to a row: all do, but that which takes away the capabilities at no digest
abbrev pub writes_row : Change → Bool
writes_row (RevokeAll []) = false
writes_row change = true

-- there is a request of the name, and what the state gives is of the kind that it asks for
abbrev pub AsksFor : RequestName → State → World → Type 0
AsksFor name state w =
    (case : Case) × (get w.requests name ≡ Some case) × (gives_its_kind case.ask state ≡ true)

-- an entry that is held expires
abbrev pub MayBeHeld : Entry → Type 0
MayBeHeld entry = entry.term.held ≡ true → IsSome entry.term.expires

-- the request of the name can be given this entry, or this block, which nobody was given
abbrev pub CanGiveValue : RequestName → Entry → World → Type 0
CanGiveValue name entry w = AsksFor name (Approved (Value entry.value)) w × MayBeHeld entry

abbrev pub CanGiveBlock : RequestName → Holding → World → Type 0
CanGiveBlock name holding w =
    AsksFor name (Approved (Block holding.block)) w × (get w.blocks holding.block ≡ None)

-- an office with this request more, which waits and names no minute
abbrev pub with_pending : Request → World → World
with_pending r w = applied w (Submit r.account r.reference (bare_ask r.ask))

-- an office with this registration at its place
abbrev pub with_registration : Place → Registration → World → World
with_registration place a w = record w { entries = insert w.entries place a }

-- the block was given, and shares an address with no other
abbrev pub SharesNone : SizedPrefix → World → Type 0
SharesNone block w =
    IsSome (get w.blocks block)
    × ((other : SizedPrefix) → IsSome (get w.blocks other) → Clash other block → other ≡ block)

-- the values of all rows that pass a test can be changed so, and the ties of rows are kept
abbrev pub CanChange : {T K X : Type 0} → TableDef T K X → (K → X → Bool) → (X → Bool) → (X → X)
    → Parts → Type 0
CanChange d test can changed p = AllCan d test can p × KeepsTies (with_changed d test changed) p

-- what an UPDATE leaves, whichever change of rows that pass a test the text is
abbrev pub ChangesRows : {T K X U E : Type 0} → TableDef T K X → List ℕ → Row → Store → Store
    → Result U E → Type 0
ChangesRows {K = K} {X = X} d sql params old new result =
    (test : K → X → Bool) (can : X → Bool) (changed : X → X)
    → Changes d sql params test can changed
    → StepsIn old new result (CanChange d test can changed) (with_changed d test changed)
