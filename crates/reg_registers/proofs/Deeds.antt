-- A change that is made with its acts.
use Rattle.std.proofs.Common.{◌≡◌, Bool, List, [], ◌∷◌, Ok, Result, refl, sym, ap, subst, ◌∙◌}
use Rattle.std.specs.Prelude.{ℕ, Some, Option, OnOk, OnErr, option_map}
use Rattle.std.specs.FinMap.{FinMap, get}
use Rattle.std.specs.Option.{option_to_list}
use Rattle.reg_maps.specs.Maps.{text_cmp}
use Rattle.reg_blocks.specs.Block.{SizedPrefix, block_cmp}
use Rattle.reg_core.specs.Holding.{holder_in, holding_row}
use Rattle.reg_core.specs.Journal.{acts_of, deeds_of, marked, recorded}
use Rattle.reg_core.specs.View.{holdings_of}
use Rattle.reg_core.specs.World.{World}
use Rattle.reg_core.specs.declared.capability.Cap.{Cap}
use Rattle.reg_core.specs.declared.change.Change.{Change}
use Rattle.reg_core.specs.declared.change.Change.TheVariants.{Revoke, RevokeAll, SetPrivate}
use Rattle.reg_core.specs.declared.holding.Holder.{Holder}
use Rattle.reg_core.specs.declared.holding.Holding.{Holding}
use Rattle.reg_core.specs.declared.journal.Act.{Act}
use Rattle.reg_core.specs.declared.journal.Deed.TheVariants as did
use Rattle.reg_core.specs.declared.journal.Stamp.{Stamp}
use Rattle.reg_core.proofs.Blocks.{holding_found}
use Rattle.reg_keeper.specs.Keeper.{Makes, Selects, applied_with}
use Rattle.reg_keeper.specs.declared.keeper.Fault.{Fault}
use Rattle.reg_keeper.proofs.Premises.{goes_on_then}
use Rattle.reg_registers.specs.Acts.{acts_in, deed_by}
use Rattle.reg_registers.specs.declared.acts.Acts.{Acts}
use Rattle.reg_registers.proofs.Rows.{holding_is}

-- what a change says by itself is all that is done by it
pub said : (caps : FinMap text_cmp Cap) (blocks : FinMap block_cmp Holder) (change : Change)
    → ((digest : List ℕ) → change ≡ Revoke digest → ⊥)
    → ((digests : List (List ℕ)) → change ≡ RevokeAll digests → ⊥)
    → ((block : SizedPrefix) (private : Bool) → change ≡ SetPrivate block private → ⊥)
    → option_to_list (deed_by change) ≡ deeds_of caps blocks change
said caps blocks (Revoke digest) one several mark = absurd (one digest refl)
said caps blocks (RevokeAll digests) one several mark = absurd (several digests refl)
said caps blocks (SetPrivate block private) one several mark = absurd (mark block private refl)
said caps blocks change one several mark = refl

-- a block that is among an account's is marked by that account
pub marks_own : (w : World) (account : List ℕ) (block : SizedPrefix) (private : Bool)
    (found : Option Holding) (row : Holding)
    → found ≡ option_map (holding_row block) (get (holdings_of account w) block)
    → found ≡ Some row
    → marked block private (get w.blocks block) ≡ did.Private account block private ∷ []
marks_own w account block private found row is there =
    let own = holding_is block (get (holdings_of account w) block) row (sym there ∙ is) in
    let held = holding_found account w block (holder_in row) own.0 in
    ap (marked block private) held.0
    ∙ ap (λ (account : List ℕ). did.Private account block private ∷ []) held.1

-- acts that were found, and a change that was then made with them: so the change was recorded
pub makes_recorded : {S : Type 0} {world : S → World} {Holds Sound : S → Type 0} {fails : Bool}
    {old mid new : S} {result : Result (Unit {0}) Fault} {found : Acts} {acts : List Act}
    (stamp : Stamp) (change : Change)
    → Selects world Holds Sound fails old mid (Ok found)
    (λ w given. acts_in given ≡ acts_of stamp w change)
    → acts ≡ acts_in found
    → Makes world Holds Sound fails mid new result (λ w. applied_with acts w change)
    → Makes world Holds Sound fails old new result (λ w. recorded stamp w change)
makes_recorded {world = world} {Holds = Holds} {old = old} {mid = mid} {new = new}
    {result = result} {acts = acts} stamp change finds are makes = record {
      made = λ h.
          subst (λ (w : World). OnOk result (world new ≡ w)) (is (makes.premise.before h))
          (makes.made h);
      kept = λ h.
          subst (λ (w : World). OnErr result (world new ≡ w))
          (finds.same (makes.premise.before h))
          (makes.kept h);
      premise = goes_on_then finds.premise makes.premise;
      fault = makes.fault;
    }
  where
    is : Holds mid → applied_with acts (world mid) change ≡ recorded stamp (world old) change
    is h =
        ap (λ w. applied_with acts w change) (finds.same h)
        ∙ ap (λ (acts : List Act). applied_with acts (world old) change) (are ∙ finds.value h)
