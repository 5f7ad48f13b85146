-- Blocks are apart in every run, asks for them are served duly, and what is private of them stays
-- hidden.
use Rattle.std.proofs.Common.{◌≡◌, ℕ, Bool, true, false, List, refl, sym, ap, subst, ◌∙◌, inl, inr}
use Rattle.std.specs.Prelude.{Option, Some, None, Ok, Err, IsSome, is_some, option_map, option_and_then, ◌⊎◌, if◌then◌else◌}
use Rattle.reg_core.proofs.Common.{first_so, second_so, FinMap, get, contains_key, bytes_eq-Decides}
use Rattle.reg_core.proofs.Common.{same_text, only_if, same_at, get-select, SizedPrefix, block_cmp}
use Rattle.reg_core.proofs.Common.{leading_24, is_in_clock, Answer, admitted, as_kind, change_of}
use Rattle.reg_core.proofs.Common.{reply_of, by_rule, same_size, masked, masked_blocks, ShownHolding}
use Rattle.reg_core.proofs.Common.{holding_row, with_mark, GivesDigests, private_rule, world_after}
use Rattle.reg_core.proofs.Common.{answer_to, published, Personal, personal, holdings_of, view_of}
use Rattle.reg_core.proofs.Common.{cap_at, with_personal, WellKept, is_held_by, stands_in, World}
use Rattle.reg_core.proofs.Common.{pending, carried, times_seen}
use Rattle.reg_laws.proofs.Types.{Ask, BlockAsk, Cap, Holder, Holding, Given}
use Rattle.reg_core.proofs.Common.{block_keys, same_size-is}
use Rattle.reg_laws.proofs.Types.{State}
use Rattle.reg_core.specs.Allowance.{◌>>=◌, allowed, ground_of, or_refusal}
use Rattle.reg_core.specs.BlocksGiven.{BlocksAreApart, IsDueIn, IsBlockGivenDuly, BlockAsksAreServedDuly, AreHidden, PrivateHoldersAreHidden, IsNotHeld, ForeignBlocksAreHidden}
use Rattle.reg_core.specs.declared.ask.Ask.TheVariants.{Block}
use Rattle.reg_core.specs.declared.capability.Kind.TheVariants as kind
use Rattle.reg_core.specs.declared.command.Command.TheVariants.{Applicant}
use Rattle.reg_core.specs.declared.command.ApplicantCommand.TheVariants.{SetListing}
use Rattle.reg_core.specs.declared.told.Told.TheVariants as tells
use Rattle.reg_core.specs.declared.refusal.Refusal.TheVariants as no
use Rattle.reg_core.proofs.Allowances.{allowance_of, allows_block}
use Rattle.reg_core.proofs.Blocks.{due_is_due, holding_found}
use Rattle.reg_core.proofs.Keeping.RunsKeepWell.{runs_keep}
use Rattle.reg_core.proofs.Outcomes.Dues.{GivesBlock, changes_due}
use Rattle.reg_laws.proofs.AsksInVain.{never_changes}
use Rattle.reg_laws.proofs.TwoWorlds.{worlds_alike}

-- ---- Blocks are apart

pub blocks_apart : (digest_of : List ℕ → List ℕ) → GivesDigests digest_of
    → BlocksAreApart digest_of
blocks_apart digest_of digests w events kept forms =
    let v = world_after digest_of w events in
    let well = runs_keep digest_of digests w events kept forms in
    record {
      in_pool = λ block there. by v well block (get v.blocks block) refl there;
      apart = well.apart;
    }
  where
    by : (v : World) (well : WellKept v) (block : SizedPrefix) (o : Option Holder)
        → get v.blocks block ≡ o → IsSome o → contains_key v.pool (leading_24 block) ≡ true
    by v well block None is there = absurd (cc)
    by v well block (Some h) is there = well.in_pool block h is

-- ---- What an ask for a block is given

some_block : (w : World) (account : List ℕ) (ask : BlockAsk) (given : Given)
    → allowed (published w) account (Block ask) ≡ Ok given
    → (block : SizedPrefix) × IsDueIn w ask.size block
some_block w account ask given h =
    let rows = ground_of (published w) (Block ask) in
    let whole = allowance_of rows account (Block ask) given h in
    let is = allows_block rows account ask whole.0 whole.1 in
    (is.block, due_is_due w ask.size is.block is.due)

given_duly : (w : World) (account reference : List ℕ) (holding : Holding)
    → GivesBlock w (account, reference) holding → IsBlockGivenDuly w account reference holding
given_duly w account reference holding gives =
    let was = gives.pending in
    let itself : was.case ≡ pending (Block gives.ask) =
    λ i. record { ask = gives.asks i; state = was.state i } in
    record {
      ask = gives.ask;
      request = was.is_there ∙ ap Some itself;
      due = gives.due;
      holder = ap (λ (h : Holding). h.holder) (sym gives.is);
      organization = ap (λ (h : Holding). h.organization) (sym gives.is);
      address = ap (λ (h : Holding). h.address) (sym gives.is);
      listed = ap (λ (h : Holding). h.private) (sym gives.is);
    }

-- the block is there, and this account holds it
held : (account : List ℕ) (existing : Option Holder) → is_held_by account existing ≡ true
    → (h : Holder) × (existing ≡ Some h) × (h.account ≡ account)
held account None h = absurd (cc)
held account (Some h) is = (h, refl, (bytes_eq-Decides h.account account).0 is)

pub served_duly : (digest_of : List ℕ → List ℕ) → BlockAsksAreServedDuly digest_of
served_duly digest_of = record {
  submitted = λ w caller moment command account reference ask made.
      let due = (changes_due digest_of w caller moment command _ made).due in
      some_block w account ask due.2 due.3;
  approved = λ w caller moment command account reference holding made.
      given_duly w account reference holding
      (changes_due digest_of w caller moment command _ made).due.1;
  stands = λ w name case ask block kept is asks approved.
      let stands =
      subst (λ (x : Ask × State). stands_in w.entries w.blocks name.0 x.0 x.1 ≡ true)
      (λ i. (asks i, approved i)) (kept.given name case is) in
      let its = is_held_by name.0 (get w.blocks block) in
      let of = held name.0 (get w.blocks block)
      (second_so (same_size block.size ask.size) its stands) in (
        same_size-is block.size ask.size (first_so (same_size block.size ask.size) its stands),
        of.0,
        of.1,
        of.2,
      );
}

-- ---- Private holders

module _ (w : World) (n : FinMap block_cmp Holder) (caller : Option (List ℕ))
    (same_blocks : (block : SizedPrefix) → contains_key w.blocks block ≡ contains_key n block)
    (hidden : (block : SizedPrefix) (h k : Holder) → get w.blocks block ≡ Some h
    → get n block ≡ Some k → (h ≡ k) ⊎ AreHidden (cap_at w caller) h k) where
  -- the world with the other holders
  abbrev v : World
  v = record w { blocks = n }

  -- what is chosen alike of equal and of hidden holders is chosen alike at each block
  alike_at : {Y : Type 0} (f : Holder → Option Y)
      → ((h k : Holder) → AreHidden (cap_at w caller) h k → f h ≡ f k) → (block : SizedPrefix)
      → option_and_then f (get w.blocks block) ≡ option_and_then f (get n block)
  alike_at f each block = by (get w.blocks block) (get n block) refl refl (same_blocks block)
    where
      by : (o p : Option Holder) → get w.blocks block ≡ o → get n block ≡ p
          → is_some (get w.blocks block) ≡ is_some (get n block)
          → option_and_then f o ≡ option_and_then f p
      by None None is at same = refl
      by (Some h) (Some k) is at same =
          elim (hidden block h k is at) [
            | inl equal ↦ ap f equal
            | inr both ↦ each h k both
          ]
      by None (Some k) is at same =
          let one = ap is_some is in let two = ap is_some at in absurd (cc)
      by (Some h) None is at same =
          let one = ap is_some is in let two = ap is_some at in absurd (cc)

  masked_alike : masked_blocks w.blocks ≡ masked_blocks n
  masked_alike = same_at block_keys _ _ (λ block.
      get-select block_keys (λ block h. Some (masked h)) w.blocks block
      ∙ alike_at (λ h. Some (masked h)) both_masked block
      ∙ sym (get-select block_keys (λ block h. Some (masked h)) n block))
    where
      nothing : ShownHolding
      nothing = record { organization = None; address = None }

      bare : (h : Holder) (b : Bool) → h.private ≡ b → b ≡ true → masked h ≡ nothing
      bare h true is private = rw is refl
      bare h false is private = absurd (cc)

      both_masked : (h k : Holder) → AreHidden (cap_at w caller) h k
          → Some (masked h) ≡ Some (masked k)
      both_masked h k both =
          ap Some (bare h h.private refl both.first ∙ sym (bare k k.private refl both.second))

  -- the caller's own blocks are the same
  own_alike : (cap : Cap) → cap_at w caller ≡ Some cap
      → holdings_of cap.account w ≡ holdings_of cap.account v
  own_alike cap is_there = same_at block_keys _ _ (λ block.
      get-select block_keys (λ block h. only_if (same_text h.account cap.account) h) w.blocks block
      ∙ alike_at (λ h. only_if (same_text h.account cap.account) h) both_others block
      ∙ sym (get-select block_keys
      (λ block h. only_if (same_text h.account cap.account) h) n block))
    where
      other : (h : Holder) → ¬ (h.account ≡ cap.account)
          → (b : Bool) → same_text h.account cap.account ≡ b → only_if b h ≡ None
      other h foreign true t = absurd (foreign ((bytes_eq-Decides h.account cap.account).0 t))
      other h foreign false t = refl

      both_others : (h k : Holder) → AreHidden (cap_at w caller) h k
          → only_if (same_text h.account cap.account) h
          ≡ only_if (same_text k.account cap.account) k
      both_others h k both =
          other h (both.not_first cap is_there) (same_text h.account cap.account) refl
          ∙ sym (other k (both.not_second cap is_there) (same_text k.account cap.account) refl)

  same_view : view_of w caller ≡ view_of v caller
  same_view =
      let me = by (cap_at w caller) refl in
      λ i. record {
        published = record (published w) { blocks = masked_alike i };
        me = me i;
        times = times_seen w caller;
      }
    where
      by : (o : Option Cap) → cap_at w caller ≡ o
          → option_map (with_personal w) o ≡ option_map (with_personal v) o
      by None is_there = refl
      by (Some cap) is_there =
          let held = own_alike cap is_there in
          ap (λ (m : FinMap block_cmp Holder).
          Some (cap, record (personal cap.account w) { holdings = m })) held

pub private_hidden : (digest_of : List ℕ → List ℕ) → PrivateHoldersAreHidden digest_of
private_hidden digest_of w v caller moment command kept_w kept_v not_clerk differ =
    worlds_alike digest_of w v caller moment command kept_w kept_v not_clerk
    (same_view w v.blocks caller differ.same_blocks differ.hidden
    ∙ ap (λ x. view_of x caller) (sym differ.others))

-- ---- Blocks of others

-- the answer to a caller who may list no such block
abbrev unlisted : Option (Cap × Personal) → ℕ → Answer
unlisted me moment =
    if is_in_clock moment
    then as_kind kind.Applicant me moment (λ account my. Err no.Holding) else Err no.Clock

-- a refusal changes nothing
no_change : (me : Option (Cap × Personal)) (moment : ℕ) → change_of (unlisted me moment) ≡ None
no_change me moment = never_changes me moment (λ account my. Err no.Holding) (λ account my. refl)

module _ (digest_of : List ℕ → List ℕ) (w : World) (caller : Option (List ℕ)) (moment : ℕ) where
  -- a block that the caller does not hold is not among its own
  not_own : (block : SizedPrefix) → IsNotHeld w (cap_at w caller) block → (cap : Cap)
      → cap_at w caller ≡ Some cap → get (holdings_of cap.account w) block ≡ None
  not_own block foreign cap is_there = by (get (holdings_of cap.account w) block) refl
    where
      by : (o : Option Holder) → get (holdings_of cap.account w) block ≡ o
          → get (holdings_of cap.account w) block ≡ None
      by None is = is
      by (Some h) is =
          let found = holding_found cap.account w block h is in
          absurd (foreign cap h is_there found.0 found.1)

  answered : (block : SizedPrefix) (private : Bool) → IsNotHeld w (cap_at w caller) block
      → answer_to digest_of w caller moment (Applicant (SetListing block private))
      ≡ unlisted (option_map (with_personal w) (cap_at w caller)) moment
  answered block private foreign =
      ap (λ a. if is_in_clock moment then a else Err no.Clock) (by (cap_at w caller) refl)
    where
      listing : Personal → Answer
      listing my =
          or_refusal no.Holding (get my.holdings block) >>= (λ (h : Holder).
          by_rule (Ok (private_rule block private h.private))
          (λ decision. tells.Held (holding_row block (with_mark private h))))

      by : (o : Option Cap) → cap_at w caller ≡ o
          → as_kind kind.Applicant (option_map (with_personal w) o) moment
          (λ account my. listing my)
          ≡ as_kind kind.Applicant (option_map (with_personal w) o) moment
          (λ account my. Err no.Holding)
      by None is = refl
      by (Some cap) is =
          let gone = not_own block foreign cap is in
          ap (λ (x : Option Holder).
          admitted (Some cap) moment kind.Applicant >>= (λ (c : Cap).
          or_refusal no.Holding x >>= (λ (h : Holder).
          by_rule (Ok (private_rule block private h.private))
          (λ decision. tells.Held (holding_row block (with_mark private h)))))) gone

pub foreign_hidden : (digest_of : List ℕ → List ℕ) → ForeignBlocksAreHidden digest_of
foreign_hidden digest_of w caller moment a b private other not_a not_b =
    let one = answered digest_of w caller moment a private not_a in
    let two = answered digest_of w caller moment b other not_b in
    let none = no_change (option_map (with_personal w) (cap_at w caller)) moment in (
      ap reply_of (one ∙ sym two),
      ap (carried w caller moment) (ap change_of one ∙ none),
      ap (carried w caller moment) (ap change_of two ∙ none),
    )
