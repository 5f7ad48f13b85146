-- The blocks of each account, as they change.
use Rattle.std.proofs.Common.{◌≡◌, ℕ, Bool, true, false, cond, ◌&&◌, List, [], ◌∷◌, map, refl, sym, ap, subst, ◌∙◌}
use Rattle.std.specs.Prelude.{Option, Some, None, option_map, option_and_then, filter_map}
use Rattle.std.specs.Ordering.{eq_by_cmp}
use Rattle.std.specs.Cmp.{eq_by_cmp_equiv}
use Rattle.std.specs.BTreeMap.{BTreeMap}
use Rattle.std.specs.FinMap.{FinMap, get, get-remove, insert, remove, entries, entries_sorted, get-entries, get-empty, from_entries}
use Rattle.std.proofs.lemmas.Map.Text.{is_eq-slice_cmp}
use Rattle.std.proofs.lemmas.Slice.Eq.{bytes_eq-Decides}
use Rattle.reg_maps.specs.Maps.{text_cmp, same_text, only_if, keyed, update, finite_map}
use Rattle.reg_maps.specs.Groups.{group_at, rows_in}
use Rattle.reg_maps.proofs.MapLaws.{IsKeyOrder, text_keys, pair_keys, tied, get-select, entries-select, get-at_insert, get-update}
use Rattle.reg_maps.proofs.FiniteMaps.Ordered.{find_is}
use Rattle.reg_maps.proofs.Orderings.{tie}
use Rattle.reg_maps.proofs.FiniteMaps.InOrder.{group_is, map-group_rows}
use Rattle.reg_blocks.specs.Block.{SizedPrefix, block_cmp}
use Rattle.reg_core.specs.Holding.{holding_row, holding_rows, listed_row, listed_rows, masked, masked_blocks, with_mark}
use Rattle.reg_core.specs.View.{holdings_of}
use Rattle.reg_core.specs.declared.holding.Holder.{Holder}
use Rattle.reg_core.proofs.KeyOrders.{block_keys}
use Rattle.reg_store.specs.Lists.Held.{Held, held_cmp, all_held, block_world, AreHeld, account_of}

pub held_keys : IsKeyOrder held_cmp
held_keys = pair_keys text_keys block_keys

-- the holder, where it is this account
abbrev own : List ℕ → Holder → Option Holder
own account h = only_if (same_text h.account account) h

at_account : (account : List ℕ) (blocks : FinMap block_cmp Holder) (block : SizedPrefix)
    → get (holdings_of account (block_world blocks)) block
    ≡ option_and_then (own account) (get blocks block)
at_account account blocks block =
    get-select block_keys (λ block h. own account h) blocks block

-- an account and a block are those of a holder where both are
tied_at : (account : List ℕ) (block : SizedPrefix) (holder : List ℕ) (at : SizedPrefix)
    → eq_by_cmp held_cmp (account, block) (holder, at)
    ≡ (same_text holder account && eq_by_cmp block_cmp block at)
tied_at account block holder at =
    (eq_by_cmp_equiv held_keys.total).symm (account, block) (holder, at)
    ∙ tie (text_cmp holder account) (block_cmp at block)
    ∙ (λ i. is_eq-slice_cmp holder account i
    && (eq_by_cmp_equiv block_keys.total).symm at block i)

-- ---- No block

pub held-empty : (holders : BTreeMap SizedPrefix Holder) (held : Held)
    → holders.entries ≡ [] → held.entries ≡ [] → AreHeld (finite_map block_cmp holders) (all_held held)
held-empty holders held no_holder none account block =
    ap (λ es. get (from_entries {R = held_cmp} (rows_in es)) (account, block)) none
    ∙ get-empty held_cmp (account, block)
    ∙ sym (at_account account (finite_map block_cmp holders) block
    ∙ ap (λ es. option_and_then (own account) (get (from_entries {R = block_cmp} es) block))
    no_holder
    ∙ ap (option_and_then (own account)) (get-empty block_cmp block))

-- ---- After a change

module _ (blocks : FinMap block_cmp Holder) (held : FinMap held_cmp Holder)
    (are : AreHeld blocks held) (block : SizedPrefix) where
  has : (a : List ℕ) (b : SizedPrefix) → get held (a, b) ≡ option_and_then (own a) (get blocks b)
  has a b = are a b ∙ at_account a blocks b

  -- what an account has at the very block
  at_block : (a : List ℕ) (b : SizedPrefix) (o : Option Holder) → get blocks block ≡ o
      → eq_by_cmp block_cmp b block ≡ true
      → option_and_then (own a) (get blocks b) ≡ option_and_then (own a) o
  at_block a b o is t =
      ap (λ k. option_and_then (own a) (get blocks k)) (tied block_keys b block t)
      ∙ ap (option_and_then (own a)) is

  -- nobody holds a block that is not there
  pub not_held : get blocks block ≡ None → (a : List ℕ) → get held (a, block) ≡ None
  not_held absent a = has a block ∙ ap (option_and_then (own a)) absent

  -- a block that was given to nobody is given to a holder
  pub held-put : (h : Holder) → get blocks block ≡ None
      → AreHeld (insert blocks block h) (insert held (h.account, block) h)
  held-put h absent a b =
      let was = option_and_then (own a) (get blocks b) in
      let mine = same_text h.account a in
      get-at_insert held_keys held (h.account, block) h (a, b)
      ∙ (λ i. cond (tied_at a b h.account block i) (Some h) (has a b i))
      ∙ elim (eq_by_cmp block_cmp b block) as (λ t. eq_by_cmp block_cmp b block ≡ t
      → cond (mine && t) (Some h) was
      ≡ option_and_then (own a) (cond t (Some h) (get blocks b))) [
        | true ↦ λ t. elim mine as (λ m. cond (m && true) (Some h) was ≡ only_if m h) [
          | true ↦ refl
          | false ↦ at_block a b None absent t
        ]
        | false ↦ λ t. elim mine as (λ m. cond (m && false) (Some h) was ≡ was)
            [ true ↦ refl | false ↦ refl ]
      ] refl
      ∙ sym (at_account a (insert blocks block h) b
      ∙ ap (option_and_then (own a)) (get-at_insert block_keys blocks block h b))

  -- a block is taken away from its holder
  held-taken : (h : Holder) → get blocks block ≡ Some h
      → AreHeld (remove blocks block) (remove held (h.account, block))
  held-taken h there a b =
      let was = option_and_then (own a) (get blocks b) in
      let mine = same_text h.account a in
      get-remove held_keys.total held (h.account, block) (a, b)
      ∙ (λ i. cond (tied_at a b h.account block i) None (has a b i))
      ∙ elim (eq_by_cmp block_cmp b block) as (λ t. eq_by_cmp block_cmp b block ≡ t
      → cond (mine && t) None was ≡ option_and_then (own a) (cond t None (get blocks b))) [
        | true ↦ λ t. elim mine as (λ m. mine ≡ m → cond (m && true) None was ≡ None) [
          | true ↦ λ m. refl
          | false ↦ λ m. at_block a b (Some h) there t ∙ ap (λ m. only_if m h) m
        ] refl
        | false ↦ λ t. elim mine as (λ m. cond (m && false) None was ≡ was)
            [ true ↦ refl | false ↦ refl ]
      ] refl
      ∙ sym (at_account a (remove blocks block) b
      ∙ ap (option_and_then (own a)) (get-remove block_keys.total blocks block b))

  -- and from its account's order too
  pub held-take : (account : List ℕ) → Some account ≡ option_map account_of (get blocks block)
      → AreHeld (remove blocks block) (remove held (account, block))
  held-take account e = from (get blocks block) refl e
    where
      from : (o : Option Holder) → get blocks block ≡ o
          → Some account ≡ option_map account_of o
          → AreHeld (remove blocks block) (remove held (account, block))
      from None is e = absurd (cc)
      from (Some h) is e =
          let same : account ≡ h.account = cc in
          subst (λ (a : List ℕ). AreHeld (remove blocks block) (remove held (a, block)))
          (sym same) (held-taken h is)

  module _ (private : Bool) where
    -- the mark of a holder is changed
    held-marked : (h : Holder) → get blocks block ≡ Some h
        → AreHeld (update blocks block (with_mark private))
        (update held (h.account, block) (with_mark private))
    held-marked h there a b =
        let was = option_and_then (own a) (get blocks b) in
        let mine = same_text h.account a in
        let marked = with_mark private h in
        let its_own : get held (h.account, block) ≡ Some h =
        has h.account block ∙ ap (option_and_then (own h.account)) there
        ∙ ap (λ m. only_if m h) ((bytes_eq-Decides h.account h.account).1 refl) in
        get-update held_keys held (h.account, block) (with_mark private) (a, b)
        ∙ (λ i. cond (tied_at a b h.account block i) (option_map (with_mark private) (its_own i))
        (has a b i))
        ∙ elim (eq_by_cmp block_cmp b block) as (λ t. eq_by_cmp block_cmp b block ≡ t
        → cond (mine && t) (Some marked) was
        ≡ option_and_then (own a) (cond t (Some marked) (get blocks b))) [
          | true ↦ λ t.
              elim mine as
              (λ m. mine ≡ m → cond (m && true) (Some marked) was ≡ only_if m marked) [
                | true ↦ λ m. refl
                | false ↦ λ m. at_block a b (Some h) there t ∙ ap (λ m. only_if m h) m
              ] refl
          | false ↦ λ t. elim mine as (λ m. cond (m && false) (Some marked) was ≡ was)
              [ true ↦ refl | false ↦ refl ]
        ] refl
        ∙ sym (at_account a (update blocks block (with_mark private)) b
        ∙ ap (option_and_then (own a)) (get-update block_keys blocks block (with_mark private) b
        ∙ ap (λ o. cond (eq_by_cmp block_cmp b block) (option_map (with_mark private) o)
        (get blocks b)) there))

    -- and in its account's order too
    pub held-mark : (account : List ℕ) → Some account ≡ option_map account_of (get blocks block)
        → AreHeld (update blocks block (with_mark private))
        (update held (account, block) (with_mark private))
    held-mark account e = from (get blocks block) refl e
      where
        from : (o : Option Holder) → get blocks block ≡ o
            → Some account ≡ option_map account_of o
            → AreHeld (update blocks block (with_mark private))
            (update held (account, block) (with_mark private))
        from None is e = absurd (cc)
        from (Some h) is e =
            let same : account ≡ h.account = cc in
            subst (λ (a : List ℕ). AreHeld (update blocks block (with_mark private))
            (update held (a, block) (with_mark private))) (sym same) (held-marked h is)

-- ---- Whole lists

-- the blocks of an account are those of its group
pub holding_rows-group : (blocks : FinMap block_cmp Holder) (held : FinMap held_cmp Holder)
    → AreHeld blocks held → (account : List ℕ)
    → holding_rows (holdings_of account (block_world blocks))
    ≡ map (λ e. holding_row e.0.1 e.1) (entries (group_at text_cmp held account))
holding_rows-group blocks held are account =
    let own_blocks = holdings_of account (block_world blocks) in
    let row : List ℕ × SizedPrefix → Holder → _ = λ place h. holding_row place.1 h in
    sym (ap (map (λ e. row e.0 e.1))
    (group_is text_keys block_keys held account (entries own_blocks) (entries_sorted own_blocks)
    (λ b. are account b ∙ get-entries own_blocks b ∙ find_is block_cmp b (entries own_blocks)))
    ∙ map-group_rows row account (entries own_blocks))

listed-keyed : (es : List (SizedPrefix × Holder))
    → map (λ e. listed_row e.0 e.1) (filter_map (λ e. keyed e.0 (Some (masked e.1))) es)
    ≡ map (λ e. listed_row e.0 (masked e.1)) es
listed-keyed [] = refl
listed-keyed (e ∷ es) = ap (λ rows. listed_row e.0 (masked e.1) ∷ rows) (listed-keyed es)

-- the listing has each block as it is masked
pub listed_rows-masked : (blocks : FinMap block_cmp Holder)
    → listed_rows (masked_blocks blocks)
    ≡ map (λ e. listed_row e.0 (masked e.1)) (entries blocks)
listed_rows-masked blocks =
    ap (map (λ e. listed_row e.0 e.1))
    (entries-select block_keys (λ block h. Some (masked h)) blocks)
    ∙ listed-keyed (entries blocks)
