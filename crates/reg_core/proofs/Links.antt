-- Who is whose agent: what an account finds among its own links, and in which order.
use Rattle.std.proofs.Common.{◌≡◌, ℕ, Bool, true, false, cond, List, [], ◌∷◌, map, refl, sym, ap, ◌∙◌}
use Rattle.std.specs.Prelude.{Option, Some, None, IsSome, is_some, option_and_then}
use Rattle.std.specs.List.{AllByRecursion}
use Rattle.std.specs.List.Sorted.{IsStrictlySortedBy}
use Rattle.std.specs.FinMap.{get, contains_key, entries, keys, get-remove}
use Rattle.std.specs.FinSet.{FinSet}
use Rattle.std.specs.declared.cmp.Ordering.{Ordering}
use Rattle.std.specs.declared.cmp.Ordering.TheVariants.{Less, Equal, Greater}
use Rattle.std.specs.Ordering.{eq_by_cmp, ordering_then}
use Rattle.std.proofs.lemmas.Cmp.{tied_itself}
use Rattle.std.proofs.lemmas.List.Elements.{All-map, recursion_from_All}
use Rattle.std.proofs.lemmas.Slice.Eq.{bytes_eq-Decides}
use Rattle.reg_maps.specs.Maps.{text_cmp, same_text, only_if, select}
use Rattle.reg_maps.proofs.KeySets.{is_inserted}
use Rattle.reg_maps.proofs.MapLaws.{get-chosen, text_keys, same_at, get-at_insert, get-removed, get-select, All-entries, Contains-map, Contains-keys, ascending-keys}
use Rattle.reg_core.specs.Link.{agent_rows, principal_names}
use Rattle.reg_core.specs.Lists.{AccountList}
use Rattle.reg_core.specs.Times.{times_of, times_of_requests_by}
use Rattle.reg_core.specs.View.{agents_of, own_times, principals_of, principal_rows_of, requests_by, requests_of, times_by}
use Rattle.reg_core.specs.World.{World, Link, RequestName, link_cmp, applied}
use Rattle.reg_core.specs.declared.change.Change.TheVariants.{SetAgent}
use Rattle.reg_core.specs.declared.request.Case.{Case}
use Rattle.reg_core.proofs.SamenessIsDecided.{same_text-itself}
use Rattle.reg_core.proofs.KeyOrders.{name_keys, link_keys}

-- ---- After a change

module _ (w : World) (link : Link) where
  abbrev after : Bool → World
  after reads = applied w (SetAgent link.0 link.1 reads)

  -- the link is there as it is said
  pub link_is : (reads : Bool) → contains_key (after reads).agents link ≡ reads
  link_is true = is_inserted link_keys w.agents link tt
  link_is false = ap is_some (get-removed link_keys w.agents link)

  -- and each other one as before
  pub link_stays : (reads : Bool) (other : Link) → eq_by_cmp link_cmp other link ≡ false
      → contains_key (after reads).agents other ≡ contains_key w.agents other
  link_stays true other t =
      ap is_some (get-at_insert link_keys w.agents link tt other
      ∙ ap (λ b. cond b (Some tt) (get w.agents other)) t)
  link_stays false other t =
      ap is_some (get-remove link_keys.total w.agents link other
      ∙ ap (λ b. cond b None (get w.agents other)) t)

-- ---- What an account finds

-- what is kept anyway stays
kept_anyway : {X : Type 0} (b : Bool) (o : Option X) → b ≡ true
    → option_and_then (λ x. only_if b x) o ≡ o
kept_anyway b None t = refl
kept_anyway b (Some x) t = ap (λ b. only_if b x) t

-- among an account's own agents each of the account's is found
pub own_agent : (account agent : List ℕ) (w : World)
    → contains_key (agents_of account w) (account, agent) ≡ contains_key w.agents (account, agent)
own_agent account agent w =
    ap is_some (get-select link_keys
    (λ (link : Link) (u : Unit {0}). only_if (same_text link.0 account) u)
    w.agents (account, agent)
    ∙ kept_anyway (same_text account account) (get w.agents (account, agent))
    (same_text-itself account))

-- among its principals each whose agent it is
pub own_principal : (account principal : List ℕ) (w : World)
    → get (principals_of account w) (principal, account) ≡ get w.agents (principal, account)
own_principal account principal w =
    get-select link_keys (λ (link : Link) (u : Unit {0}). only_if (same_text link.1 account) u)
    w.agents (principal, account)
    ∙ kept_anyway (same_text account account) (get w.agents (principal, account))
    (same_text-itself account)

-- and among what is said of the requests of its principals what is said of those of each of them
pub of_principal : {X : Type 0} (said : RequestName → Case → X) (account principal : List ℕ)
    (w : World) → contains_key w.agents (principal, account) ≡ true
    → select (λ (name : RequestName) (x : X). only_if (same_text name.0 principal) x)
    (select (λ (name : RequestName) (case : Case).
    only_if (contains_key w.agents (name.0, account)) (said name case)) w.requests)
    ≡ select (λ (name : RequestName) (case : Case).
    only_if (same_text name.0 principal) (said name case)) w.requests
of_principal {X} said account principal w there = same_at name_keys _ _ (λ name.
    get-select name_keys (λ (name : RequestName) (x : X). only_if (same_text name.0 principal) x)
    (select (λ (name : RequestName) (case : Case).
    only_if (contains_key w.agents (name.0, account)) (said name case)) w.requests) name
    ∙ ap (option_and_then (λ (x : X). only_if (same_text name.0 principal) x))
    (get-select name_keys (λ (name : RequestName) (case : Case).
    only_if (contains_key w.agents (name.0, account)) (said name case)) w.requests name)
    ∙ at name (get w.requests name)
    ∙ sym (get-select name_keys (λ (name : RequestName) (case : Case).
    only_if (same_text name.0 principal) (said name case)) w.requests name))
  where
    at : (name : RequestName) (o : Option Case)
        → option_and_then (λ (x : X). only_if (same_text name.0 principal) x)
        (option_and_then (λ (case : Case).
        only_if (contains_key w.agents (name.0, account)) (said name case)) o)
        ≡ option_and_then (λ (case : Case).
        only_if (same_text name.0 principal) (said name case)) o
    at name None = refl
    at name (Some case) =
        by (same_text name.0 principal) (contains_key w.agents (name.0, account)) refl refl
      where
        by : (same reads : Bool) → same_text name.0 principal ≡ same
            → contains_key w.agents (name.0, account) ≡ reads
            → option_and_then (λ (x : X). only_if same x) (only_if reads (said name case))
            ≡ only_if same (said name case)
        by same true s r = refl
        by false false s r = refl
        by true false s r =
            let its_own : contains_key w.agents (name.0, account) ≡ true =
            ap (λ p. contains_key w.agents (p, account)) ((bytes_eq-Decides name.0 principal).0 s)
            ∙ there in
            absurd (cc)

-- so the requests of each principal are among them, and their times
pub own_principal_rows : (account principal : List ℕ) (w : World)
    → contains_key w.agents (principal, account) ≡ true
    → requests_by principal (principal_rows_of account w) ≡ requests_of principal w
own_principal_rows = of_principal (λ name case. case)

pub own_principal_times : (account principal : List ℕ) (w : World)
    → contains_key w.agents (principal, account) ≡ true
    → times_of_requests_by principal (own_times account w).principals
    ≡ times_by (λ applicant. same_text applicant principal) w
own_principal_times account principal w =
    of_principal (times_of w.journal) account principal w

-- ---- In which order

-- a part of a link that is the same in all of them, and the other part
module _ (fixed other : Link → List ℕ)
    (less : (k l : Link) → fixed k ≡ fixed l → link_cmp k l ≡ Less
    → text_cmp (other k) (other l) ≡ Less) (account : List ℕ) where
  below : (k : Link) (ks : List Link) → fixed k ≡ account
      → AllByRecursion (λ l. link_cmp k l ≡ Less) ks
      → AllByRecursion (λ l. fixed l ≡ account) ks
      → AllByRecursion (λ name. text_cmp (other k) name ≡ Less) (map other ks)
  below k [] p under of = tt
  below k (l ∷ ls) p under of =
      (less k l (p ∙ sym of.0) under.0, below k ls p under.1 of.1)

  rising : (ks : List Link) → IsStrictlySortedBy link_cmp ks
      → AllByRecursion (λ l. fixed l ≡ account) ks
      → IsStrictlySortedBy text_cmp (map other ks)
  unfolding IsStrictlySortedBy
  rising [] sorted of = tt
  rising (k ∷ ks) sorted of = (below k ks of.0 sorted.0 of.1, rising ks sorted.1 of.1)

  -- of links of the account, the other parts ascend
  others_ascend : (links : FinSet link_cmp)
      → ((link : Link) (u : Unit {0}) → get links link ≡ Some u → fixed link ≡ account)
      → IsStrictlySortedBy text_cmp (map other (keys links))
  others_ascend links of =
      rising (keys links) (ascending-keys links)
      (recursion_from_All (λ link. fixed link ≡ account) (keys links)
      (All-map (λ link. fixed link ≡ account) (λ e. e.0) (entries links)
      (All-entries link_keys.total (λ e. fixed e.0 ≡ account) links of)))

-- of links with the same principal the agents are in order, and of links with the same agent the
-- principals
same_principal : (k l : Link) → k.0 ≡ l.0 → link_cmp k l ≡ Less → text_cmp k.1 l.1 ≡ Less
same_principal k l p less =
    let tie : text_cmp k.0 l.0 ≡ Equal = rw p (tied_itself text_keys.total l.0) in
    sym (ap (λ o. ordering_then o (text_cmp k.1 l.1)) tie) ∙ less

same_agent : (k l : Link) → k.1 ≡ l.1 → link_cmp k l ≡ Less → text_cmp k.0 l.0 ≡ Less
same_agent k l p less =
    let tie : text_cmp k.1 l.1 ≡ Equal = rw p (tied_itself text_keys.total l.1) in
    by (text_cmp k.0 l.0) (sym (ap (ordering_then (text_cmp k.0 l.0)) tie) ∙ less)
  where
    by : (o : Ordering) → ordering_then o Equal ≡ Less → o ≡ Less
    by Less h = refl
    by Equal h = absurd (cc)
    by Greater h = absurd (cc)

module _ (w : World) (account : List ℕ) where
  agent_found : (link : Link) (u : Unit {0}) → get (agents_of account w) link ≡ Some u
      → (get w.agents link ≡ Some u) × (link.0 ≡ account)
  agent_found link u is =
      let found = get-chosen link_keys (λ link u. same_text link.0 account) w.agents link u is in
      (found.0, (bytes_eq-Decides link.0 account).0 found.1)

  principal_found : (link : Link) (u : Unit {0}) → get (principals_of account w) link ≡ Some u
      → (get w.agents link ≡ Some u) × (link.1 ≡ account)
  principal_found link u is =
      let found = get-chosen link_keys (λ link u. same_text link.1 account) w.agents link u is in
      (found.0, (bytes_eq-Decides link.1 account).0 found.1)

  -- a link that is there has its row
  there : (o : Option (Unit {0})) → IsSome o → o ≡ Some tt
  there None h = absurd (cc)
  there (Some u) h = refl

  -- an account's agents, and its principals, are whole lists
  pub agent_list : AccountList (agent_rows (agents_of account w))
      (λ agent. contains_key w.agents (account, agent) ≡ true)
  agent_list =
      let own = agents_of account w in
      let Is : List ℕ → Type 0 = λ agent. contains_key w.agents (account, agent) ≡ true in
      record {
        only = All-map Is (λ (link : Link). link.1) (keys own)
            (All-map (λ (link : Link). Is link.1) (λ e. e.0) (entries own)
            (All-entries link_keys.total (λ e. Is e.0.1) own (λ link u is.
            let found = agent_found link u is in
            ap (λ a. contains_key w.agents (a, link.1)) (sym found.1) ∙ ap is_some found.0)));
        every = λ agent is.
            Contains-map (λ (link : Link). link.1) (keys own) (account, agent)
            (Contains-keys link_keys own (account, agent) tt
            (there (get own (account, agent)) (own_agent account agent w ∙ is)));
        ascending = others_ascend (λ link. link.0) (λ link. link.1) same_principal account own
            (λ link u is. (agent_found link u is).1);
      }

  pub principal_list : AccountList (principal_names (principals_of account w))
      (λ principal. contains_key w.agents (principal, account) ≡ true)
  principal_list =
      let own = principals_of account w in
      let Is : List ℕ → Type 0 = λ principal. contains_key w.agents (principal, account) ≡ true in
      record {
        only = All-map Is (λ (link : Link). link.0) (keys own)
            (All-map (λ (link : Link). Is link.0) (λ e. e.0) (entries own)
            (All-entries link_keys.total (λ e. Is e.0.0) own (λ link u is.
            let found = principal_found link u is in
            ap (λ a. contains_key w.agents (link.0, a)) (sym found.1) ∙ ap is_some found.0)));
        every = λ principal is.
            Contains-map (λ (link : Link). link.0) (keys own) (principal, account)
            (Contains-keys link_keys own (principal, account) tt
            (there (get own (principal, account))
            (ap is_some (own_principal account principal w) ∙ is)));
        ascending = others_ascend (λ link. link.1) (λ link. link.0) same_agent account own
            (λ link u is. (principal_found link u is).1);
      }
