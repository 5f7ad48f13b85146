-- How what an account sees of agents and principals changes with what it says of an agent.
use Rattle.std.proofs.Common.{◌≡◌, ℕ, Bool, true, false, cond, List, refl, ap, ◌∙◌}
use Rattle.std.specs.Prelude.{Option, Some, None, is_some}
use Rattle.reg_core.proofs.Common.{eq_by_cmp, get, contains_key, both_ways, same_text, only_if, select}
use Rattle.reg_core.proofs.Common.{principals_of, principal_rows_of, times_by, link_keys, same_text-itself}
use Rattle.std.specs.FinSet.{FinSet}
use Rattle.reg_maps.proofs.MapLaws.{tied, get-at_insert, get-at_remove, select-insert_same, select-remove_same, select-insert_unchosen, select-remove_unchosen}
use Rattle.reg_core.specs.World.{World, Link, link_cmp, with_link}

-- whether the link is there, after it or another one was added or taken away
pub there_after : (reads : Bool) (link : Link) (links : FinSet link_cmp) (q : Link)
    → contains_key (with_link reads link links) q
    ≡ cond (eq_by_cmp link_cmp q link) reads (contains_key links q)
there_after true link links q =
    ap is_some (get-at_insert link_keys links link tt q) ∙ by (eq_by_cmp link_cmp q link)
  where
    by : (b : Bool) → is_some (cond b (Some tt) (get links q)) ≡ cond b true (contains_key links q)
    by true = refl
    by false = refl
there_after false link links q =
    ap is_some (get-at_remove link_keys links link q) ∙ by (eq_by_cmp link_cmp q link)
  where
    by : (b : Bool) → is_some (cond b None (get links q)) ≡ cond b false (contains_key links q)
    by true = refl
    by false = refl

-- what is chosen alike of links is so after the same is said of one
pub select-with_link_same : (f : Link → Unit {0} → Option (Unit {0})) (reads : Bool) (link : Link)
    (m n : FinSet link_cmp) → select {R = link_cmp} f m ≡ select {R = link_cmp} f n
    → select {R = link_cmp} f (with_link reads link m)
    ≡ select {R = link_cmp} f (with_link reads link n)
select-with_link_same f true link m n = select-insert_same link_keys f m n link tt
select-with_link_same f false link m n = select-remove_same link_keys f m n link

module _ (account agent : List ℕ) (reads : Bool) (apart : same_text agent account ≡ false) where
  abbrev its : Link
  its = (account, agent)

  -- a link of another agent's principal is another one than that to this agent
  other_link : (of : List ℕ) (links : FinSet link_cmp)
      → contains_key (with_link reads its links) (of, account) ≡ contains_key links (of, account)
  other_link of links =
      there_after reads its links (of, account)
      ∙ by (eq_by_cmp link_cmp (of, account) its) refl
    where
      by : (b : Bool) → eq_by_cmp link_cmp (of, account) its ≡ b
          → cond b reads (contains_key links (of, account)) ≡ contains_key links (of, account)
      by true t =
          let same : same_text account account ≡ same_text agent account =
          ap (λ (link : Link). same_text link.1 account) (tied link_keys (of, account) its t) in
          absurd (both_ways (same_text account account) (same ∙ apart) (same_text-itself account))
      by false t = refl

  pub principals_unchanged : (w : World)
      → principals_of account (record w { agents = with_link reads its w.agents })
      ≡ principals_of account w
  principals_unchanged w = by reads
    where
      chosen : Link → Unit {0} → Option (Unit {0})
      chosen link u = only_if (same_text link.1 account) u

      by : (reads : Bool)
          → select {R = link_cmp} chosen (with_link reads its w.agents)
          ≡ select {R = link_cmp} chosen w.agents
      by true =
          select-insert_unchosen link_keys chosen w.agents its (λ u. ap (λ b. only_if b u) apart) tt
      by false =
          select-remove_unchosen link_keys chosen w.agents its (λ u. ap (λ b. only_if b u) apart)

  pub principal_rows_unchanged : (w : World)
      → principal_rows_of account (record w { agents = with_link reads its w.agents })
      ≡ principal_rows_of account w
  principal_rows_unchanged w i =
      select (λ name case. only_if (other_link name.0 w.agents i) case) w.requests

  pub principal_times_unchanged : (w : World)
      → times_by (λ of. contains_key (with_link reads its w.agents) (of, account)) w
      ≡ times_by (λ of. contains_key w.agents (of, account)) w
  principal_times_unchanged w i = times_by (λ of. other_link of w.agents i) w
