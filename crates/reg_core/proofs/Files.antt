-- A request's experts, and the advice on it, as the world has them.
use Rattle.std.proofs.Common.{◌≡◌, ℕ, Bool, true, List, refl, ap, subst, ◌∙◌}
use Rattle.std.specs.Prelude.{Option, Some, None, option_and_then, is_some, All, Contains}
use Rattle.reg_core.proofs.Common.{first_so, second_so, both_true, FinMap, get, entries, contains_key}
use Rattle.reg_core.proofs.Common.{bytes_eq-Decides, same_text, only_if, get-select, All-entries}
use Rattle.reg_core.proofs.Common.{Contains-map, Contains-entries, IsAdvised, World, RequestName, Seat}
use Rattle.reg_core.proofs.Common.{seat_cmp, Advice, seat_keys, same_text-itself, get-chosen}
use Rattle.std.specs.List.{list_any}
use Rattle.std.proofs.lemmas.List.Elements.{All-contains, All-map}
use Rattle.std.proofs.lemmas.List.Folds.{Any-from_list_any, list_any_at}
use Rattle.std.proofs.lemmas.Bool.Decides.{same_from_decides}
use Rattle.reg_core.specs.Advice.{is_among, is_favourable, same_verdict}
use Rattle.reg_core.specs.File.{same_name, seats_of, experts_of, opinion, opinions_of, was_advised}
use Rattle.reg_core.specs.declared.advice.Opinion.{Opinion}
use Rattle.reg_core.specs.declared.advice.Verdict.{Verdict}
use Rattle.reg_core.specs.declared.advice.Verdict.TheVariants.{For, Against}

-- ---- Names

pub same_name-is : (a b : RequestName) → same_name a b ≡ true → a ≡ b
same_name-is a b h =
    let first = (bytes_eq-Decides a.0 b.0).0
    (first_so (same_text a.0 b.0) (same_text a.1 b.1) h) in
    let second =
    (bytes_eq-Decides a.1 b.1).0 (second_so (same_text a.0 b.0) (same_text a.1 b.1) h) in
    λ i. (first i, second i)

pub same_name-itself : (name : RequestName) → same_name name name ≡ true
same_name-itself name = both_true (same_text-itself name.0) (same_text-itself name.1)

-- ---- The rows of a request

module _ {X : Type 0} (name : RequestName) (m : FinMap seat_cmp X) where
  -- the rows of a request are rows of it
  pub seat_found : (seat : Seat) (x : X) → get (seats_of name m) seat ≡ Some x
      → get m (name, seat.1) ≡ Some x
  seat_found seat x h =
      let is = get-chosen seat_keys (λ seat x. same_name seat.0 name) m seat x h in
      subst (λ n. get m (n, seat.1) ≡ Some x) (same_name-is seat.0 name is.1) is.0

  -- and each row of it is among them
  pub found_seat : (expert : List ℕ) (x : X) → get m (name, expert) ≡ Some x
      → get (seats_of name m) (name, expert) ≡ Some x
  found_seat expert x is_there =
      get-select seat_keys (λ seat x. only_if (same_name seat.0 name) x) m (name, expert)
      ∙ ap (option_and_then (λ x. only_if (same_name name name) x)) is_there
      ∙ ap (λ b. only_if b x) (same_name-itself name)

-- ---- Tests of a list

-- of what holds of each, it holds of one that passes a test
one_passes : {A : Type 0} (P : A → Type 0) (test : A → Bool) (xs : List A) → All P xs
    → list_any test xs ≡ true → (x : A) × P x × (test x ≡ true)
one_passes P test xs all h =
    let at = Any-from_list_any test xs h in
    (at.1, All-contains P xs at.1 all (at.0, at.2, at.3), at.4)

-- and a test that one of the list passes is passed by the list
passes_one : {A : Type 0} (test : A → Bool) (xs : List A) (x : A) → Contains xs x → test x ≡ true
    → list_any test xs ≡ true
passes_one test xs x at t = list_any_at test xs at.0 x at.1 (ap test at.2 ∙ t)

-- ---- Experts

module _ (w : World) (name : RequestName) where
  each_expert : All (λ expert. contains_key w.queue (name, expert) ≡ true) (experts_of w name)
  each_expert =
      All-map (λ expert. contains_key w.queue (name, expert) ≡ true)
      (λ (e : Seat × Unit {0}). e.0.1) (entries (seats_of name w.queue))
      (All-entries seat_keys.total (λ e. contains_key w.queue (name, e.0.1) ≡ true)
      (seats_of name w.queue)
      (λ seat u is_there. ap is_some (seat_found name w.queue seat u is_there)))

  -- among a request's experts are those to whom it is assigned
  pub among_assigned : (expert : List ℕ) → is_among expert (experts_of w name) ≡ true
      → contains_key w.queue (name, expert) ≡ true
  among_assigned expert h =
      let one = one_passes (λ expert. contains_key w.queue (name, expert) ≡ true)
      (λ other. same_text other expert) (experts_of w name) each_expert h in
      subst (λ expert. contains_key w.queue (name, expert) ≡ true)
      ((bytes_eq-Decides one.0 expert).0 one.2) one.1

  pub assigned_among : (expert : List ℕ) → contains_key w.queue (name, expert) ≡ true
      → is_among expert (experts_of w name) ≡ true
  assigned_among expert h = from (get w.queue (name, expert)) refl h
    where
      from : (o : Option (Unit {0})) → get w.queue (name, expert) ≡ o → is_some o ≡ true
          → is_among expert (experts_of w name) ≡ true
      from None is_there h = absurd (cc)
      from (Some u) is_there h =
          let row = Contains-entries seat_keys (seats_of name w.queue) (name, expert) u
          (found_seat name w.queue expert u is_there) in
          let expert_there =
          Contains-map (λ (e : Seat × Unit {0}). e.0.1) (entries (seats_of name w.queue))
          ((name, expert), u) row in
          passes_one (λ other. same_text other expert) (experts_of w name) expert expert_there
          (same_text-itself expert)

  -- so the test of a request's experts is the test of the assignments
  pub among_experts : (expert : List ℕ)
      → is_among expert (experts_of w name) ≡ contains_key w.queue (name, expert)
  among_experts expert =
      same_from_decides (is_among expert (experts_of w name)) (contains_key w.queue (name, expert))
      (among_assigned expert, assigned_among expert) (λ t. t, λ t. t)

  each_opinion : All (λ (o : Opinion). get w.advice (name, o.expert) ≡ Some o.advice)
      (opinions_of w name)
  each_opinion =
      All-map (λ (o : Opinion). get w.advice (name, o.expert) ≡ Some o.advice)
      (λ (e : Seat × Advice). opinion e.0 e.1) (entries (seats_of name w.advice))
      (All-entries seat_keys.total (λ e. get w.advice (name, e.0.1) ≡ Some e.1)
      (seats_of name w.advice)
      (λ seat advice is_there. seat_found name w.advice seat advice is_there))

  verdict_for : (verdict : Verdict) → same_verdict verdict For ≡ true → verdict ≡ For
  verdict_for For h = refl
  verdict_for Against h = absurd (cc)

  -- a request that was advised has an expert to whom it is assigned and who is for it
  pub advised_by : was_advised w name ≡ true → IsAdvised w name
  advised_by h =
      let one = one_passes (λ (o : Opinion). get w.advice (name, o.expert) ≡ Some o.advice)
      (λ o. is_favourable (experts_of w name) o) (opinions_of w name) each_opinion h in
      let o : Opinion = one.0 in
      let among = second_so (same_verdict o.advice.verdict For)
      (is_among o.expert (experts_of w name)) one.2 in
      let for = first_so (same_verdict o.advice.verdict For)
      (is_among o.expert (experts_of w name)) one.2 in
      (o.expert, among_assigned o.expert among, o.advice, one.1, verdict_for o.advice.verdict for)

  -- and one that has such an expert was advised
  pub advised_is : IsAdvised w name → was_advised w name ≡ true
  advised_is so =
      let test : Opinion → Bool = λ o. is_favourable (experts_of w name) o in
      let row = Contains-entries seat_keys (seats_of name w.advice) (name, so.0) so.2
      (found_seat name w.advice so.0 so.2 so.3) in
      let among = Contains-map (λ (e : Seat × Advice). opinion e.0 e.1)
      (entries (seats_of name w.advice)) ((name, so.0), so.2) row in
      passes_one test (opinions_of w name) (opinion (name, so.0) so.2) among
      (both_true (ap (λ v. same_verdict v For) so.4) (assigned_among so.0 so.1))
