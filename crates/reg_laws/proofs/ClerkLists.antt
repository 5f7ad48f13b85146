-- What a clerk lists is whole: all requests, and the acts that are so.
use Rattle.std.proofs.Common.{◌≡◌, ℕ, Bool, true, false, ◌&&◌, List, [], ◌∷◌, ◌++◌, inl, inr, refl, sym, ap, subst, ◌∙◌, arith}
use Rattle.std.specs.Prelude.{Option, Some, None, Ok, Err, if◌then◌else◌, nat_eq}
use Rattle.std.proofs.lemmas.List.{append-nil}
use Rattle.std.proofs.lemmas.List.Elements.{All-map}
use Rattle.reg_core.proofs.Common.{All-entries, Answer, Contains-entries, Contains-map, Outcome, RequestName, World}
use Rattle.reg_core.proofs.Common.{answer_to, ascending-entries, both_ways, bytes_eq-Decides, entries, first_so}
use Rattle.reg_core.proofs.Common.{acts_in_order, acts_where, is_about, is_by, is_name_of, is_on, name_cmp, name_keys, nat_tests}
use Rattle.reg_core.proofs.Common.{reply_of, request_row, request_rows, same_text, same_text-itself, second_so, utc_day}
use Rattle.reg_core.proofs.Outcomes.Accepted.{CommandSo, accepted}
use Rattle.reg_core.specs.Journal.{deed_about, is_actor, is_moment_on}
use Rattle.reg_core.specs.Lists.{HasRow}
use Rattle.reg_core.specs.declared.command.ClerkCommand.TheVariants.{AllRequests, ActsAbout, ActsBy, ActsOn}
use Rattle.reg_core.specs.declared.command.Command.TheVariants.{Clerk}
use Rattle.reg_core.specs.declared.journal.Actor.{Actor}
use Rattle.reg_core.specs.declared.told.Told.TheVariants.{Acts, ActsAbout as ActsOf, Desks}
use Rattle.reg_laws.proofs.Types.{Accepted, Act, Case, ClerkCommand, Request, Told}
use Rattle.reg_laws.specs.ClerkLists.{ActsAreListed, AllRequestsAreListed, AreActsThat, IsActAbout, IsActBy, IsActOn, IsToldClerk, RequestList}

-- ---- What a clerk is told

-- by an outcome, and this was so of it
pub record WasTold (digest_of : List ℕ → List ℕ) (w : World) (caller : Option (List ℕ)) (moment : ℕ)
    (command : ClerkCommand) (said : Told) : Type 0 where
  pub outcome : Outcome
  pub told : outcome.told ≡ said
  pub so : CommandSo digest_of w caller moment (Clerk command) outcome

pub was_told : (digest_of : List ℕ → List ℕ) (w : World) (caller : Option (List ℕ)) (moment : ℕ)
    (command : ClerkCommand) (said : Told) → IsToldClerk digest_of w caller moment command said
    → WasTold digest_of w caller moment command said
was_told digest_of w caller moment command said is =
    by (answer_to digest_of w caller moment (Clerk command)) refl is
  where
    by : (a : Answer) → answer_to digest_of w caller moment (Clerk command) ≡ a
        → reply_of a ≡ Accepted said → WasTold digest_of w caller moment command said
    by (Ok o) at is = record {
      outcome = o;
      told = cc;
      so = (accepted digest_of w caller moment (Clerk command) o at).so;
    }
    by (Err refusal) at is = absurd (cc)

-- ---- All requests

abbrev row_of : RequestName × Case → Request
row_of e = request_row e.0 e.1

request_list : (w : World) → RequestList w (request_rows w.requests)
request_list w = record {
  only = All-map (HasRow w) row_of (entries w.requests)
      (All-entries name_keys.total (λ e. HasRow w (row_of e)) w.requests (λ name case is. is));
  every = λ account reference case is. (
    request_row (account, reference) case,
    Contains-map row_of (entries w.requests) ((account, reference), case)
        (Contains-entries name_keys w.requests (account, reference) case is),
    (refl, refl, is),
  );
  ascending = ascending-entries name_cmp row_of (λ row. (row.account, row.reference)) (λ e. refl)
      w.requests;
}

pub all_listed : (digest_of : List ℕ → List ℕ) → AllRequestsAreListed digest_of
all_listed digest_of w caller moment rows is =
    let was = was_told digest_of w caller moment AllRequests (Desks rows) is in
    let told = was.told in
    let tells = ap (λ (o : Outcome). o.told) was.so.1 in
    let same : request_rows w.requests ≡ rows = cc in
    subst (RequestList w) same (request_list w)

-- ---- Acts

-- a test that decides what acts are so
pub record Tells (Is : Act → Type 0) (test : Act → Bool) : Type 0 where
  pub passes : (act : Act) → test act ≡ true → Is act
  pub is : (act : Act) → Is act → test act ≡ true

are_acts : (Is : Act → Type 0) (test : Act → Bool) → Tells Is test → (journal : List Act)
    → AreActsThat Is journal (acts_in_order test journal)
are_acts Is test tells [] = refl
are_acts Is test tells (latest ∷ journal) =
    by (test latest) refl (are_acts Is test tells journal)
  where
    by : (b : Bool) → test latest ≡ b → AreActsThat Is journal (acts_in_order test journal)
        → AreActsThat Is (latest ∷ journal)
        (acts_in_order test journal ++ (if b then latest ∷ [] else []))
    by true t older = inl (tells.passes latest t, acts_in_order test journal, refl, older)
    by false t older = inr (
      λ is. both_ways (test latest) t (tells.is latest is),
      subst (AreActsThat Is journal) (sym (append-nil (acts_in_order test journal))) older,
    )

tells_on : (day : ℕ) → Tells (IsActOn day) (is_on day)
tells_on day = record {
  passes = λ act. on act.stamp.moment;
  is = λ act is. ap (is_moment_on day) is.1 ∙ at is.0 is.2;
}
  where
    on : (at : Option ℕ) → is_moment_on day at ≡ true
        → (moment : ℕ) × (at ≡ Some moment) × (utc_day moment ≡ day)
    on None is = absurd (cc)
    on (Some moment) is = (moment, refl, grind (arith, nat_tests))

    at : (moment : ℕ) → utc_day moment ≡ day → nat_eq (utc_day moment) day ≡ true
    at moment is = grind (arith, nat_tests)

tells_by : (account : List ℕ) → Tells (IsActBy account) (is_by account)
tells_by account = record {
  passes = λ act. made act.stamp.by;
  is = λ act is. ap (is_actor account) is.1 ∙ (bytes_eq-Decides is.0.account account).1 is.2;
}
  where
    made : (by : Option Actor) → is_actor account by ≡ true
        → (actor : Actor) × (by ≡ Some actor) × (actor.account ≡ account)
    made None is = absurd (cc)
    made (Some actor) is = (actor, refl, (bytes_eq-Decides actor.account account).0 is)

tells_about : (account reference : List ℕ)
    → Tells (IsActAbout account reference) (is_about (account, reference))
tells_about account reference = record {
  passes = λ act. named (deed_about act.deed);
  is = λ act is. ap (is_name_of name) is ∙ itself;
}
  where
    name : RequestName
    name = (account, reference)

    named : (about : Option RequestName) → is_name_of name about ≡ true → about ≡ Some name
    named None is = absurd (cc)
    named (Some about) is =
        let one = (bytes_eq-Decides about.0 account).0
        (first_so (same_text about.0 account) (same_text about.1 reference) is) in
        let two = (bytes_eq-Decides about.1 reference).0
        (second_so (same_text about.0 account) (same_text about.1 reference) is) in
        λ i. Some (one i, two i)

    itself : is_name_of name (Some name) ≡ true
    itself =
        ap (λ b. b && same_text reference reference) (same_text-itself account)
        ∙ same_text-itself reference

pub acts_listed : (digest_of : List ℕ → List ℕ) → ActsAreListed digest_of
acts_listed digest_of = record {
  on_day = λ w caller moment day acts is.
      let was = was_told digest_of w caller moment (ActsOn day) (Acts acts) is in
      let told = was.told in
      let tells = ap (λ (o : Outcome). o.told) was.so.1 in
      let same : acts_where (is_on day) w ≡ acts = cc in
      subst (AreActsThat (IsActOn day) w.journal) same
      (are_acts (IsActOn day) (is_on day) (tells_on day) w.journal);
  by_account = λ w caller moment account acts is.
      let was = was_told digest_of w caller moment (ActsBy account) (Acts acts) is in
      let told = was.told in
      let tells = ap (λ (o : Outcome). o.told) was.so.1 in
      let same : acts_where (is_by account) w ≡ acts = cc in
      subst (AreActsThat (IsActBy account) w.journal) same
      (are_acts (IsActBy account) (is_by account) (tells_by account) w.journal);
  about = λ w caller moment account reference acts is.
      let was = was_told digest_of w caller moment (ActsAbout account reference) (ActsOf acts) is in
      let told = was.told in
      let tells = ap (λ (o : Outcome). o.told) was.so.1.so in
      let same : acts_where (is_about (account, reference)) w ≡ acts = cc in
      subst (AreActsThat (IsActAbout account reference) w.journal) same
      (are_acts (IsActAbout account reference) (is_about (account, reference))
      (tells_about account reference) w.journal);
}
