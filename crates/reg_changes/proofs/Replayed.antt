-- Replaying what was recorded, and then what is recorded of facts, says what the facts say.
use Rattle.std.proofs.Common.{◌≡◌, ◌⊎◌, inl, inr, Bool, true, false, ◌||◌, List, [], ◌∷◌, ◌++◌, refl, sym, ap, ◌∙◌, subst, append_assoc, append-nil, ◌+◌, ◌<◌, ◌≤◌, suc, length, get_or, drop, drop-cons, add-one, cond, zero, arith}
use Rattle.std.specs.Prelude.{ℕ, Result, Ok, Err, Option, Some, None, option_map, if◌then◌else◌}
use Rattle.std.specs.BTreeMap.{BTreeMap, btree_map_len, is_at}
use Rattle.std.specs.Map.{lookup}
use Rattle.std.specs.Result.{IfErr, IsErrAnd}
use Rattle.std.specs.Cmp.{first_so, second_so}
use Rattle.std.proofs.lemmas.Bool.{cases_Bool}
use Rattle.std.proofs.lemmas.Slice.Eq.{bytes_eq-Decides}
use Rattle.reg_maps.specs.Maps.{same_text}
use Rattle.reg_changes.specs.Subjects.{same_subject, subject_cmp, is_entry, entry_at}
use Rattle.reg_changes.specs.Replay.{Said, SaysAfter, SomeFact, IsAbout, IsLost, NothingIsLost, StandsIf, after, changes_to, facts_say, nothing, recorded, replay, same_given, same_standing, stands, with_standing, with_standing_at, without}
use Rattle.reg_changes.specs.KeepingUp.{AllStand, IsPartSaid, KeepsUp, without_all}
use Rattle.reg_changes.specs.Said.{DoesNotStand, TellsLoss, said_by}
use Rattle.reg_changes.specs.declared.change.PublishedChange.{PublishedChange}
use Rattle.reg_changes.specs.declared.change.PublishedChange.TheVariants.{Made, Term}
use Rattle.reg_changes.specs.declared.change.Class.{Class}
use Rattle.reg_changes.specs.declared.change.Class.TheVariants as class
use Rattle.reg_changes.specs.declared.change.Details.{Details}
use Rattle.reg_changes.specs.declared.change.Fact.{Fact}
use Rattle.reg_changes.specs.declared.change.PublishedStanding.{PublishedStanding}
use Rattle.reg_changes.specs.declared.change.Subject.{Subject}
use Rattle.reg_changes.specs.declared.said.Unrecorded.{Unrecorded}
use Rattle.reg_changes.specs.declared.said.Unrecorded.TheVariants.{Memory, Lost}
use Rattle.reg_changes.proofs.SameSubjects.{same_subject-exact, same_subject-refl}

-- replaying goes on where it was
pub replay-append : (said : Said) (xs ys : List PublishedChange)
    → replay said (xs ++ ys) ≡ replay (replay said xs) ys
replay-append said [] ys = refl
replay-append said (x ∷ xs) ys = replay-append (after said x) xs ys

-- ---- One fact

text-is : (a b : List ℕ) → same_text a b ≡ true → a ≡ b
text-is a b = (bytes_eq-Decides a b).0

standing-is : (a b : PublishedStanding) → same_standing a b ≡ true → a ≡ b
standing-is a b e =
    let expires = text-is a.expires b.expires (first_so _ _ e) in
    let held = text-is a.held b.held (second_so _ _ e) in
    λ i. record { expires = expires i; held = held i }

with_standing-is : (a b : Details) → same_given a b ≡ true → with_standing b.standing a ≡ b
with_standing-is a b e =
    let to_first = first_so _ _ e in
    let to_policy = first_so _ _ to_first in
    let description = text-is a.description b.description (first_so _ _ to_policy) in
    let policy = text-is a.policy b.policy (second_so _ _ to_policy) in
    let first = text-is a.first b.first (second_so _ _ to_first) in
    let assignee = text-is a.assignee b.assignee (second_so _ _ e) in
    λ i. record {
      description = description i;
      policy = policy i;
      first = first i;
      standing = b.standing;
      assignee = assignee i;
    }

details-are : (a b : Details) → same_given a b ≡ true → same_standing a.standing b.standing ≡ true
    → a ≡ b
details-are a b given standing =
    ap (λ s. with_standing s a) (standing-is a.standing b.standing standing)
    ∙ with_standing-is a b given

entry-is : (s : Subject) → is_entry s ≡ true → entry_at s.registry s.value ≡ s
entry-is s e = ap (λ c. record { registry = s.registry; class = c; value = s.value }) (class-is s.class e) where
  class-is : (c : Class) → is_entry (record { registry = s.registry; class = c; value = s.value }) ≡ true → class.Entry ≡ c
  class-is class.Entry e = refl
  class-is class.Range e = cc e
  class-is class.Prefix e = cc e
  class-is class.Block e = cc e

or-second : (a b : Bool) → a ≡ false → (a || b) ≡ true → b ≡ true
or-second true b n e = cc n
or-second false b n e = e

-- what is said of a fact's subject, once what is recorded of the fact is said too
one-same : (before : Details) (said : Said) (fact : Fact) → said fact.subject ≡ Some before
    → before ≡ fact.details → (s : Subject) → said s ≡ after said (Made fact) s
one-same before said fact was same s = elim (cases_Bool (same_subject fact.subject s)) [
  | inl here ↦
      let e : fact.subject ≡ s = same_subject-exact fact.subject s here in
      rw here (ap said (sym e) ∙ was ∙ ap Some same)
  | inr there ↦ rw there refl
]

one-term : (before : Details) (said : Said) (fact : Fact) → said fact.subject ≡ Some before
    → with_standing fact.details.standing before ≡ fact.details
    → entry_at fact.subject.registry fact.subject.value ≡ fact.subject → (s : Subject)
    → after said (Term fact.subject.registry fact.subject.value fact.details.standing) s
    ≡ after said (Made fact) s
one-term before said fact was same entry s =
    let standing = fact.details.standing in
    let By : Subject → Option Details =
    λ t. if same_subject t s then option_map (with_standing standing) (said s) else said s in
    ap By entry
    ∙ elim (cases_Bool (same_subject fact.subject s)) as
    (λ h. By fact.subject ≡ after said (Made fact) s) [
      | inl here ↦
          let e : fact.subject ≡ s = same_subject-exact fact.subject s here in
          let given : said s ≡ Some before = ap said (sym e) ∙ was in
          rw (here, given) (ap Some same)
      | inr there ↦ rw there refl
    ]

pub one_recorded : (o : Option Details) (said : Said) (fact : Fact)
    → (o ≡ None) ⊎ (o ≡ said fact.subject) → StandsIf o fact → (s : Subject)
    → replay said (recorded o fact) s ≡ after said (Made fact) s
one_recorded None said fact part h s = refl
one_recorded (Some before) said fact (inl e) h s = cc e
one_recorded (Some before) said fact (inr e) h s =
    let given = first_so _ _ h in
    elim (cases_Bool (same_standing before.standing fact.details.standing)) [
      | inl same ↦
          rw same (one-same before said fact (sym e)
          (details-are before fact.details given same) s)
      | inr other ↦
          let entry = entry-is fact.subject
          (first_so _ _ (or-second _ _ other (second_so _ _ h))) in
          rw other (one-term before said fact (sym e)
          (with_standing-is before fact.details given) entry s)
    ]

-- ---- All facts

part-without : (part said : Said) (fact : Fact) → IsPartSaid part said
    → IsPartSaid (without fact.subject part) (after said (Made fact))
part-without part said fact h s = elim (cases_Bool (same_subject fact.subject s)) [
  | inl here ↦ rw here (inl refl)
  | inr there ↦ rw there (h s)
]

pub changes_replayed : (facts : List Fact) (said part : Said) → IsPartSaid part said
    → AllStand part facts → (s : Subject)
    → replay said (changes_to part facts) s ≡ facts_say said facts s
changes_replayed [] said part h stood s = refl
changes_replayed (fact ∷ facts) said part h stood s =
    let here : replay said (recorded (part fact.subject) fact) ≡ after said (Made fact) =
    λ i t. one_recorded (part fact.subject) said fact (h fact.subject) stood.0 t i in
    let rest = changes_to (without fact.subject part) facts in
    ap (λ (f : Said). f s) (replay-append said (recorded (part fact.subject) fact) rest)
    ∙ ap (λ (f : Said). replay f rest s) here
    ∙ changes_replayed facts (after said (Made fact)) (without fact.subject part)
    (part-without part said fact h) stood.1 s

facts-cover : (facts : List Fact) (m n : Said) (s : Subject)
    → (SomeFact (IsAbout s) facts) ⊎ (m s ≡ n s) → facts_say m facts s ≡ facts_say n facts s
facts-cover [] m n s (inl none) = absurd none
facts-cover [] m n s (inr e) = e
facts-cover (fact ∷ facts) m n s h =
    facts-cover facts (after m (Made fact)) (after n (Made fact)) s
    (elim (cases_Bool (same_subject fact.subject s)) [
      | inl here ↦ inr (rw here refl)
      | inr there ↦
          elim h [
            | inl (inl about) ↦ absurd (cc (sym about ∙ there))
            | inl (inr later) ↦ inl later
            | inr e ↦ inr (rw there e)
          ]
    ])

pub some_fact : {P Q : Fact → Type 0} → ((f : Fact) → P f → Q f) → (facts : List Fact)
    → SomeFact P facts → SomeFact Q facts
some_fact h [] none = none
some_fact h (fact ∷ facts) (inl here) = inl (h fact here)
some_fact h (fact ∷ facts) (inr later) = inr (some_fact h facts later)

-- the main step: what was recorded, and then what is recorded of facts, says what these facts say
pub replayed : (old : List PublishedChange) (facts : List Fact) → AllStand (replay nothing old) facts
    → NothingIsLost (replay nothing old) facts → (s : Subject)
    → replay nothing (old ++ changes_to (replay nothing old) facts) s ≡ facts_say nothing facts s
replayed old facts stood kept s =
    let said = replay nothing old in
    let cover : (o : Option Details) → said s ≡ o
    → (SomeFact (IsAbout s) facts) ⊎ (said s ≡ nothing s) = λ o.
    elim o as (λ o. said s ≡ o → (SomeFact (IsAbout s) facts) ⊎ (said s ≡ nothing s)) [
      | None ↦ λ e. inr e
      | Some before ↦ λ e. inl (some_fact (λ f p. p.0) facts (kept s before e))
    ] in
    ap (λ (f : Said). f s) (replay-append nothing old (changes_to said facts))
    ∙ changes_replayed facts said said (λ t. inr refl) stood s
    ∙ facts-cover facts said nothing s (cover (said s) refl)

-- ---- What is left

-- where nothing is left, nothing is lost
pub nothing_lost : (facts : List Fact) (said : Said) → AllStand said facts
    → ((s : Subject) → without_all said facts s ≡ None) → NothingIsLost said facts
nothing_lost [] said stood left s before was = cc (sym (left s) ∙ was)
nothing_lost (fact ∷ facts) said stood left s before was =
    elim (cases_Bool (same_subject fact.subject s)) [
      | inl here ↦
          let e : fact.subject ≡ s = same_subject-exact fact.subject s here in
          let So : Option Details → Type 0 = λ o. StandsIf o fact in
          inl (here, subst So (ap said e ∙ was) stood.0)
      | inr there ↦
          inr (nothing_lost facts (without fact.subject said) stood.1 left s before
          (rw there was))
    ]

-- what is left was said, and no fact is about it
pub left_over : (facts : List Fact) (said : Said) (s : Subject) (before : Details)
    → without_all said facts s ≡ Some before
    → (said s ≡ Some before) × (SomeFact (IsAbout s) facts → ⊥)
left_over [] said s before e = (e, λ none. none)
left_over (fact ∷ facts) said s before e =
    let rest = left_over facts (without fact.subject said) s before e in
    elim (cases_Bool (same_subject fact.subject s)) [
      | inl here ↦ absurd (cc (rw here at rest.0))
      | inr there ↦ (
        rw there at rest.0,
        λ some. elim some [
          | inl about ↦ absurd (cc (sym about ∙ there))
          | inr later ↦ rest.1 later
        ],
      )
    ]

-- ---- Facts that are compared in turn

pub keeps_up-start : (whole : Said) (facts : List Fact) → KeepsUp whole facts whole facts []
keeps_up-start whole facts = record {
  made = refl;
  stood = λ h. h;
  left = refl;
  part = λ s. inr refl;
  later = λ s before h. h;
}

pub keeps_up-next : (whole : Said) (facts : List Fact) (said said' : Said) (fact : Fact)
    (rest : List Fact) (changes changes' : List PublishedChange)
    → KeepsUp whole facts said (fact ∷ rest) changes
    → ((s : Subject) → said' s ≡ without fact.subject said s)
    → StandsIf (said fact.subject) fact → changes' ≡ changes ++ recorded (said fact.subject) fact
    → KeepsUp whole facts said' rest changes'
keeps_up-next whole facts said said' fact rest changes changes' k same stood e =
    let now : said' ≡ without fact.subject said = λ i s. same s i in
    let part-now : IsPartSaid (without fact.subject said) whole = λ s.
    elim (cases_Bool (same_subject fact.subject s)) [
      | inl here ↦ rw here (inl refl)
      | inr there ↦ rw there (k.part s)
    ] in
    record {
      made =
          k.made
          ∙ sym (append_assoc changes (recorded (said fact.subject) fact)
          (changes_to (without fact.subject said) rest))
          ∙ ap (λ c. c ++ changes_to (without fact.subject said) rest) (sym e)
          ∙ ap (λ (f : Said). changes' ++ changes_to f rest) (sym now);
      stood = λ h. k.stood (stood, subst (λ (f : Said). AllStand f rest) now h);
      left = k.left ∙ ap (λ (f : Said). without_all f rest) (sym now);
      part = subst (λ (f : Said). IsPartSaid f whole) (sym now) part-now;
      later = λ s before h. k.later s before (inr h);
    }

-- a fact by which what was said does not stand tells a loss
pub keeps_up-lost : (whole : Said) (facts : List Fact) (said : Said) (fact : Fact)
    (rest : List Fact) (changes : List PublishedChange) (before : Details)
    → KeepsUp whole facts said (fact ∷ rest) changes → said fact.subject ≡ Some before
    → stands before fact ≡ false → IsLost whole facts fact.subject
keeps_up-lost whole facts said fact rest changes before k was e = record {
  before = before;
  was_said =
      elim (k.part fact.subject) [ inl none ↦ cc (sym none ∙ was) | inr same ↦ sym same ∙ was ];
  gone =
      inr (k.later fact.subject before (inl (same_subject-refl fact.subject, e)));
}

-- and so does what is left at the end
pub keeps_up-left : (whole : Said) (facts : List Fact) (said : Said) (changes : List PublishedChange)
    (s : Subject) (before : Details) → KeepsUp whole facts said [] changes
    → said s ≡ Some before → IsLost whole facts s
keeps_up-left whole facts said changes s before k was =
    let over = left_over facts whole s before (ap (λ (f : Said). f s) k.left ∙ was) in
    record { before = before; was_said = over.0; gone = inl over.1 }

-- where nothing is left at the end, nothing is lost
pub keeps_up-kept : (whole : Said) (facts : List Fact) (said : Said) (changes : List PublishedChange)
    → KeepsUp whole facts said [] changes → ((s : Subject) → said s ≡ None)
    → NothingIsLost whole facts
keeps_up-kept whole facts said changes k none =
    nothing_lost facts whole (k.stood tt) (λ s. ap (λ (f : Said). f s) k.left ∙ none s)

-- and then replaying says what the facts say
pub keeps_up-says : (whole : Said) (facts : List Fact) (said : Said) (changes : List PublishedChange)
    → KeepsUp whole facts said [] changes → ((s : Subject) → said s ≡ None)
    → SaysAfter whole facts changes
keeps_up-says whole facts said changes k none old same s =
    let now : whole ≡ replay nothing old = λ i t. same t i in
    let e : changes ≡ changes_to (replay nothing old) facts =
    sym (append-nil changes) ∙ sym k.made ∙ ap (λ (f : Said). changes_to f facts) now in
    ap (λ (c : List PublishedChange). replay nothing (old ++ c) s) e
    ∙ replayed old facts (subst (λ (f : Said). AllStand f facts) now (k.stood tt))
    (subst (λ (f : Said). NothingIsLost f facts) now (keeps_up-kept whole facts said changes k none))
    s

-- ---- Steps of the code

-- the first of the facts that are left
pub drop-item : {T : Type 0} (xs : List T) (i : ℕ) (x : T) → i < length xs → x ≡ get_or xs i x
    → drop i xs ≡ x ∷ drop (i + 1) xs
drop-item xs i x h is = rw add-one (drop-cons xs i x h ∙ ap (λ y. y ∷ drop (suc i) xs) (sym is))

pub drop-end : {T : Type 0} (xs : List T) (i : ℕ) → length xs ≤ i → drop i xs ≡ []
drop-end [] zero h = refl
drop-end [] (suc i) h = refl
drop-end (x ∷ xs) zero h = absurd (omega (arith, h))
drop-end (x ∷ xs) (suc i) h = drop-end xs i (omega (arith, h))

-- an error that is handed on tells what it told
pub handed_on : {T : Type 0} {E : Type 0} (Tells : E → Type 0) (r : Result T E) (e : E)
    → IsErrAnd r (λ y. y ≡ e) → Tells e → IfErr r Tells
handed_on Tells (Ok x) e h told = tt
handed_on {T} {E} Tells (Err y) e h told = subst Tells (sym h) told

-- nothing is said by a map without entries
pub says_nothing : (map : BTreeMap Subject Details) → (0 < btree_map_len map → false ≡ true)
    → (s : Subject) → said_by map s ≡ None
says_nothing map empty s = none map.entries empty where
  none : (entries : List (Subject × Details)) → (0 < length entries → false ≡ true)
      → lookup (is_at (subject_cmp s)) entries ≡ None
  none [] h = refl
  none (x ∷ xs) h = absurd (cc (h (omega arith)))

-- what tells a loss at a fact tells it of all
pub tells_loss : (whole : Said) (facts : List Fact) (said : Said) (fact : Fact) (rest : List Fact)
    (changes : List PublishedChange) (o : Option Details) (e : Unrecorded)
    → KeepsUp whole facts said (fact ∷ rest) changes → o ≡ said fact.subject
    → DoesNotStand o fact e → TellsLoss whole facts e
tells_loss whole facts said fact rest changes o Memory k was h = tt
tells_loss whole facts said fact rest changes None (Lost subject) k was h = absurd h
tells_loss whole facts said fact rest changes (Some before) (Lost subject) k was h =
    subst (λ (s : Subject). IsLost whole facts s) (sym h.0)
    (keeps_up-lost whole facts said fact rest changes before k (sym was) h.1)

-- a subject is taken out, and put back with another standing
pub standing_set : (said said' said'' : Said) (s : Subject) (details details' : Details)
    (standing : PublishedStanding) → Some details ≡ said s → details' ≡ with_standing standing details
    → ((q : Subject) → said' q ≡ cond (same_subject s q) None (said q))
    → ((q : Subject) → said'' q ≡ cond (same_subject s q) (Some details') (said' q))
    → (q : Subject) → said'' q ≡ with_standing_at s standing said q
standing_set said said' said'' s details details' standing was set out back q =
    elim (cases_Bool (same_subject s q)) [
      | inl here ↦
          let e : s ≡ q = same_subject-exact s q here in
          let given : said q ≡ Some details = ap said (sym e) ∙ sym was in
          back q ∙ rw (here, given) (ap Some set)
      | inr there ↦ back q ∙ rw there (out q ∙ rw there refl)
    ]

-- nothing is said of a subject of which nothing was said
pub standing_none : (said said' : Said) (s : Subject) (standing : PublishedStanding) → None ≡ said s
    → ((q : Subject) → said' q ≡ cond (same_subject s q) None (said q))
    → (q : Subject) → said' q ≡ with_standing_at s standing said q
standing_none said said' s standing was out q =
    elim (cases_Bool (same_subject s q)) [
      | inl here ↦
          let e : s ≡ q = same_subject-exact s q here in
          let given : said q ≡ None = ap said (sym e) ∙ sym was in
          out q ∙ rw (here, given) refl
      | inr there ↦ out q ∙ rw there refl
    ]
