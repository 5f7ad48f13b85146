-- The registries of a history, each of which has a name, or one has none.
use Rattle.std.proofs.Common.{◌≡◌, ℕ, ◌-◌, Bool, true, false, cond, List, [], length, Option, Some, None, refl, sym, ap, ◌∙◌, subst}
use Rattle.std.specs.Prelude.{All, Contains, IsSome, slice_get}
use Rattle.std.specs.BTreeMap.{BTreeMap, keys}
use Rattle.std.proofs.lemmas.List.Elements.{All-contains, All-get_or, All-nil, All-push}
use Rattle.std.proofs.lemmas.Map.Views.{btree_map_contains_key_iff}
use Rattle.std.proofs.lemmas.Option.{get_or_from_slice_get, slice_get_within}
use Rattle.reg_ranges.specs.Texts.{read_text}
use Rattle.reg_core.specs.Names.{is_name}
use Rattle.std.specs.Ordering.{is_eq}
use Rattle.std.specs.declared.cmp.Ordering.TheVariants.{Equal}
use Rattle.reg_changes.specs.Replay.{Said}
use Rattle.reg_changes.specs.Said.{said_by}
use Rattle.reg_changes.specs.Subjects.{subject_cmp, subject_total}
use Rattle.reg_changes.proofs.SameSubjects.{same_subject-exact}
use Rattle.reg_changes.specs.declared.change.Class.TheVariants as class
use Rattle.reg_changes.specs.declared.change.Details.{Details}
use Rattle.reg_changes.specs.declared.change.Subject.{Subject}
use Rattle.reg_verify.specs.Strays.{AllHaveNames, HasNameless, range_at}
use Rattle.reg_verify.specs.Verifying.{IsNameless, IsNamelessAt, IsNewRange, IsOfLast, AddsName}
use Rattle.reg_verify.specs.declared.flaw.FolderFlaw.TheVariants as flaw
use Rattle.reg_verify.specs.declared.flaw.Unverified.{Unverified}
use Rattle.reg_verify.specs.declared.flaw.Unverified.TheVariants as un
use Rattle.reg_verify.proofs.StrayFiles.{has_range, has_said}

-- subjects that tie are equal
subject_exact : (a b : Subject) → subject_cmp a b ≡ Equal → a ≡ b
subject_exact a b tie = same_subject-exact a b (ap is_eq tie)

-- the registry of a range has a name
abbrev pub HasName : Subject → Type 0
HasName subject = subject.class ≡ class.Range → is_name subject.registry ≡ true

-- these are names
abbrev pub AreNames : List (List ℕ) → Type 0
AreNames names = All (λ name. is_name name ≡ true) names

pub no_names : AreNames []
no_names = All-nil (λ name. is_name name ≡ true)

-- where the registry of each range has a name, each registry has
pub all_named : (map : BTreeMap Subject Details) → All HasName (keys map)
    → AllHaveNames (said_by map)
all_named map all name has =
    let subject = range_at name has.0 in
    All-contains HasName (keys map) subject all (contained map subject has.1) refl
  where
    contained : (map : BTreeMap Subject Details) (subject : Subject) → IsSome (said_by map subject)
        → Contains (keys map) subject
    contained map subject some =
        (btree_map_contains_key_iff subject_total
        subject_exact map subject).0 some

-- the last of some names is one
last_named : (names : List (List ℕ)) (name : List ℕ) → AreNames names
    → slice_get names (length names - 1) ≡ Some name → is_name name ≡ true
last_named names name all is =
    subst (λ n. is_name n ≡ true)
    (get_or_from_slice_get names (length names - 1) name name is)
    (All-get_or (λ n. is_name n ≡ true) names (length names - 1) name
    (slice_get_within names (length names - 1) name is) all)

-- a subject of the last registry has its name
pub old_named : (names : List (List ℕ)) (last : Option (List ℕ)) (subject : Subject)
    → AreNames names → last ≡ slice_get names (length names - 1) → IsOfLast last subject
    → HasName subject
old_named names last subject all is old range =
    last_named names subject.registry all (sym is ∙ old range)

-- names to which one came
pub more_names : (names names' : List (List ℕ)) (subject : Subject) → AreNames names
    → AddsName subject names names' → AreNames names'
more_names names names' subject all adds =
    subst AreNames (sym adds.1)
    (All-push (λ name. is_name name ≡ true) names subject.registry all adds.0)

-- a range of the history whose registry has no name
pub nameless_at : (map : BTreeMap Subject Details) (last : Option (List ℕ)) (subject : Subject)
    (why : Unverified) → IsSome (said_by map subject) → IsNewRange last subject
    → IsNamelessAt subject why → IsNameless (said_by map) why
nameless_at map last subject un.Memory some new is = tt
nameless_at map last subject (un.Flawed flaw.Name) some new is =
    (subject.registry, has_range map subject.registry subject some (new.0, refl), is)
nameless_at map last subject un.Read some new is = absurd is
nameless_at map last subject un.Large some new is = absurd is
nameless_at map last subject (un.Flawed (flaw.Missing f)) some new is = absurd is
nameless_at map last subject (un.Flawed flaw.Header) some new is = absurd is
nameless_at map last subject (un.Flawed (flaw.Record n)) some new is = absurd is
nameless_at map last subject (un.Flawed flaw.Index) some new is = absurd is
nameless_at map last subject (un.Flawed flaw.Unnamed) some new is = absurd is
nameless_at map last subject (un.Flawed (flaw.Misspelt f)) some new is = absurd is
nameless_at map last subject (un.Flawed (flaw.Listing name)) some new is = absurd is
nameless_at map last subject (un.Flawed (flaw.Stray file)) some new is = absurd is
nameless_at map last subject (un.Flawed (flaw.Subject s)) some new is = absurd is
nameless_at map last subject (un.Flawed flaw.Short) some new is = absurd is
nameless_at map last subject (un.Flawed flaw.Digest) some new is = absurd is

-- where the same is said of each subject, the same registries have names
module _ (a b : Said) (same : (s : Subject) → a s ≡ b s) where
  pub names_said : AllHaveNames a → AllHaveNames b
  names_said all name has = all name (has_said b a (λ s. sym (same s)) name has)

  pub nameless_said : HasNameless a → HasNameless b
  nameless_said has = (has.0, has_said a b same has.0 has.1, has.2)

-- ---- Names that are read

-- bytes that are read as a name are that name, and those that are not are none
pub name_read : (s name : List ℕ) → Some name ≡ read_text is_name s
    → (is_name s ≡ true) × (name ≡ s)
name_read s name e = by_form (is_name s) refl e where
  or_empty : Option (List ℕ) → List ℕ
  or_empty None = []
  or_empty (Some t) = t

  by_form : (b : Bool) → is_name s ≡ b → Some name ≡ cond b (Some s) None
      → (is_name s ≡ true) × (name ≡ s)
  by_form true is e = (is, ap or_empty e)
  by_form false is e = absurd (cc)

pub none_read : (s : List ℕ) → None ≡ read_text is_name s → is_name s ≡ false
none_read s e = by_form (is_name s) refl e where
  by_form : (b : Bool) → is_name s ≡ b → None ≡ cond b (Some s) None → is_name s ≡ false
  by_form true is e = absurd (cc)
  by_form false is e = is
