-- Rows that are read one after the other.
use Rattle.std.proofs.Common.{◌≡◌, ◌⊎◌, inl, inr, List, [], ◌∷◌, ◌++◌, map, Option, Some, None, IsSome, Vec, refl, sym, ap, subst, ◌∙◌}
use Rattle.std.proofs.lemmas.List.{map-append, append-nil, append_assoc}
use Rattle.std.specs.List.{AllByRecursion}
use Rattle.std.specs.declared.alloc.Global.{Global}
use Rattle.std.specs.Prelude.{Result, Ok, Err, IfErr, IsErrAnd}
use Rattle.sqlite.specs.State.{State}
use Rattle.sqlite.specs.declared.error.Error.{Error}
use Rattle.reg_keeper.specs.declared.keeper.Fault.{Fault}
use Rattle.reg_statements.specs.Reading.{IsFault, IsMet, TakesAll}

module _ {X Y : Type 0} (of : X → Option Y) where
  abbrev HaveForm : List X → Type 0
  HaveForm = AllByRecursion (λ x. IsSome (of x))

  at_end : (xs : List X) (x : X) → HaveForm (xs ++ x ∷ []) → IsSome (of x)
  at_end [] x all = all.0
  at_end (w ∷ xs) x all = at_end xs x all.1

  -- what reads as values has its form
  pub reads_form : (xs : List X) (ys : List Y) → map of xs ≡ map Some ys → HaveForm xs
  reads_form [] ys same = tt
  reads_form (x ∷ xs) [] same = absurd (cc)
  reads_form (x ∷ xs) (y ∷ ys) same =
      let first : of x ≡ Some y = cc in
      let rest : map of xs ≡ map Some ys = cc in
      (subst IsSome (sym first) refl, reads_form xs ys rest)

  pub now_unread : (xs : List X) (x : X) → of x ≡ None → ¬ HaveForm (xs ++ x ∷ [])
  now_unread xs x none all = absurd (let h = subst IsSome none (at_end xs x all) in cc)

  pub one_more : (xs : List X) (x : X) (ys : List Y) (y : Y) → of x ≡ Some y
      → map of xs ≡ map Some ys → map of (xs ++ x ∷ []) ≡ map Some (ys ++ y ∷ [])
  one_more xs x ys y is same =
      map-append of xs (x ∷ []) ∙ ap (λ o. map of xs ++ o ∷ []) is
      ∙ ap (λ os. os ++ Some y ∷ []) same ∙ sym (map-append Some ys (y ∷ []))

-- and as no other values
pub same_values : {Y : Type 0} (xs ys : List Y) → map Some xs ≡ map Some ys → xs ≡ ys
same_values [] [] same = refl
same_values [] (y ∷ ys) same = absurd (cc)
same_values (x ∷ xs) [] same = absurd (cc)
same_values (x ∷ xs) (y ∷ ys) same =
    let first : x ≡ y = cc in
    let rest : map Some xs ≡ map Some ys = cc in
    λ i. first i ∷ same_values xs ys rest i

-- one value more is taken
pub takes_one : {T K : Type 0} (Takes : K → T → K → Type 0) (start mid now : K) (values : List T)
    (value : T) → TakesAll Takes start values mid → Takes mid value now
    → TakesAll Takes start (values ++ value ∷ []) now
takes_one Takes start mid now [] value same took =
    (now, subst (λ from. Takes from value now) same took, refl)
takes_one Takes start mid now (first ∷ more) value taken took =
    (taken.0, taken.1, takes_one Takes taken.0 mid now more value taken.2 took)

-- a list has the values that it took behind what it had
pub list_takes : {T : Type 0} (start now : Vec T Global) (values : List T)
    → TakesAll (λ (old : Vec T Global) value (new : Vec T Global). new.items ≡ old.items ++ value ∷ [])
    start values now → now.items ≡ start.items ++ values
list_takes start now [] same = ap (λ (all : Vec _ Global). all.items) same ∙ sym (append-nil start.items)
list_takes start now (value ∷ more) taken =
    list_takes taken.0 now more taken.2 ∙ ap (λ items. items ++ more) taken.1
    ∙ append_assoc start.items (value ∷ []) more

-- ---- Faults

-- what is so of the error that a `?` hands on is so of what it makes
pub passed_on : {A E : Type 0} (P : E → Type 0) (r : Result A E) (was : E)
    → IsErrAnd r (λ e. e ≡ was) → P was → IfErr r P
passed_on P (Ok a) was is holds = tt
passed_on P (Err e) was is holds = subst P (sym is) holds

-- memory was refused for one reason or for the same
pub refused_once : {Reported : Error → Type 0} {Refused TooMany : Type 0} (old new : State)
    (fault : Fault) → IsFault (IsMet Reported (Refused ⊎ Refused) TooMany) old new fault
    → IsFault (IsMet Reported Refused TooMany) old new fault
refused_once {Reported} {Refused} {TooMany} old new fault is = record {
  error = is.error;
  told = is.told;
  met = by is.error is.met;
  cause = is.cause;
}
  where
    by : (error : Error) → IsMet Reported (Refused ⊎ Refused) TooMany error
        → IsMet Reported Refused TooMany error
    by error (inl reported) = inl reported
    by error (inr (inl memory)) = inr (inl (memory.0, once memory.1))
      where
        once : Refused ⊎ Refused → Refused
        once (inl refused) = refused
        once (inr refused) = refused
    by error (inr (inr many)) = inr (inr many)
