-- Why a site was not published, as its parts tell it.
use Rattle.std.proofs.Common.{◌≡◌, ℕ, true, false, List, Option, Some, None, Result, Ok, Err, option_map, refl, sym, ap, ◌∙◌, subst}
use Rattle.std.specs.Prelude.{IfErr, IsErrAnd, IsSome, is_some}
use Rattle.reg_history.specs.Chain.{chained, says}
use Rattle.reg_history.specs.History.{TellsWrong}
use Rattle.reg_changes.specs.Replay.{IsLost, Said}
use Rattle.reg_changes.specs.Said.{TellsLoss}
use Rattle.reg_changes.specs.declared.change.Fact.{Fact}
use Rattle.reg_changes.specs.declared.change.HistoryRecord.{HistoryRecord}
use Rattle.reg_history.specs.declared.history.Unreadable.{Unreadable}
use Rattle.reg_history.specs.declared.history.Unreadable.TheVariants as unreadable
use Rattle.reg_changes.specs.declared.said.Unrecorded.{Unrecorded}
use Rattle.reg_changes.specs.declared.said.Unrecorded.TheVariants as unrecorded
use Rattle.reg_publish.specs.Earlier.{IsEarlier, IsTied, text_there}
use Rattle.reg_publish.specs.Faults.{IsLostBy, HistoryIsUnread, IsWrongThere, TellsWhyUnpublished, unreadable_as, unrecorded_as}
use Rattle.reg_publish.specs.declared.faults.HistoryFault.TheVariants as fault
use Rattle.reg_publish.specs.declared.faults.PublishFault.{PublishFault}
use Rattle.reg_publish.specs.declared.faults.PublishFault.TheVariants.{Unpublished, History}

-- an error that is handed on tells what it told
pub handed_on : {T : Type 0} {E : Type 0} (Tells : E → Type 0) (r : Result T E) (e : E)
    → IsErrAnd r (λ y. y ≡ e) → Tells e → IfErr r Tells
handed_on Tells (Ok x) e h told = tt
handed_on {T} {E} Tells (Err y) e h told = subst Tells (sym h) told

-- a file is not there
pub is_missing : {V : Type 0} (found : Option V) (items : V → List ℕ) (held : Option (List ℕ))
    → option_map items found ≡ held → is_some found ≡ false → held ≡ None
is_missing None items held e none = sym e
is_missing (Some v) items held e none = absurd (let no : ⊥ = cc in no)

-- a file is there
pub is_there : {V : Type 0} (found : Option V) (items : V → List ℕ) (held : Option (List ℕ))
    → option_map items found ≡ held → is_some found ≡ true → IsSome held
is_there None items held e some = absurd (let no : ⊥ = cc in no)
is_there (Some v) items held e some = subst (λ (o : Option (List ℕ)). is_some o ≡ true) e refl

-- the bytes of the history are wrong
pub unread_by : (changes index : Option (List ℕ)) (text : List ℕ) (why : Unreadable)
    → changes ≡ Some text → TellsWrong text why → HistoryIsUnread changes index (unreadable_as why)
unread_by changes index text unreadable.Memory is told = tt
unread_by changes index text unreadable.Header is told = (text, is, told)
unread_by changes index text (unreadable.Wrong number) is told = (text, is, told)

-- what is handed on then, where the file has them
pub unread_from : {V : Type 0} {T : Type 0} (found : Option V) (items : V → List ℕ) (v : V)
    (text : List ℕ) (why : Unreadable) (r : Result T PublishFault) → found ≡ Some v
    → text ≡ items v → TellsWrong text why → IsErrAnd r (λ y. y ≡ unreadable_as why)
    → IfErr r (λ given. (index : Option (List ℕ)) → HistoryIsUnread (option_map items found) index given)
unread_from found items v text why r is whole told h =
    handed_on
    (λ (given : PublishFault). (index : Option (List ℕ)) → HistoryIsUnread (option_map items found) index given)
    r (unreadable_as why) h
    (λ index. unread_by (option_map items found) index (items v) why (ap (option_map items) is)
    (subst (λ (t : List ℕ). TellsWrong t why) whole told))

-- the index does not name a record of the history
pub untied : (changes index : Option (List ℕ)) (records : List HistoryRecord) (text : List ℕ)
    (digests : List (List ℕ)) → (chained records).text ≡ text → text ≡ text_there changes
    → digests ≡ (chained records).digests → (IsTied index digests → ⊥)
    → IsWrongThere changes index fault.Index
untied changes index records text digests of there are never = (
  records,
  of ∙ there,
  λ tied. never (subst (IsTied index) (sym are) tied),
)

-- a subject is lost
pub lost_by : (said : Said) (facts : List Fact) (why : Unrecorded) → TellsLoss said facts why
    → IsLostBy said facts (unrecorded_as why)
lost_by said facts unrecorded.Memory told = tt
lost_by said facts (unrecorded.Lost subject) told = told

module _ (changes index : Option (List ℕ)) (Known : Type 0) (facts : List Fact) where
  -- why the history is not taken is why nothing was published
  pub unread_tells : (why : PublishFault) → HistoryIsUnread changes index why
      → TellsWhyUnpublished changes index Known facts why
  unread_tells (Unpublished why) h = tt
  unread_tells (History fault.Missing) h = h
  unread_tells (History fault.Header) h = h
  unread_tells (History (fault.Record number)) h = h
  unread_tells (History fault.Index) h = h
  unread_tells (History (fault.Lost subject)) h = absurd h

  -- and so is why it does not go on
  pub lost_tells : (records : List HistoryRecord) (told : List Fact) (why : PublishFault)
      → IsEarlier changes index records → (Known → told ≡ facts)
      → IsLostBy (says records) told why → TellsWhyUnpublished changes index Known facts why
  lost_tells records told (Unpublished why) is same h = tt
  lost_tells records told (History fault.Missing) is same h = absurd h
  lost_tells records told (History fault.Header) is same h = absurd h
  lost_tells records told (History (fault.Record number)) is same h = absurd h
  lost_tells records told (History fault.Index) is same h = absurd h
  lost_tells records told (History (fault.Lost subject)) is same h = (
    records,
    is,
    λ known. subst (λ fs. IsLost (says records) fs subject) (same known) h,
  )
