-- The laws of histories.
use Rattle.std.specs.Prelude.{◌≡◌, ℕ, List, Result, MatchResult}
use Rattle.reg_history.specs.Chain.{chained}
use Rattle.reg_changes.specs.declared.change.HistoryRecord.{HistoryRecord}
use Rattle.reg_history.specs.History.{Continues, IsHistory}
use Rattle.reg_changes.specs.declared.change.Fact.{Fact}
use Rattle.reg_history.specs.declared.history.History.{History}
use Rattle.reg_history.specs.declared.history.Unreadable.{Unreadable}
use Rattle.reg_history.specs.declared.history.Unreadable.TheVariants.{Memory}

-- the bytes of a history have been written by no other records than these
abbrev pub BytesTellRecords : Type 0
BytesTellRecords = (xs ys : List HistoryRecord) → (chained xs).text ≡ (chained ys).text → xs ≡ ys

-- What is added is a function of the bytes that are there, of what is published and of the moment:
-- whichever records the bytes were read as, the same is added.
abbrev pub SameFolderSameBytes : Type 0
SameFolderSameBytes =
    (xs ys : List HistoryRecord) (moment : ℕ) (facts : List Fact) (more more' : List ℕ)
    (digests digests' : List (List ℕ))
    → (chained xs).text ≡ (chained ys).text → Continues xs moment facts more digests
    → Continues ys moment facts more' digests' → more ≡ more'

-- it was read as the history of these records, or memory was wanting
abbrev pub IsReadBackAs : List HistoryRecord → Result History Unreadable → Type 0
IsReadBackAs records result =
    MatchResult result (λ history. IsHistory history records) (λ why. why ≡ Memory)
