-- Copies of an office's file and its log, while another may be writing both.
use Rattle.std.specs.Prelude.{◌≡◌, ◌<◌, ℕ, Bool, zero, suc, List, [], ◌∷◌, ◌++◌}
use Rattle.std.specs.Bool.{Decides}

-- what was read: the header of the log, the whole file, or the whole log
pub data CopyReading : Type 0 where
  Header : List ℕ → CopyReading
  File : List ℕ → CopyReading
  Log : List ℕ → CopyReading

-- what one try reads: the log's header and the file, then the log, and then the file and the header
-- again
pub record Try : Type 0 where
  pub header : List ℕ
  pub file : List ℕ
  pub log : List ℕ
  pub later_file : List ℕ
  pub later_header : List ℕ

-- in this order
abbrev pub readings_of : Try → List CopyReading
readings_of t =
    Header t.header ∷ File t.file ∷ Log t.log ∷ File t.later_file ∷ Header t.later_header ∷ []

-- Nobody has begun another log or changed the file between the first reading and the last. So the log
-- only grew meanwhile, and what was read of it is the log as it stood at one moment, beside this file.
abbrev pub IsSteady : Try → Type 0
IsSteady t = (t.later_header ≡ t.header) × (t.later_file ≡ t.file)

-- the file and then the header were read again, and it is told whether both are these
pub record IsReadAgain (header file : List ℕ) (same : Bool) (old new : List CopyReading) : Type 0 where
  pub later_file : List ℕ
  pub later_header : List ℕ
  pub read : new ≡ old ++ File later_file ∷ Header later_header ∷ []
  pub told : Decides same ((later_header ≡ header) × (later_file ≡ file))

-- one more try was made, which was not steady
abbrev pub IsUnsteadyTry : List CopyReading → List CopyReading → Type 0
IsUnsteadyTry old new = (t : Try) × (new ≡ old ++ readings_of t) × ¬ IsSteady t

-- one more try was made, which was steady, and read this log and this file
abbrev pub IsSteadyTry : List ℕ → List ℕ → List CopyReading → List CopyReading → Type 0
IsSteadyTry log file old new =
    (t : Try) × (new ≡ old ++ readings_of t) × IsSteady t × (t.log ≡ log) × (t.file ≡ file)

-- so many tries were made, and none was steady
abbrev pub AreUnsteady : ℕ → List CopyReading → List CopyReading → Type 0
AreUnsteady zero old new = new ≡ old
AreUnsteady (suc n) old new = (mid : List CopyReading) × AreUnsteady n old mid × IsUnsteadyTry mid new

-- The first steady try read this log and this file, and fewer than so many before it were not steady.
pub record IsCopiedWhole (most : ℕ) (log file : List ℕ) (old new : List CopyReading) : Type 0 where
  pub failed : ℕ
  pub few : failed < most
  pub mid : List CopyReading
  pub unsteady : AreUnsteady failed old mid
  pub steady : IsSteadyTry log file mid new
