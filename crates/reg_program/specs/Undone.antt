-- Why a job was not done.
use Rattle.std.specs.Prelude.{◌≡◌, ◌∷◌, ◌++◌, ⊤, ℕ, Bool, true, List, IsTrue}
use Rattle.std.specs.Fmt.{decimal}
use Rattle.reg_core.specs.Laws.{is_refused}
use Rattle.reg_core.specs.declared.refusal.Refusal.{Refusal}
use Rattle.reg_core.specs.declared.reply.Reply.{Reply}
use Rattle.reg_core.specs.declared.reply.Reply.TheVariants as reply
use Rattle.reg_keeper.specs.declared.keeper.Fault.{Fault as KeeperFault}
use Rattle.reg_keeper.specs.declared.keeper.Fault.TheVariants as keeper
use Rattle.reg_office.specs.declared.found.FoundFault.{FoundFault}
use Rattle.reg_office.specs.declared.found.FoundFault.TheVariants as found
use Rattle.reg_print.specs.Answer.{body_text, status_of}
use Rattle.reg_print.specs.declared.answer.Answer.{Answer}
use Rattle.reg_print.specs.declared.answer.Answer.TheVariants as answer
use Rattle.reg_wire.specs.declared.wire_fault.WireFault.{WireFault}
use Rattle.reg_wire.specs.declared.wire_fault.WireFault.TheVariants as wire
use Rattle.reg_program.specs.declared.faults.JobFailure.{JobFailure}
use Rattle.reg_program.specs.declared.faults.JobFailure.TheVariants.{Memory, Store, Read, Write, Token, Exists}
use Rattle.reg_program.specs.declared.faults.Undone.{Undone}
use Rattle.reg_program.specs.declared.faults.Undone.TheVariants.{Fault, Explained, Refused}

-- a fault of an office, as a job says it
abbrev pub failure_of : KeeperFault → JobFailure
failure_of keeper.Memory = Memory
failure_of keeper.Store = Store

-- why no first clerk was made, as a job says it
abbrev pub found_failure : FoundFault → JobFailure
found_failure found.Token = Token
found_failure found.Exists = Exists
found_failure (found.Fault fault) = failure_of fault

-- why a script was not run to its end, as a job says it
abbrev pub script_failure : WireFault → JobFailure
script_failure wire.Read = Read
script_failure (wire.Write n) = Write
script_failure wire.Memory = Memory

-- the store failed only if it can
abbrev pub MayFail : Bool → JobFailure → Type 0
MayFail fails Store = IsTrue fails
MayFail fails _ = ⊤

-- the store failed only where it can
abbrev pub MayUndo : Bool → Undone → Type 0
MayUndo fails (Fault failure) = MayFail fails failure
MayUndo fails (Explained failure why) = MayFail fails failure
MayUndo fails (Refused line) = ⊤

-- there was no memory, or what is printed could not be written
abbrev pub IsOfPrinting : Undone → Type 0
IsOfPrinting (Fault Memory) = ⊤
IsOfPrinting (Fault Write) = ⊤
IsOfPrinting _ = ⊥

-- there was no memory, the store failed, or what is printed could not be written
abbrev pub IsOfStoreOrPrinting : Undone → Type 0
IsOfStoreOrPrinting (Fault Memory) = ⊤
IsOfStoreOrPrinting (Fault Store) = ⊤
IsOfStoreOrPrinting (Fault Write) = ⊤
IsOfStoreOrPrinting _ = ⊥

-- a status and a body, with a space between
abbrev pub line_by : ℕ → List ℕ → List ℕ
line_by status body = decimal status ++ 32 ∷ body

-- the status and the body of an answer, with a space between
abbrev pub answer_line : Answer → List ℕ
answer_line a = line_by (status_of a) (body_text a)

-- the reply is a refusal, and this line says which; or there was no memory
abbrev pub IsRefusedBy : Reply → Undone → Type 0
IsRefusedBy reply (Refused line) =
    (is_refused reply ≡ true) × (line.items ≡ answer_line (answer.Reply reply))
IsRefusedBy reply (Fault failure) = failure ≡ Memory
IsRefusedBy reply (Explained failure why) = ⊥

-- what is answered to a command that is refused so
abbrev pub refusal_line : Refusal → List ℕ
refusal_line refusal = answer_line (answer.Reply (reply.Refused refusal))

-- this line says why; or there was no memory
abbrev pub IsSaidBy : List ℕ → Undone → Type 0
IsSaidBy text (Refused line) = line.items ≡ text
IsSaidBy text (Fault failure) = failure ≡ Memory
IsSaidBy text (Explained failure why) = ⊥
