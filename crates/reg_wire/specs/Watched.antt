-- Whether a read failed.
use Rattle.std.specs.Prelude.{◌≡◌, true, Result, Ok, Err}
use Rattle.reg_wire.specs.declared.wire_fault.WireFault.{WireFault}
use Rattle.reg_wire.specs.declared.wire_fault.WireFault.TheVariants as fault
use Rattle.reg_head.specs.Watched.{has_failed}
use Rattle.reg_head.specs.declared.watch.Watch.{Watch}

-- a read failed where that is why nothing is answered; else none did
abbrev pub IsWatchedOver : {T : Type 0} → Watch → Watch → Result T WireFault → Type 0
IsWatchedOver old new (Ok value) = new ≡ old
IsWatchedOver old new (Err fault.Read) = has_failed new ≡ true
IsWatchedOver old new (Err (fault.Write n)) = new ≡ old
IsWatchedOver old new (Err fault.Memory) = new ≡ old
