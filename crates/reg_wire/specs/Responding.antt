-- Why there is no answer yet, for private clauses.
use Rattle.std.specs.Prelude.{◌≡◌, ℕ, List, Option}
use Rattle.reg_wire.specs.declared.wire_fault.WireFault.{WireFault}
use Rattle.reg_wire.specs.declared.wire_fault.WireFault.TheVariants as fault
use Rattle.reg_wire.specs.Serving.{IsUnasked}

-- nothing was asked yet, or there was no memory, and nothing has changed
abbrev pub IsUnanswered : {S : Type 0} → WireFault → S → S → Option (List ℕ) → Option (List ℕ)
    → Type 0
IsUnanswered fault.Read before after unread left = IsUnasked before after unread left
IsUnanswered (fault.Write n) before after unread left = ⊥
IsUnanswered fault.Memory before after unread left = after ≡ before
