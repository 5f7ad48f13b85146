-- What was written before a flush is there after it.
use Rattle.std.proofs.Common.{ℕ, List, Option, inl, inr, take}
use Rattle.std.specs.List.{flat_map}
use Rattle.std.specs.Io.KnownBytes.{Keeps}
use Rattle.std.proofs.KnownBytes.{Appends-kept}
use Rattle.reg_wire.specs.Exchange.{Call}
use Rattle.reg_wire.specs.Script.Lines.{AnswersAll, StopsAt, Wrote, ended}
use Rattle.reg_wire.specs.declared.wire_fault.WireFault.{WireFault}
use Rattle.reg_wire.specs.declared.wire_fault.WireFault.TheVariants.{Read, Write, Memory}

-- what went out of the answers
wrote_kept : (fault : WireFault) (answers : List (List ℕ)) (had mid has : Option (List ℕ))
    → Wrote fault answers had mid → Keeps mid has → Wrote fault answers had has
wrote_kept Read answers had mid has w k = Appends-kept had mid has (flat_map ended answers) w k
wrote_kept Memory answers had mid has (inl w) k =
    inl (Appends-kept had mid has (flat_map ended answers) w k)
wrote_kept Memory answers had mid has (inr (front, last, is, other, w)) k =
    inr (front, last, is, other, Appends-kept had mid has (flat_map ended front) w k)
wrote_kept (Write n) answers had mid has (front, with_last, least, more, w) k = (
  front,
  with_last,
  least,
  more,
  Appends-kept had mid has (take n (flat_map ended answers)) w k,
)

module _ {S : Type 0} (Serves : S → Call → List ℕ → S → Type 0) (first last : S)
    (unread left had mid has : Option (List ℕ)) where
  -- all answers
  pub answers_kept : AnswersAll Serves first last unread left had mid → Keeps mid has
      → AnswersAll Serves first last unread left had has
  answers_kept a k = record {
    script = a.script;
    lines = a.lines;
    answers = a.answers;
    is_read = a.is_read;
    at_end = a.at_end;
    cut = a.cut;
    ran = a.ran;
    wrote = Appends-kept had mid has (flat_map ended a.answers) a.wrote k;
  }

  -- and those before a fault
  pub stops_kept : (fault : WireFault) → StopsAt Serves fault first last unread left had mid
      → Keeps mid has → StopsAt Serves fault first last unread left had has
  stops_kept fault s k = record {
    bytes = s.bytes;
    lines = s.lines;
    answers = s.answers;
    is_read = s.is_read;
    before = s.before;
    ran = s.ran;
    wrote = wrote_kept fault s.answers had mid has s.wrote k;
  }
