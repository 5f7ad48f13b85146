-- The test of sameness of evidence. It is true exactly of equal evidence, which is a law.
use Rattle.std.specs.Prelude.{Bool, ◌&&◌}
use Rattle.std.specs.Bool.{beq}
use Rattle.std.specs.Option.{option_eq}
use Rattle.std.specs.Str.{bytes_eq}
use Rattle.reg_early.specs.declared.evidence.EarlyEvidence.{EarlyEvidence}

-- the test of sameness of evidence for early allocations
abbrev pub same_early_evidence : EarlyEvidence → EarlyEvidence → Bool
same_early_evidence a b =
    option_eq bytes_eq a.draft b.draft && (beq a.stable b.stable
    && (beq a.interest b.interest && (option_eq bytes_eq a.chair b.chair
    && (option_eq bytes_eq a.director b.director && beq a.will_be_rfc b.will_be_rfc))))
