-- What records are about.
use Rattle.std.specs.Prelude.{Bool, true, false, ℕ, List}
use Rattle.std.specs.declared.cmp.Ordering.{Ordering}
use Rattle.std.specs.Cmp.{IsTotalOrder, nat_cmp_total, on_total, then_total}
use Rattle.std.specs.Cmp.Lexicographic.{nat_list_cmp_total}
use Rattle.std.specs.Ordering.{is_eq, nat_cmp, on, then_cmp}
use Rattle.reg_maps.specs.Maps.{text_cmp}
use Rattle.reg_changes.specs.Words.{class_place}
use Rattle.reg_changes.specs.declared.change.Class.{Class}
use Rattle.reg_changes.specs.declared.change.Class.TheVariants as class
use Rattle.reg_changes.specs.declared.change.Subject.{Subject}

-- by registry, then by class, then by value
abbrev pub subject_cmp : Subject → Subject → Ordering
subject_cmp =
    then_cmp (then_cmp (on (λ s. s.registry) text_cmp) (on (λ s. class_place s.class) nat_cmp))
    (on (λ s. s.value) text_cmp)

pub subject_total : IsTotalOrder subject_cmp
subject_total =
    then_total
    (then_total (on_total (λ s. s.registry) nat_list_cmp_total)
    (on_total (λ s. class_place s.class) nat_cmp_total))
    (on_total (λ s. s.value) nat_list_cmp_total)

-- the two are one subject
abbrev pub same_subject : Subject → Subject → Bool
same_subject a b = is_eq (subject_cmp a b)

-- the subject is an entry
abbrev pub is_entry : Subject → Bool
is_entry subject = is_entry_class subject.class where
  is_entry_class : Class → Bool
  is_entry_class class.Entry = true
  is_entry_class class.Range = false
  is_entry_class class.Prefix = false
  is_entry_class class.Block = false

-- the entry of a registry at a value
abbrev pub entry_at : List ℕ → List ℕ → Subject
entry_at registry value = record { registry = registry; class = class.Entry; value = value }
