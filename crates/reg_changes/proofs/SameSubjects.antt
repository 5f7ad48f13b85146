-- Subjects that tie are equal, and so are texts.
use Rattle.std.proofs.Common.{◌≡◌, true, refl, arith}
use Rattle.std.specs.declared.cmp.Ordering.{Ordering}
use Rattle.std.specs.declared.cmp.Ordering.TheVariants.{Equal, Less, Greater}
use Rattle.std.specs.Cmp.{eq_by_cmp_equiv}
use Rattle.std.specs.Ordering.{is_eq, nat_cmp, ordering_then}
use Rattle.reg_maps.specs.Maps.{text_cmp}
use Rattle.reg_maps.proofs.MapLaws.{number_keys, text_keys}
use Rattle.reg_changes.specs.Words.{class_place}
use Rattle.reg_changes.specs.Subjects.{subject_cmp, subject_total, same_subject}
use Rattle.reg_changes.specs.declared.change.Class.{Class}
use Rattle.reg_changes.specs.declared.change.Class.TheVariants as class
use Rattle.reg_changes.specs.declared.change.Subject.{Subject}

is_eq-exact : (o : Ordering) → is_eq o ≡ true → o ≡ Equal
is_eq-exact Equal e = refl
is_eq-exact Less e = cc e
is_eq-exact Greater e = cc e

then-first : (o p : Ordering) → ordering_then o p ≡ Equal → o ≡ Equal
then-first Equal p e = refl
then-first Less p e = cc e
then-first Greater p e = cc e

then-second : (o p : Ordering) → ordering_then o p ≡ Equal → p ≡ Equal
then-second Equal p e = e
then-second Less p e = cc e
then-second Greater p e = cc e

class_place-exact : (a b : Class) → class_place a ≡ class_place b → a ≡ b
class_place-exact class.Range class.Range e = refl
class_place-exact class.Range class.Entry e = absurd (omega (arith, e))
class_place-exact class.Range class.Prefix e = absurd (omega (arith, e))
class_place-exact class.Range class.Block e = absurd (omega (arith, e))
class_place-exact class.Entry class.Range e = absurd (omega (arith, e))
class_place-exact class.Entry class.Entry e = refl
class_place-exact class.Entry class.Prefix e = absurd (omega (arith, e))
class_place-exact class.Entry class.Block e = absurd (omega (arith, e))
class_place-exact class.Prefix class.Range e = absurd (omega (arith, e))
class_place-exact class.Prefix class.Entry e = absurd (omega (arith, e))
class_place-exact class.Prefix class.Prefix e = refl
class_place-exact class.Prefix class.Block e = absurd (omega (arith, e))
class_place-exact class.Block class.Range e = absurd (omega (arith, e))
class_place-exact class.Block class.Entry e = absurd (omega (arith, e))
class_place-exact class.Block class.Prefix e = absurd (omega (arith, e))
class_place-exact class.Block class.Block e = refl

-- one subject is the same in all
pub same_subject-exact : (a b : Subject) → same_subject a b ≡ true → a ≡ b
same_subject-exact a b e =
    let all = is_eq-exact (subject_cmp a b) e in
    let front = then-first
    (ordering_then (text_cmp a.registry b.registry) (nat_cmp (class_place a.class) (class_place b.class)))
    (text_cmp a.value b.value) all in
    let registry : a.registry ≡ b.registry = text_keys.exact a.registry b.registry
    (then-first (text_cmp a.registry b.registry) (nat_cmp (class_place a.class) (class_place b.class)) front) in
    let kind : a.class ≡ b.class = class_place-exact a.class b.class
    (number_keys.exact (class_place a.class) (class_place b.class)
    (then-second (text_cmp a.registry b.registry) (nat_cmp (class_place a.class) (class_place b.class)) front)) in
    let value : a.value ≡ b.value = text_keys.exact a.value b.value
    (then-second
    (ordering_then (text_cmp a.registry b.registry) (nat_cmp (class_place a.class) (class_place b.class)))
    (text_cmp a.value b.value) all) in
    λ i. record { registry = registry i; class = kind i; value = value i }

-- and is the same as itself
pub same_subject-refl : (a : Subject) → same_subject a a ≡ true
same_subject-refl a = (eq_by_cmp_equiv subject_total).refl a
