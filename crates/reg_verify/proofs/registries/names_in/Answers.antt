use Rattle.std.proofs.Common.{◌≡◌, List, map, sym, ◌∙◌, subst, rules}
use Rattle.std.specs.Prelude.{All, IsSome}
use denote.Ref.{Bor}
use Rattle.std.specs.BTreeMap.{keys}
use Rattle.std.specs.Map.Iter.{deref}
use Rattle.std.specs.Option.{option_copied}
use Rattle.std.proofs.lemmas.List.Elements.{All-nil, All-map, All-push}
use Rattle.std.proofs.lemmas.Map.Iter.{iter_end}
use Rattle.std.proofs.lemmas.Map.Views.{All-turn}
use Rattle.reg_changes.specs.Said.{said_by}
use Rattle.reg_changes.specs.declared.change.Subject.{Subject}
use Rattle.reg_verify.specs.Verifying.{IsNameless}
use Rattle.reg_verify.proofs.Flaws.{handed_on}
use Rattle.reg_verify.proofs.Nameless.{AreNames, HasName, all_named, more_names, nameless_at, no_names, old_named}
use Rattle.reg_verify.proofs.registries.names_in.Goals as goal

pub loop-subject-init : goal.loop-subject-init
loop-subject-init c =
    (subst AreNames (sym c.new-names.ensures.items) no_names, All-nil (λ (b : Bor Subject). HasName b.now))

pub loop-subject-preserved : goal.loop-subject-preserved
loop-subject-preserved c =
    let before = c.loop-subject.invariant in
    let names = subst AreNames (sym c.deref.ensures.value) before.0 in (
      before.0,
      All-push (λ (b : Bor Subject). HasName b.now) c.loop-subject.yielded c.in-Some.subject before.1
          (old_named c.deref.result.now (option_copied c.last.result) c.in-Some.subject.now names
          c.last.ensures.value c.if-is_new.ensures),
    )

pub loop-subject-preserved-in-Continue-1 : goal.loop-subject-preserved-in-Continue-1
loop-subject-preserved-in-Continue-1 c =
    let before = c.loop-subject.invariant in
    let adds = c.in_ok-push_name.ensures.named in (
      more_names c.loop-subject.names.items c.push_name.new.names.items c.in-Some.subject.now before.0 adds,
      All-push (λ (b : Bor Subject). HasName b.now) c.loop-subject.yielded c.in-Some.subject before.1
          (λ range. adds.0),
    )

pub returns-clause-named : goal.returns-clause-named
returns-clause-named c =
    let all : map deref c.loop-subject.yielded ≡ keys c.args.said.now = search (rules, iter_end) in
    all_named c.args.said.now
    (subst (λ (ks : List Subject). All HasName ks) all
    (All-map HasName deref c.loop-subject.yielded c.loop-subject.invariant.1))

pub returns-in_err-push_name-clause-why : goal.returns-in_err-push_name-clause-why
returns-in_err-push_name-clause-why c =
    let said = c.args.said.now in
    let subject = c.in-Some.subject.now in
    let some : IsSome (said_by said subject) = All-turn deref (λ (k : Subject). IsSome (said_by said k)) (keys said)
    c.loop-subject.yielded c.into_iter-subject-iterator.result c.loop-subject.subject-iterator
    c.next.new.self c.next.result c.in-Some.subject c.keys-subject-items.ensures.found
    (c.into_iter-subject-iterator.ensures.into_iter_gives ∙ c.keys-subject-items.ensures.rest)
    c.loop-subject.yielded_by c.in-Some.is c.next.ensures.steps in
    handed_on (IsNameless (said_by said)) c.from_residual.result c.in_err-push_name.field-0.0
    c.from_residual.ensures.1
    (nameless_at said (option_copied c.last.result) subject c.in_err-push_name.field-0.0 some
    c.if-is_new.ensures c.in_err-push_name.ensures.why)
