use Rattle.std.proofs.Common.{◌≡◌, true, false, is_some, List, ℕ, Option, ap, arith, sym, ◌∙◌, subst}
use Rattle.std.proofs.lemmas.Grind.{common_steps}
use Rattle.reg_publish.specs.Earlier.{IsTied, text_there}
use Rattle.reg_publish.specs.Faults.{HistoryIsUnread}
use Rattle.reg_publish.proofs.Causes.{handed_on, is_missing, is_there, untied}
use Rattle.reg_publish.proofs.earlier.read_earlier.Goals as goal
use Rattle.reg_site.specs.Files.{path_of}
use Rattle.reg_site.specs.declared.files.File.TheVariants as file

pub returns-in_err-earlier-clause-why : goal.returns-in_err-earlier-clause-why
returns-in_err-earlier-clause-why g c = λ tells.
    let held = g.F.Folder.held in
    let index = held c.args.folder.now (path_of file.IndexTree) in
    let changes = held c.args.folder.now (path_of file.Changes) in
    let why = c.in_err-earlier.field-0.0 in
    let There : Option (List ℕ) → Type 0 = λ there. HistoryIsUnread there index why in
    handed_on (HistoryIsUnread changes index) c.from_residual-in_err-earlier.result why
    c.from_residual-in_err-earlier.ensures.1
    (subst There (c.in_ok-changes.ensures.all tells) (c.in_err-earlier.ensures.why index))

pub returns-then-not-is_tied-clause-why : goal.returns-then-not-is_tied-clause-why
returns-then-not-is_tied-clause-why g c = λ tells.
    let held = g.F.Folder.held in
    let index = held c.args.folder.now (path_of file.IndexTree) in
    let changes = held c.args.folder.now (path_of file.Changes) in
    let earlier = c.in_ok-earlier.earlier in
    let digests = earlier.history.chain.digests.items in
    let of = c.in_ok-earlier.ensures.history in
    untied changes index of.0 earlier.text.items digests of.1
    (c.in_ok-earlier.ensures.there ∙ ap text_there (c.in_ok-changes.ensures.all tells))
    of.2.digests
    (λ tied.
    let found = c.is_tied.ensures.1 (subst (λ i. IsTied i digests) (sym (c.in_ok-index.ensures.all tells)) tied) in
    let no : ⊥ = cc in no)

pub returns-then-is_some-clause-why : goal.returns-then-is_some-clause-why
returns-then-is_some-clause-why g c = λ tells.
    let none : is_some c.in_ok-changes.changes ≡ false = grind (arith, common_steps) in
    let some : is_some c.in_ok-index.index ≡ true = grind (arith, common_steps) in (
      is_missing c.in_ok-changes.changes (λ v. v.items) _ (c.in_ok-changes.ensures.all tells) none,
      is_there c.in_ok-index.index (λ v. v.items) _ (c.in_ok-index.ensures.all tells) some,
    )
