use Rattle.std.proofs.Common.{◌≡◌, ◌∙◌, Some, sym, ap}
use Rattle.reg_pages.specs.Document.{link}
use Rattle.reg_pages.specs.Reference.{by_rfc, reference_markup, rfc_of, rfc_place}
use Rattle.reg_pages.proofs.reference.push_reference.Goals as goal

pub returns-in-Some : goal.returns-in-Some
returns-in-Some c =
    let is : Some c.in-Some.n ≡ rfc_of c.args.reference.now =
    sym c.in-Some.is ∙ c.rfc_of.ensures ∙ ap rfc_of c.as_bytes.ensures.value in
    let same : link (rfc_place c.in-Some.n) c.args.reference.now ≡ reference_markup c.args.reference.now =
    ap (λ o. by_rfc o c.args.reference.now) is in
    rw same at c.push_rfc.ensures
