use Rattle.std.proofs.Common.{None}
use Rattle.reg_verify.specs.Strays.{Lists}
use Rattle.reg_verify.specs.Verifying.{Finds, TellsWhy}
use Rattle.reg_verify.proofs.Flaws.{handed_on}
use Rattle.reg_verify.proofs.Folders.{page_has, page_told}
use Rattle.reg_verify.proofs.registries.add_registry.Goals as goal

pub returns-clause-facts : goal.returns-clause-facts
returns-clause-facts g c =
    let Found = Finds g.F.Reads.Tells g.F.Reads.held c.args.folder.now in
    let page = c.in_ok-page.page.now in
    let is = page_told Found c.args.name c.in_ok-told.told page c.in_ok-told.ensures.told
    c.in_ok-told.ensures.asked c.in_ok-page.ensures.page in
    (page, page_has Found c.args.name page is c.in_ok-find_listing.ensures.found, c.in_ok-add_page.ensures)

pub returns-in_err-find_listing-clause-why : goal.returns-in_err-find_listing-clause-why
returns-in_err-find_listing-clause-why g c =
    let Found = Finds g.F.Reads.Tells g.F.Reads.held c.args.folder.now in
    let Names = Lists g.F.Reads.Tells g.F.Reads.listed c.args.folder.now in
    let is = page_told Found c.args.name c.in_ok-told.told c.in_ok-page.page.now
    c.in_ok-told.ensures.told c.in_ok-told.ensures.asked c.in_ok-page.ensures.page in
    handed_on (TellsWhy Found Names None) c.from_residual-in_err-find_listing.result
    c.in_err-find_listing.field-0.0 c.from_residual-in_err-find_listing.ensures.1
    (c.in_err-find_listing.ensures.why is)
