use Rattle.std.proofs.Common.{ap, ◌∙◌}
use Rattle.reg_site.specs.Site.{one_file}
use Rattle.reg_site.specs.declared.files.File.TheVariants.{RegistryCsv}
use Rattle.reg_publish.proofs.Placed.{summed_if}
use Rattle.reg_publish.proofs.ToldTexts.{listing_told}
use Rattle.reg_publish.proofs.registries.put_listing.Goals as goal

pub returns : goal.returns
returns g c =
    summed_if g.F.Folder.Puts c.put.result c.args.folder.now c.put.new.folder
    c.args.sums.now c.put.new.sums _ _
    (ap (one_file (RegistryCsv c.args.page.now.name)) (c.in_ok-csv.ensures ∙ listing_told c.args.page.now)) c.put.ensures
