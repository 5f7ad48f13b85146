use Rattle.std.proofs.Common.{ap}
use Rattle.reg_site.specs.Site.{one_file}
use Rattle.reg_site.specs.declared.files.File.TheVariants.{RegistryPage}
use Rattle.reg_publish.proofs.Placed.{summed_if}
use Rattle.reg_publish.proofs.registries.put_page.Goals as goal

pub returns : goal.returns
returns g c =
    summed_if g.F.Folder.Puts c.put.result c.args.folder.now c.put.new.folder
    c.args.sums.now c.put.new.sums _ _
    (ap (one_file (RegistryPage c.args.page.now.name)) c.in_ok-html.ensures) c.put.ensures
