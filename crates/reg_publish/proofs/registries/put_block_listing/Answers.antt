use Rattle.std.proofs.Common.{ap, ◌∙◌}
use Rattle.reg_site.specs.Site.{one_file}
use Rattle.reg_site.specs.declared.files.File.TheVariants.{BlocksListing}
use Rattle.reg_publish.proofs.Placed.{summed_if}
use Rattle.reg_publish.proofs.ToldTexts.{blocks_told}
use Rattle.reg_publish.proofs.registries.put_block_listing.Goals as goal

pub returns : goal.returns
returns g c =
    summed_if g.F.Folder.Puts c.put_bytes.result c.args.folder.now c.put_bytes.new.folder c.args.sums.now
    c.put_bytes.new.sums _ _
    (ap (one_file BlocksListing)
    (c.deref.ensures.value ∙ c.in_ok-csv.ensures ∙ blocks_told c.args.blocks.now))
    c.put_bytes.ensures
