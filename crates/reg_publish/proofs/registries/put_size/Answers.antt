use Rattle.std.proofs.Common.{ap, ◌∙◌}
use Rattle.reg_site.specs.Site.{one_file}
use Rattle.reg_site.specs.declared.files.File.TheVariants.{Assignments}
use Rattle.reg_publish.proofs.Placed.{summed_if}
use Rattle.reg_publish.proofs.registries.put_size.Goals as goal

pub returns : goal.returns
returns g c =
    summed_if g.F.Folder.Puts c.put_bytes.result c.args.folder.now c.put_bytes.new.folder c.args.sums.now
    c.put_bytes.new.sums _ _
    (ap (one_file (Assignments c.args.size)) (c.deref.ensures.value ∙ c.in_ok-csv.ensures))
    c.put_bytes.ensures
