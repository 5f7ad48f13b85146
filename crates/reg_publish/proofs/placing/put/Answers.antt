use Rattle.std.proofs.Common.{ap, ◌∙◌}
use Rattle.reg_site.specs.Files.{path_of}
use Rattle.reg_site.specs.Sums.{entries_of, with_sum}
use Rattle.reg_publish.specs.Folder.{PutsSummed}
use Rattle.reg_publish.proofs.Placed.{places_one}
use Rattle.reg_publish.proofs.placing.put.Goals as goal

pub returns : goal.returns
returns g c =
    let bytes = g.P.Portions.rest c.args.bytes.now in
    record {
      placed =
          places_one (PutsSummed g.F.Folder.Puts) (c.args.folder.now, entries_of c.args.sums.now)
          (c.publish.new.self, entries_of c.add.new.self) (path_of c.args.file) bytes (
            c.in_ok-hash.ensures.done,
            c.in_ok-add.ensures bytes c.in_ok-hash.ensures.hash
                ∙ ap (λ path. with_sum (entries_of c.args.sums.now) path bytes)
                (c.as_str.ensures.value ∙ c.in_ok-path.ensures),
          );
    }
