use Rattle.reg_publish.proofs.Marks.{tied_by, untied_by}
use Rattle.reg_publish.proofs.earlier.names_record.Goals as goal

pub returns-in-Some : goal.returns-in-Some
returns-in-Some c =
    let tied = tied_by c.args.index.now c.args.chain.now.digests.items c.in-Some.named.number
    c.in-Some.named.digest.now c.in-Some.ensures in
    (λ t. tied.0 (c.has_record.ensures.0 t), λ t. c.has_record.ensures.1 (tied.1 t))

pub returns-in-None : goal.returns-in-None
returns-in-None c = (
  λ t. absurd (let no : ⊥ = cc in no),
  λ tied. absurd
      (untied_by c.args.index.now c.args.chain.now.digests.items c.in-None.ensures tied),
)
