use Rattle.std.proofs.Common.{[], ◌∷◌, ◌++◌, ap, ◌∙◌}
use Rattle.reg_source.specs.Disk.{Removed}
use Rattle.reg_source.specs.Names.{names_by}
use Rattle.reg_source.proofs.Steps.{removed_after}
use Rattle.reg_source.proofs.replacement.replace.Goals as goal

pub returns-clause-failed : goal.returns-clause-failed
returns-clause-failed g c =
    let done = g.D.Disk.done in
    let names = names_by c.args.names.now in
    let bytes = g.P.Portions.rest c.args.bytes.now in
    let old = done c.args.disk.now in
    let mid = done c.write.new.disk in
    let new = done c.remove.new.self in
    λ tells. removed_after names bytes old mid new (rw c.new.ensures.items at c.in-Err.ensures.failed tells)
    (c.remove.ensures tells ∙ ap (λ n. mid ++ Removed n ∷ []) c.as_str.ensures.value)
