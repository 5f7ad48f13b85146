use Rattle.std.proofs.Common.{[], ◌∷◌, ◌++◌, ap, ◌∙◌, refl, subst, string_bytes}
use Rattle.reg_source.specs.Disk.{FileNames, IsLeft, Removed, names_of}
use Rattle.reg_source.specs.Names.{names_by}
use Rattle.reg_source.proofs.Steps.{removed_after}
use Rattle.reg_source.proofs.directory.DirectoryFolder.publish.Goals as goal

pub returns-clause-failed : goal.returns-clause-failed
returns-clause-failed g c =
    let done = g.D.Disk.done in
    let names = names_by c.in_ok-names.names in
    let bytes = g.P.Portions.rest c.args.bytes.now in
    let old = done c.args.self.now.disk in
    let mid = done c.put.new.disk in
    let new = done c.remove.new.self in
    let target = names_of (string_bytes c.args.self.now.path) c.args.file in
    let Left : FileNames → Type 0 = λ n. IsLeft n bytes old new in
    let left = λ (tells : g.D.Disk.Tells).
    removed_after names bytes old mid new (c.in-Err.ensures.failed tells)
    (c.remove.ensures tells ∙ ap (λ n. mid ++ Removed n ∷ []) c.as_str.ensures.value) in
    (refl, λ tells. (c.args.file, refl, subst Left {x = names} {y = target} c.in_ok-names.ensures (left tells)))
