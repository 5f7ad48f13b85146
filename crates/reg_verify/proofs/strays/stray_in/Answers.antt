use Rattle.std.proofs.Common.{List, String, map, option_map, string_bytes, sym, subst}
use Rattle.std.specs.declared.alloc.Global.{Global}
use Rattle.reg_changes.specs.Said.{said_by}
use Rattle.reg_verify.specs.Strays.{IsStrayOf, Lists}
use Rattle.reg_verify.proofs.StrayFiles.{told_stray}
use Rattle.reg_verify.proofs.strays.stray_in.Goals as goal

pub returns-clause-stray : goal.returns-clause-stray
returns-clause-stray g c =
    let Names = Lists g.F.Reads.Tells g.F.Reads.listed c.args.folder.now in
    let said = said_by c.args.said.now in
    let stray = option_map string_bytes c.in_ok-first_stray.field-0 in
    let Of : List (String Global) → Type 0 = λ files. IsStrayOf said (map string_bytes files) stray in
    told_stray Names said (map string_bytes c.in_ok-files.files.items) stray
    (λ tells. sym (c.in_ok-files.ensures tells))
    (subst Of c.as_slice.ensures.value c.in_ok-first_stray.ensures)
