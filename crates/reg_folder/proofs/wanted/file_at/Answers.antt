use Rattle.std.proofs.Common.{◌∙◌, List, Ok, Some, ap, sym, ℕ}
use Rattle.reg_folder.specs.Path.{indexed, is_path}
use Rattle.reg_folder.proofs.Meant.{file_at-no_text, file_at-path}
use Rattle.reg_folder.proofs.wanted.file_at.Goals as goal

pub returns-in_default : goal.returns-in_default
returns-in_default c = ap (λ r. Some r) (sym (file_at-no_text c.args.rest.now c.in_default.ensures.cases.0))

pub returns-then-is_path : goal.returns-then-is_path
returns-then-is_path c =
    let same = c.in_ok-path.ensures ∙ ap indexed c.in-Ok.ensures.cases.0 in
    let named = ap is_path (sym same) ∙ ap is_path (sym c.as_str.ensures.value) ∙ sym c.is_path.ensures
    ∙ c.if-is_path.true in
    ap (λ (p : List ℕ). Some (Ok p)) same
    ∙ ap (λ r. Some r) (sym (file_at-path c.args.rest.now c.in-Ok.ensures.cases.1 named))
