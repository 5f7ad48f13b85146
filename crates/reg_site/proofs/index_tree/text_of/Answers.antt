use Rattle.std.proofs.Common.{◌≡◌, ◌∙◌, List, ℕ, ap}
use Rattle.reg_site.specs.IndexTree.{counts_text, files_text, register_text}
use Rattle.reg_site.proofs.index_tree.text_of.Goals as goal

same_texts : (name name' files files' counts counts' changed : List ℕ) → name ≡ name'
    → files ≡ files' → counts ≡ counts'
    → register_text name files counts changed ≡ register_text name' files' counts' changed
same_texts name name' files files' counts counts' changed n f k =
    ap (λ x. register_text x files counts changed) n
    ∙ ap (λ x. register_text name' x counts changed) f
    ∙ ap (λ x. register_text name' files' x changed) k

pub returns : goal.returns
returns c =
    let name : c.as_str-name.result.now ≡ c.args.summary.now.name = c.as_str-name.ensures.text in
    c.in_ok-text.ensures
    ∙ same_texts c.as_str-name.result.now c.args.summary.now.name c.as_str.result.now
    (files_text c.args.summary.now.name) c.as_str-2.result.now (counts_text c.args.summary.now)
    c.args.changed.now name
    (c.as_str.ensures.value ∙ c.in_ok-files.ensures ∙ ap files_text name)
    (c.as_str-2.ensures.value ∙ c.in_ok-counts.ensures)
