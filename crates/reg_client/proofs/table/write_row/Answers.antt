use Rattle.std.proofs.Common.{◌≡◌, ◌∷◌, [], ◌∙◌, List, ℕ, subst}
use Rattle.std.specs.Prelude.{OnOk}
use Rattle.std.specs.Fmt.{decimal}
use Rattle.reg_early.specs.DayText.{text_of_day}
use Rattle.reg_print.specs.Records.{Adds}
use Rattle.reg_client.specs.Table.{due_fields, held_text}
use Rattle.reg_client.proofs.table.write_row.Goals as goal

pub returns : goal.returns
returns g c =
    let one = c.args.one.now in
    let registry : c.as_str.result.now ≡ one.registry = c.as_str.ensures.text in
    let value : c.as_str-2.result.now ≡ decimal one.value =
    c.as_str-2.ensures.value ∙ c.in_ok-value.ensures.ok in
    let description : c.as_str-3.result.now ≡ one.description = c.as_str-3.ensures.text in
    let assignee : c.as_str-4.result.now ≡ one.assignee = c.as_str-4.ensures.text in
    let expires : c.as_str-5.result.now ≡ text_of_day one.expires =
    c.as_str-5.ensures.value ∙ c.in_ok-expires.ensures.text in
    let held : c.held_text.result.now ≡ held_text one.held = c.held_text.ensures in
    let Written : List (List ℕ) → Type 0 = λ fields. OnOk c.write_fields.result
    (Adds g.W.Write.contents c.args.writer.now c.write_fields.new.writer fields) in
    let same :
    (c.as_str.result.now ∷ c.as_str-2.result.now ∷ c.as_str-3.result.now ∷ c.as_str-4.result.now
    ∷ c.as_str-5.result.now ∷ c.held_text.result.now ∷ []) ≡ due_fields one = cc in
    subst Written same c.write_fields.ensures
