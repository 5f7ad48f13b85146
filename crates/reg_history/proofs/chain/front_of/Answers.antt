use Rattle.std.proofs.Common.{◌≡◌, [], ◌∷◌, ◌++◌, length, map, ap, ◌∙◌, arith}
use Rattle.csv.specs.Writing.{default_writer, row_body}
use Rattle.reg_history.proofs.Fronts.{one_record, popped}
use Rattle.reg_history.proofs.chain.front_of.Goals as goal

pub returns : goal.returns
returns c =
    let fields = map (λ f. f.now) c.args.fields.now in
    let whole = c.in_ok-text.ensures (fields ∷ [])
    (c.in_ok-write_record.ensures [] c.empty-writer.ensures) in
    let counted : c.in_ok-text.text.len ≡ length c.in_ok-text.text.items =
    omega (arith, c.in_ok-text.text.ok) in
    c.in_ok-push.ensures.items
    ∙ ap (λ t. t ++ 44 ∷ [])
    (popped (row_body default_writer fields) c.in_ok-text.text.items c.pop.new.self.items
    c.in_ok-text.text.len counted (whole ∙ one_record (λ f. f.now) c.args.fields.now c.requires)
    c.pop.ensures.rest)
