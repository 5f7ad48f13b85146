use Rattle.std.proofs.Common.{◌++◌, ap, ◌∙◌}
use Rattle.reg_print.proofs.listing.writing.push_text_of.Goals as goal

pub returns : goal.returns
returns c records h =
    c.in_ok-extend_from_slice.ensures.items
    ∙ ap (λ t. c.args.out.now.items ++ t) (c.as_slice.ensures.value ∙ c.in_ok-text.ensures records h)
