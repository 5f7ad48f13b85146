use Rattle.std.proofs.Common.{Some, None, lit<, ap, ◌∙◌}
use Rattle.std.proofs.lemmas.Str.Pattern.{strip_prefix_char, strip_suffix_char}
use Rattle.std.specs.Str.{bytes_eq}
use Rattle.reg_core.specs.Item.{segment_name}
use Rattle.reg_parse.proofs.Braces.{names_item, names_nothing, no_brace, no_end}
use Rattle.reg_parse.proofs.path.stands_for.Goals as goal

pub returns-in-Some-strip_suffix : goal.returns-in-Some-strip_suffix
returns-in-Some-strip_suffix c =
    let opened =
    strip_prefix_char 123 c.args.segment.now (Some c.in-Some.rest) c.in-Some.ensures.cases
    (lit< tt) in
    let closed =
    strip_suffix_char 125 c.in-Some.rest.now (Some c.in-Some-strip_suffix.name)
    c.in-Some-strip_suffix.ensures.cases (lit< tt) in
    let name = segment_name c.args.part in
    c.eq.ensures
    ∙ ap (λ t. bytes_eq c.in-Some-strip_suffix.name.now t) c.name.ensures
    ∙ names_item c.args.segment.now c.in-Some.rest.now c.in-Some-strip_suffix.name.now name opened
    closed

pub returns-in-None : goal.returns-in-None
returns-in-None c =
    let opened =
    strip_prefix_char 123 c.args.segment.now (Some c.in-Some.rest) c.in-Some.ensures.cases
    (lit< tt) in
    let closed = strip_suffix_char 125 c.in-Some.rest.now None c.in-None.ensures.cases (lit< tt) in
    names_nothing c.args.segment.now (segment_name c.args.part)
    (no_end c.args.segment.now c.in-Some.rest.now opened closed)

pub returns-in_default : goal.returns-in_default
returns-in_default c =
    let unopened =
    strip_prefix_char 123 c.args.segment.now None c.in_default.ensures.cases (lit< tt) in
    names_nothing c.args.segment.now (segment_name c.args.part) (no_brace c.args.segment.now unopened)
