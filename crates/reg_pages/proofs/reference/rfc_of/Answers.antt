use Rattle.std.proofs.Common.{◌≡◌, ◌-◌, ◌≤◌, ◌∙◌, ap, codes, drop, length, nat_eq, take, true, rules, arith, length-drop}
use Rattle.std.specs.List.{starts_with}
use Rattle.std.proofs.lemmas.List.{take_all}
use Rattle.reg_ranges.specs.Numbers.{read_number}
use Rattle.reg_pages.specs.Reference.{is_no_digit, until}
use Rattle.reg_pages.proofs.reference.rfc_of.Goals as goal

pub returns : goal.returns
returns c =
    let reference = c.args.reference.now in
    let begins : starts_with nat_eq reference (codes "RFC ") ≡ true = search rules in
    let fits : length (drop 4 reference) ≤ length reference - 4 = omega (arith, length-drop 4 reference) in
    let all : take (length reference - 4) (drop 4 reference) ≡ drop 4 reference =
    take_all (length reference - 4) (drop 4 reference) fits in
    rw begins
    (c.read_number.ensures
    ∙ ap read_number (c.digits_of.ensures ∙ ap (until is_no_digit) all))
