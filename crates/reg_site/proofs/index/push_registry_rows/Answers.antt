use Rattle.std.proofs.Common.{map, refl}
use Rattle.std.specs.Option.{option_copied}
use Rattle.reg_pages.specs.Markup.{all_of, markup_then}
use Rattle.reg_site.specs.Index.{register_row}
use Rattle.reg_site.specs.IndexTree.{row_of}
use Rattle.reg_pages.proofs.Pieces.{begins, ends, goes_on}
use Rattle.reg_site.proofs.index.push_registry_rows.Goals as goal

pub loop-register-init : goal.loop-register-init
loop-register-init c =
    begins c.args.out.now.items
    (markup_then (all_of (map (register_row (option_copied c.args.notes)) (map row_of c.args.registers.now))))

pub loop-register-preserved : goal.loop-register-preserved
loop-register-preserved c =
    goes_on (λ rs. all_of (map (register_row (option_copied c.args.notes)) (map row_of rs))) (λ r. register_row (option_copied c.args.notes) (row_of r)) (λ x xs. refl) c.args.registers.now
    c.loop-register.register-index c.register-item.result c.loop-register-test.true c.register-item.is
    c.loop-register.invariant
    (rw (c.note_on-note.ensures, c.as_str.ensures.text) at c.in_ok-push_registry.ensures)

pub returns : goal.returns
returns c =
    ends (λ rs. all_of (map (register_row (option_copied c.args.notes)) (map row_of rs))) refl c.args.registers.now c.loop-register.register-index c.loop-register-test.false
    c.loop-register.invariant
