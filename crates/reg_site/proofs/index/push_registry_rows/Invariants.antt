use Rattle.std.proofs.Common.{map}
use Rattle.std.specs.Option.{option_copied}
use Rattle.reg_pages.specs.Markup.{all_of, markup_then}
use Rattle.reg_site.specs.Index.{register_row}
use Rattle.reg_site.specs.IndexTree.{row_of}
use Rattle.reg_pages.proofs.Pieces.{Leads, from_place}
use Rattle.reg_site.proofs.index.push_registry_rows.Given as goal

abbrev pub invariant-loop-register : goal.invariant-loop-register
invariant-loop-register l =
    Leads l.fn.out.items l.out.items
    (from_place (λ rs. all_of (map (register_row (option_copied l.fn.notes)) (map row_of rs))) l.registers l.register-index)
    (markup_then (all_of (map (register_row (option_copied l.fn.notes)) (map row_of l.registers))))
