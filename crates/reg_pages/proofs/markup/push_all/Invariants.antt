use Rattle.reg_pages.specs.Pieces.{pieces_then}
use Rattle.reg_pages.proofs.Pieces.{Leads, bytes_from}
use Rattle.reg_pages.proofs.markup.push_all.Given as goal

abbrev pub invariant-loop-piece : goal.invariant-loop-piece
invariant-loop-piece l =
    Leads l.fn.out.items l.out.items (bytes_from pieces_then l.pieces l.piece-index)
    (pieces_then l.pieces)
