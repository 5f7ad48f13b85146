use Rattle.std.proofs.Common.{refl}
use Rattle.reg_pages.specs.Pieces.{piece_then, pieces_then}
use Rattle.reg_pages.proofs.Pieces.{begins, bytes_end, bytes_go_on_at}
use Rattle.reg_pages.proofs.markup.push_all.Goals as goal

pub loop-piece-init : goal.loop-piece-init
loop-piece-init c = begins c.args.out.now.items (pieces_then c.args.pieces.now)

pub loop-piece-preserved : goal.loop-piece-preserved
loop-piece-preserved c =
    bytes_go_on_at pieces_then piece_then (λ x xs rest. refl) c.args.pieces.now
    c.loop-piece.piece-index _ c.loop-piece-test.true c.loop-piece.invariant
    c.in_ok-push_piece.ensures

pub returns : goal.returns
returns c =
    bytes_end pieces_then (λ rest. refl) c.args.pieces.now c.loop-piece.piece-index c.loop-piece-test.false
    c.loop-piece.invariant
