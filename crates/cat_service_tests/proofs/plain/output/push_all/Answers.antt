use Rattle.cat_service_tests.proofs.plain.catalogue.Written.{pieces_all, pieces_more}
use Rattle.cat_service_tests.proofs.plain.output.push_all.Goals as goal

pub loop-piece-preserved : goal.loop-piece-preserved
loop-piece-preserved c =
    pieces_more (λ p. p.now) c.args.pieces.now c.loop-piece.piece-index _ c.args.to.now.items c.loop-piece.to.items c.extend_from_slice.new.self.items
    c.loop-piece-test.true c.loop-piece.invariant c.in_ok-extend_from_slice.ensures.items

pub returns : goal.returns
returns c = pieces_all (λ p. p.now) c.args.pieces.now c.loop-piece.piece-index c.args.to.now.items c.loop-piece.to.items c.loop-piece-test.false c.loop-piece.invariant
