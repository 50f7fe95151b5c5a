-- The pieces so far stand behind what was there.
use Rattle.std.proofs.Common.{◌≡◌, ◌++◌, take}
use Rattle.std.specs.List.{flat_map}
use Rattle.cat_service_tests.proofs.plain.output.push_all.Given as goal

abbrev pub invariant-loop-piece : goal.invariant-loop-piece
invariant-loop-piece l = l.to.items ≡ l.fn.to.items ++ flat_map (λ p. p.now) (take l.piece-index l.pieces)
