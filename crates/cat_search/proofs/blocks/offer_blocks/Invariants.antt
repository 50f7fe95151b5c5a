use Rattle.std.proofs.Common.{◌≡◌, ◌*◌, ◌++◌, List}
use Rattle.cat_search.specs.Candidates.{IsBestAt, mark_standing}
use Rattle.cat_search.specs.Standings.{HitStanding}
use Rattle.cat_search.proofs.BlockRows.{rows_to}
use Rattle.cat_search.proofs.blocks.offer_blocks.Given as goal

abbrev pub invariant-loop-block : goal.invariant-loop-block
invariant-loop-block l = record {
  limit : l.best.limit ≡ l.initial.best.limit;
  best : (ps : List HitStanding) → IsBestAt l.initial.best ps → IsBestAt l.best (ps ++ rows_to (mark_standing l.mark) l.ranks l.hits (64 * l.block));
}
