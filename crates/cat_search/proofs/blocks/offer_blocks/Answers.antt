use Rattle.std.proofs.Common.{◌*◌, ◌≤◌, ◌++◌, ◌∙◌, length, sym, ap, subst, refl, arith, append-nil, append_assoc}
use Rattle.std.specs.List.{range_with_len}
use Rattle.cat_search.specs.Candidates.{IsBestAt, mark_standing}
use Rattle.cat_search.proofs.BlockRows.{block_more, blocks_all, rows_to}
use Rattle.cat_search.proofs.Stepped.{taken}
use Rattle.cat_search.proofs.blocks.offer_blocks.Goals as goal

pub offer_block-requires-clause-within : goal.offer_block-requires-clause-within
offer_block-requires-clause-within c = omega (arith, c.loop-block-test.true, c.len.ensures.value, c.requires.long)

pub loop-block-init : goal.loop-block-init
loop-block-init c = record {
  limit = refl;
  best = λ ps h. subst (IsBestAt c.args.best.now) (sym (append-nil ps)) h;
}

pub loop-block-preserved : goal.loop-block-preserved
loop-block-preserved c =
    let mark = mark_standing c.args.mark.now in
    let ranks = c.args.ranks.now in
    let hits = c.args.hits.now in
    let block = c.loop-block.block in
    record {
      limit = c.in_ok-offer_block.ensures.limit ∙ c.loop-block.invariant.limit;
      best = λ ps h.
          subst (IsBestAt c.offer_block.new.best)
          (append_assoc ps (rows_to mark ranks hits (64 * block)) (taken mark ranks hits (range_with_len (64 * block) 64)) ∙ ap (λ qs. ps ++ qs) (block_more mark ranks hits block))
          (c.in_ok-offer_block.ensures.best (ps ++ rows_to mark ranks hits (64 * block)) (c.loop-block.invariant.best ps h));
    }

pub returns-clause-best : goal.returns-clause-best
returns-clause-best c = λ ps h.
    let mark = mark_standing c.args.mark.now in
    let ended : length c.args.hits.now ≤ 64 * c.loop-block.block = omega (arith, c.loop-block-test.false, c.len.ensures.value) in
    subst (λ qs. IsBestAt c.loop-block.best (ps ++ qs)) (blocks_all mark c.args.ranks.now c.args.hits.now c.requires.long (64 * c.loop-block.block) ended) (c.loop-block.invariant.best ps h)
