use Rattle.cat_commits.specs.reading.Judged.{live_ids}
use Rattle.std.proofs.lemmas.List.{take_all}
use Rattle.std.proofs.Common.{◌++◌, map, sym, ap, ◌∙◌, List, arith}
use Rattle.cat_model.specs.View.{Row, live_rows, Leaf}
use Rattle.cat_views.specs.cat_segment.Filter.{id_hash}
use Rattle.cat_commits.proofs.reading.Hashes.{hashes_more}
use Rattle.cat_commits.proofs.reading.ids.hashes_in.Goals as goal

pub loop-leaf-preserved : goal.loop-leaf-preserved
loop-leaf-preserved c =
    let here = map (λ (r : Row). id_hash r.id) (live_rows c.leaf-item.result) in
    c.in_ok-push_hashes.ensures ∙ ap (λ hashes. hashes ++ here) c.loop-leaf.invariant
    ∙ sym (hashes_more c.args.leaves.now c.loop-leaf.leaf-index c.leaf-item.result c.loop-leaf-test.true c.leaf-item.is)

pub returns : goal.returns
returns c = c.loop-leaf.invariant ∙ ap (λ (l : List Leaf). map id_hash (live_ids l)) (take_all c.loop-leaf.leaf-index c.args.leaves.now (omega arith))
