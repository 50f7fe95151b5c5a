use Rattle.std.proofs.Common.{List, ◌++◌, map, sym, ap, ◌∙◌, arith}
use Rattle.std.proofs.lemmas.List.{take_all}
use Rattle.cat_model.specs.Text.{Text}
use Rattle.cat_model.specs.View.{Row, live_rows}
use Rattle.cat_commits.specs.reading.Judged.{live_ids}
use Rattle.cat_commits.proofs.reading.Known.{ids_more}
use Rattle.cat_commits.proofs.reading.ids.ids_in.Goals as goal

pub loop-leaf-preserved : goal.loop-leaf-preserved
loop-leaf-preserved c =
    c.in_ok-push_ids.ensures ∙ ap (λ (l : List Text). l ++ map (λ (r : Row). r.id) (live_rows c.leaf-item.result)) c.loop-leaf.invariant
    ∙ sym (ids_more c.args.leaves.now c.loop-leaf.leaf-index c.leaf-item.result c.loop-leaf-test.true c.leaf-item.is)

pub returns : goal.returns
returns c = c.loop-leaf.invariant ∙ ap live_ids (take_all c.loop-leaf.leaf-index c.args.leaves.now (omega arith))
