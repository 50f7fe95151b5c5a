use Rattle.std.proofs.Common.{length, Bool, List, sym, ap, ◌∙◌}
use Rattle.std.specs.List.{count_by}
use Rattle.cat_model.specs.View.{Segment}
use Rattle.cat_ledger.proofs.upkeep.Sizes.{dead_told}
use Rattle.cat_ledger.proofs.upkeep.due.has_dead.Goals as goal

pub returns : goal.returns
returns c =
    let leaf = c.args.leaf.now in
    dead_told leaf.live c.count.result c.len.result
    (c.count.ensures ∙ ap (λ (bs : List Bool). count_by (λ (x : Bool). x) bs) c.live.ensures.value)
    (c.len.ensures.same ∙ (ap (λ (s : Segment). length s.rows) c.segment.ensures ∙ sym c.live.ensures.long))
