use Rattle.std.proofs.Common.{◌∙◌, sym, ap, length}
use Rattle.cat_search.specs.Rows.{keys_by}
use Rattle.cat_search.proofs.Ranks.{length-standings}
use Rattle.cat_search.proofs.leaf_ranks.LeafRanks.len.Goals as goal

pub returns : goal.returns
returns c =
    let rows = c.self.inside.segment.now.rows in
    c.len.ensures.same ∙ sym (length-standings c.self.inside.order (keys_by c.self.inside.column (length rows)) rows c.self.invariant) ∙ ap length c.self.view_is
