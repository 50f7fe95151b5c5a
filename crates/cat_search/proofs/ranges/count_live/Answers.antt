use Rattle.std.proofs.Common.{◌<◌, ap, length, sym, ◌∙◌}
use Rattle.std.proofs.lemmas.List.Elements.{recursion_from_All}
use Rattle.cat_search.proofs.InRange.{all_counted}
use Rattle.cat_search.proofs.ranges.count_live.Goals as goal

pub returns-then-live_count-len : goal.returns-then-live_count-len
returns-then-live_count-len c =
    let live = c.args.leaf.now.live in
    all_counted live (sym c.live_count.ensures ∙ c.if-live_count-len.true ∙ c.len.ensures.value ∙ ap length (c.rows-live.ensures ∙ c.live.ensures.value)) c.args.rows.now
    (recursion_from_All (λ row. row < length live) c.args.rows.now c.requires)
