use Rattle.std.proofs.Common.{◌∙◌, count_by, ap}
use Rattle.cat_search.proofs.Tested.{live_counted, rows_within}
use Rattle.cat_search.proofs.in_range.InRange.count.Goals as goal

pub count_live-requires : goal.count_live-requires
count_live-requires c =
    let range = c.self.inside in
    let found = c.rising_between.ensures in
    rows_within range.low range.high range.numbers.now range.leaf.now.live c.self.invariant found.order c.rising_between.result.now found.all.rows found.passed

pub returns : goal.returns
returns c =
    let range = c.self.inside in
    let found = c.rising_between.ensures in
    c.count_live.ensures
    ∙ live_counted range.low range.high range.numbers.now range.leaf.now.live c.self.invariant found.order c.rising_between.result.now found.all.rows found.passed
    ∙ ap (count_by (λ b. b)) c.self.view_is
