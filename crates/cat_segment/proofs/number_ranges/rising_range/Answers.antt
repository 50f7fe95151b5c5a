use Rattle.std.proofs.Common.{ap, drop, ◌∙◌}
use Rattle.cat_segment.proofs.number_ranges.rising_range.Goals as goal

pub returns : goal.returns
returns c =
    c.split_at-2.ensures.back ∙ ap (drop c.rising_stretch-from.result.0) c.split_at.ensures.front ∙ c.rising_stretch-from.ensures.rows
