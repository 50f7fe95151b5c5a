use Rattle.std.proofs.Common.{◌≡◌, map, take}
use Rattle.cat_commands.specs.ledger.Chores.{stat_told}
use Rattle.cat_commands.proofs.ledger.stats.segments_of.Given as goal

abbrev pub invariant-loop-segment : goal.invariant-loop-segment
invariant-loop-segment l = l.segments.items ≡ map stat_told (take l.segment-index l.told)
