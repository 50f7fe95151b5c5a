-- What a ledger tells of itself.
use Rattle.cat_model.specs.View.{Leaf}
use Rattle.cat_ledger.specs.declared.telling.SegmentStat.{SegmentStat}
use Rattle.cat_ledger.specs.declared.telling.Stat.{Stat}
use Rattle.cat_ledger_laws.specs.shape.Shapes.{Shape}
use Rattle.std.specs.Prelude.{count_by, length, map, ◌==◌, ◌≡◌}

-- its number, its rows, and how many of them are live
abbrev pub segment_stat : Leaf → SegmentStat
segment_stat leaf = record { number = leaf.segment.number; rows = length leaf.segment.rows; live = count_by (λ b. b) leaf.live }

-- it tells the numbers of what memory has
pub record IsStatOf (s : Shape) (stat : Stat) : Type 0 where
  pub writes : stat.writes ≡ s.count
  pub buffered : stat.buffered ≡ length s.buffered
  pub views : stat.views ≡ length s.views
  pub pending : stat.pending ≡ count_by (λ u. u.users == 0) s.users
  pub segments : stat.segments.items ≡ map segment_stat s.leaves
