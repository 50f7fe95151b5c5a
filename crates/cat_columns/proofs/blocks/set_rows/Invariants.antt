use Rattle.std.proofs.Common.{◌≡◌, ℕ, ◌||◌, ◌==◌, take, length}
use Rattle.std.specs.List.{list_any}
use Rattle.cat_columns.specs.Bits.{is_set}
use Rattle.cat_columns.proofs.blocks.set_rows.Given as goal

abbrev pub invariant-loop-row : goal.invariant-loop-row
invariant-loop-row l = record {
  long : length l.blocks ≡ length l.fn.blocks;
  done : (r : ℕ) → is_set l.blocks r ≡ (is_set l.fn.blocks r || list_any (λ k. k == r) (take l.row-index l.rows));
}
