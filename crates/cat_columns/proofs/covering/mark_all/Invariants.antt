use Rattle.std.proofs.Common.{◌≡◌, ℕ, ◌+◌, ◌*◌, ◌<◌, ◌==◌, take, length}
use Rattle.std.specs.List.{list_any}
use Rattle.cat_columns.specs.Bits.{is_set}
use Rattle.cat_columns.proofs.covering.mark_all.Given as goal

abbrev pub invariant-loop-number : goal.invariant-loop-number
invariant-loop-number l = record {
  long : length l.blocks ≡ length l.fn.blocks;
  marked : (k : ℕ) → k < 64 * length l.fn.blocks → is_set l.blocks k ≡ list_any (λ n. n == l.from + k) (take l.number-index l.numbers);
}
