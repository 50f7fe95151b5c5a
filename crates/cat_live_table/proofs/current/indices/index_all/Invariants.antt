use Rattle.std.proofs.Common.{◌≡◌, ◌≤◌, ℕ, length, take, nat_eq, ◌+◌}
use Rattle.std.specs.HashMap.{get, hash_map_len, spare}
use Rattle.cat_live_table.specs.current.Indices.{index_in}
use Rattle.cat_live_table.proofs.current.indices.index_all.Given as goal

-- those before this one are noted, and there is room for the others
abbrev pub invariant-loop-index : goal.invariant-loop-index
invariant-loop-index l = record {
  indexed : (n : ℕ) → get nat_eq l.indices n ≡ index_in n (take l.index l.leaves);
  counted : hash_map_len l.indices ≡ l.index;
  room : length l.leaves ≤ spare l.indices + l.index;
}
