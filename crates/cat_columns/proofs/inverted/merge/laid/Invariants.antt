use Rattle.std.proofs.Common.{◌≡◌, ◌<◌, ◌^◌, length, take, map}
use Rattle.std.specs.List.{flat_map}
use Rattle.cat_columns.specs.inverted.Gathered.{ends_from}
use Rattle.cat_columns.proofs.inverted.merge.laid.Given as goal

abbrev pub invariant-loop-list : goal.invariant-loop-list
invariant-loop-list l = record {
  ends : l.ends.items ≡ ends_from 0 (map (λ list. list.items) (take l.list-index l.lists));
  rows : l.rows.items ≡ flat_map (λ list. list) (map (λ list. list.items) (take l.list-index l.lists));
  few : length l.rows.items < 2 ^ 32;
}
