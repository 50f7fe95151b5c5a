use Rattle.std.proofs.Common.{◌≡◌, ◌<◌, ◌^◌, length, take, map}
use Rattle.std.specs.List.{flat_map}
use Rattle.cat_columns.specs.inverted.Gathered.{listed, ends_from}
use Rattle.cat_columns.proofs.inverted.build.laid.Given as goal

abbrev pub invariant-loop-word : goal.invariant-loop-word
invariant-loop-word l = record {
  ends : l.ends.items ≡ ends_from 0 (map (λ word. listed word l.postings) (take l.word-index l.words));
  rows : l.rows.items ≡ flat_map (λ part. part) (map (λ word. listed word l.postings) (take l.word-index l.words));
  few : length l.rows.items < 2 ^ 32;
}
