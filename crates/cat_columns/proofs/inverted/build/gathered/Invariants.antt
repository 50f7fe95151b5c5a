use Rattle.std.proofs.Common.{◌≡◌, take, map, is_some}
use Rattle.std.specs.List.{list_any}
use Rattle.cat_model.specs.Text.{Text, same_text}
use Rattle.cat_model.specs.Ordinals.{postings_of}
use Rattle.cat_columns.specs.inverted.Gathered.{found, listed}
use Rattle.cat_columns.proofs.inverted.build.gathered.Given as goal

abbrev pub invariant-loop-row : goal.invariant-loop-row
invariant-loop-row l = record {
  lists : (word : Text) → listed word l.postings ≡ postings_of word (map (λ r. r.now) (take l.row l.rows));
  keys : (word : Text) → is_some (found word l.postings) ≡ list_any (list_any (same_text word)) (map (λ r. r.now) (take l.row l.rows));
}
