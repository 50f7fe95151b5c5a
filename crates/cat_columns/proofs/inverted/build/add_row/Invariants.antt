use Rattle.std.proofs.Common.{◌≡◌, [], ◌∷◌, ◌++◌, ◌||◌, take, is_some, if◌then◌else◌}
use Rattle.std.specs.List.{list_any}
use Rattle.cat_model.specs.Text.{Text, same_text}
use Rattle.cat_columns.specs.inverted.Gathered.{found, listed}
use Rattle.cat_columns.proofs.inverted.build.add_row.Given as goal

abbrev pub invariant-loop-word : goal.invariant-loop-word
invariant-loop-word l = record {
  lists : (word : Text) → listed word l.postings ≡ listed word l.fn.postings ++ (if list_any (same_text word) (take l.word-index l.words) then l.row ∷ [] else []);
  keys : (word : Text) → is_some (found word l.postings) ≡ (is_some (found word l.fn.postings) || list_any (same_text word) (take l.word-index l.words));
}
