use Rattle.std.proofs.Common.{◌≡◌, ℕ, ◌<◌, ◌++◌, [], length, take, if◌then◌else◌}
use Rattle.std.specs.List.{list_any}
use Rattle.cat_model.specs.Text.{same_text}
use Rattle.cat_model.specs.Ordinals.{dictionary_of, postings_of, text_at}
use Rattle.cat_columns.specs.Merged.{moved}
use Rattle.cat_columns.specs.inverted.Gathered.{list_of_ordinal}
use Rattle.cat_columns.proofs.inverted.merge.add_input.Given as goal

abbrev pub invariant-loop-word : goal.invariant-loop-word
invariant-loop-word l = record {
  count : length l.lists.items ≡ length l.fn.lists.items;
  lists : (o : ℕ) → o < length l.words → list_of_ordinal l.lists o ≡ list_of_ordinal l.fn.lists o ++ (if list_any (same_text (text_at l.words o)) (take l.word (dictionary_of l.input.terms.now)) then moved l.input.row_map.now (postings_of (text_at l.words o) l.input.terms.now) else []);
}
