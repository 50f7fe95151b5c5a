use Rattle.std.proofs.Common.{◌≡◌, ℕ, ◌<◌, length, take}
use Rattle.std.specs.List.{flat_map}
use Rattle.std.specs.Prelude.{All}
use Rattle.cat_base.specs.Texts.{IsTextSet}
use Rattle.cat_model.specs.Ordinals.{postings_of, text_at}
use Rattle.cat_columns.specs.Merged.{kept_of}
use Rattle.cat_columns.specs.inverted.Gathered.{list_of_ordinal}
use Rattle.cat_columns.proofs.inverted.merge.gathered.Given as goal

abbrev pub invariant-loop-input : goal.invariant-loop-input
invariant-loop-input l = record {
  count : length l.lists.items ≡ length l.words;
  lists : (o : ℕ) → o < length l.words → list_of_ordinal l.lists o ≡ postings_of (text_at l.words o) (flat_map (λ p. kept_of p.row_map.now p.terms.now) (take l.input-index l.inputs));
  sets : All (λ p. All IsTextSet p.terms.now) (take l.input-index l.inputs);
}
