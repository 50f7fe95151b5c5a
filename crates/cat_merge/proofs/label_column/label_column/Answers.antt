use Rattle.std.proofs.Common.{◌≡◌, List, ℕ, map, take, Some, sym, ap, ap₂, ◌∙◌, subst, arith}
use Rattle.std.specs.List.{flat_map}
use Rattle.std.specs.Prelude.{All, Contains}
use Rattle.std.proofs.lemmas.List.{take_all}
use Rattle.cat_model.specs.Item.{labels_in}
use Rattle.cat_model.specs.Layout.{Laid, ordinal_in, pieces}
use Rattle.cat_model.specs.Ordinals.{dictionary_of}
use Rattle.cat_model.specs.Text.{Text}
use Rattle.cat_model.specs.View.{Leaf, selected}
use Rattle.cat_views.specs.cat_segment.Laid.{content_under}
use Rattle.cat_columns.proofs.Laid.{rows_there}
use Rattle.cat_merge.specs.Fields.{labels_under, kept_rows}
use Rattle.cat_merge.proofs.Read.{all_of_flat, input_more, kept_values, read_seen}
use Rattle.cat_merge.proofs.label_column.label_column.Goals as goal

abbrev part : ℕ → Leaf → List (List Text)
part index leaf = selected leaf.live (labels_under index leaf.segment.rows)

pub add_input-requires-clause-there : goal.add_input-requires-clause-there
add_input-requires-clause-there c =
    let rows : List (List Text) = labels_under c.args.index (kept_rows c.args.inputs.now) in
    let words : c.words-words.result.now ≡ dictionary_of rows = c.words-words.ensures.value ∙ ap dictionary_of c.requires.terms in
    let all : All (All (Contains (dictionary_of rows))) (flat_map (part c.args.index) c.args.inputs.now)
    = subst (λ l. All (All (Contains (dictionary_of rows))) l) (sym (kept_values (λ r. labels_in (Some (content_under c.args.index r))) c.args.inputs.now)) (rows_there rows) in
    subst (λ w. All (All (Contains w)) (part c.args.index c.input-item.result)) (sym words)
    (subst (λ (l : Leaf). All (All (Contains (dictionary_of rows))) (part c.args.index l)) (sym c.input-item.is)
    (all_of_flat (All (Contains (dictionary_of rows))) (part c.args.index) c.args.inputs.now c.loop-input.input-index c.input-item.result all c.loop-input-test.true))

pub loop-input-preserved : goal.loop-input-preserved
loop-input-preserved c =
    input_more (part c.args.index) c.args.inputs.now c.loop-input.input-index c.input-item.result c.loop-input-test.true c.input-item.is
    (map (ordinal_in c.words-words.result.now)) c.loop-input.rows c.add_input.new.rows c.loop-input.invariant c.in_ok-add_input.ensures

pub returns : goal.returns
returns c =
    let rows : List (List Text) = labels_under c.args.index (kept_rows c.args.inputs.now) in
    let words : c.words-words.result.now ≡ dictionary_of rows = c.words-words.ensures.value ∙ ap dictionary_of c.requires.terms in
    let all : take c.loop-input.input-index c.args.inputs.now ≡ c.args.inputs.now = take_all c.loop-input.input-index c.args.inputs.now (omega arith) in
    let ordinals : pieces 0 c.into_parts-ends.result.0.items c.into_parts-ends.result.1.items ≡ map (map (ordinal_in (dictionary_of rows))) rows
    = c.into_parts-ends.ensures.lists ∙ c.loop-input.invariant
    ∙ ap₂ (λ (w : List Text) (l : List (List Text)). map (map (ordinal_in w)) l) words
    (ap (λ l. flat_map (part c.args.index) l) all ∙ kept_values (λ r. labels_in (Some (content_under c.args.index r))) c.args.inputs.now) in
    record {
      cut = (c.into_parts-ends.ensures.ends, c.into_parts-ends.ensures.few);
      laid = ap₂ Laid.labels (c.in_ok-copied.ensures.ok ∙ words) ordinals
          ∙ ap (λ ls. Laid.labels (dictionary_of ls) (map (map (ordinal_in (dictionary_of ls))) ls)) (sym (read_seen labels_in c.args.index (kept_rows c.args.inputs.now)));
      words = λ e. absurd (cc);
    }
