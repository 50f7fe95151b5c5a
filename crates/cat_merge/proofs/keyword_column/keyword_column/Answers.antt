use Rattle.std.proofs.lemmas.Result.{IfOk-from_err}
use Rattle.std.proofs.Common.{◌≡◌, List, ℕ, map, take, Some, Option, sym, ap, ap₂, ◌∙◌, subst, arith}
use Rattle.std.specs.List.{flat_map}
use Rattle.std.specs.Prelude.{All}
use Rattle.std.proofs.lemmas.List.{take_all}
use Rattle.cat_model.specs.Item.{keyword_in}
use Rattle.cat_model.specs.Layout.{Laid, code_in, keywords_of}
use Rattle.cat_model.specs.Ordinals.{dictionary_of}
use Rattle.cat_model.specs.Text.{Text}
use Rattle.cat_model.specs.View.{Leaf, selected}
use Rattle.cat_views.specs.cat_segment.Laid.{content_under}
use Rattle.cat_columns.specs.Columns.{DictionaryHas}
use Rattle.cat_columns.proofs.Laid.{keywords_there}
use Rattle.cat_merge.specs.Fields.{keywords_under, kept_rows}
use Rattle.cat_merge.proofs.Read.{all_of_flat, keyword_texts, input_more, kept_values, read_seen}
use Rattle.cat_merge.proofs.keyword_column.keyword_column.Goals as goal

abbrev part : ℕ → Leaf → List (Option Text)
part index leaf = selected leaf.live (keywords_under index leaf.segment.rows)

pub add_input-requires-clause-there : goal.add_input-requires-clause-there
add_input-requires-clause-there c =
    let values : List (Option Text) = keywords_under c.args.index (kept_rows c.args.inputs.now) in
    let words : c.words-words.result.now ≡ keywords_of values = c.words-words.ensures.value ∙ ap dictionary_of (c.requires.terms ∙ keyword_texts c.args.index (kept_rows c.args.inputs.now)) in
    let all : All (DictionaryHas (keywords_of values)) (flat_map (part c.args.index) c.args.inputs.now)
    = subst (λ l. All (DictionaryHas (keywords_of values)) l) (sym (kept_values (λ r. keyword_in (Some (content_under c.args.index r))) c.args.inputs.now)) (keywords_there values) in
    subst (λ w. All (DictionaryHas w) (part c.args.index c.input-item.result)) (sym words)
    (subst (λ (l : Leaf). All (DictionaryHas (keywords_of values)) (part c.args.index l)) (sym c.input-item.is)
    (all_of_flat (DictionaryHas (keywords_of values)) (part c.args.index) c.args.inputs.now c.loop-input.input-index c.input-item.result all c.loop-input-test.true))

pub loop-input-preserved : goal.loop-input-preserved
loop-input-preserved c =
    input_more (part c.args.index) c.args.inputs.now c.loop-input.input-index c.input-item.result c.loop-input-test.true c.input-item.is
    (code_in c.words-words.result.now) c.loop-input.codes.items c.add_input.new.codes.items c.loop-input.invariant c.in_ok-add_input.ensures

pub returns : goal.returns
returns c =
    let values : List (Option Text) = keywords_under c.args.index (kept_rows c.args.inputs.now) in
    let words : c.words-words.result.now ≡ keywords_of values = c.words-words.ensures.value ∙ ap dictionary_of (c.requires.terms ∙ keyword_texts c.args.index (kept_rows c.args.inputs.now)) in
    let all : take c.loop-input.input-index c.args.inputs.now ≡ c.args.inputs.now = take_all c.loop-input.input-index c.args.inputs.now (omega arith) in
    let codes : c.loop-input.codes.items ≡ map (code_in (keywords_of values)) values
    = c.loop-input.invariant
    ∙ ap₂ (λ (w : List Text) (l : List (Option Text)). map (code_in w) l) words
    (ap (λ l. flat_map (part c.args.index) l) all ∙ kept_values (λ r. keyword_in (Some (content_under c.args.index r))) c.args.inputs.now) in
    record {
      cut = tt;
      laid = ap₂ Laid.keywords (c.in_ok-copied.ensures.ok ∙ words) codes
          ∙ ap (λ ks. Laid.keywords (keywords_of ks) (map (code_in (keywords_of ks)) ks)) (sym (read_seen keyword_in c.args.index (kept_rows c.args.inputs.now)));
      words = λ e. absurd (cc);
    }

pub returns-in_err-codes : goal.returns-in_err-codes
returns-in_err-codes c = IfOk-from_err _ _ c.from_residual.ensures.0

pub returns-in_err-add_input : goal.returns-in_err-add_input
returns-in_err-add_input c = IfOk-from_err _ _ c.from_residual-in_err-add_input.ensures.0

pub returns-in_err-copied : goal.returns-in_err-copied
returns-in_err-copied c = IfOk-from_err _ _ c.from_residual-in_err-copied.ensures.0
