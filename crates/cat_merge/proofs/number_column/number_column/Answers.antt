use Rattle.std.proofs.Common.{◌≡◌, ◌++◌, List, take, Some, Option, ℤ, sym, ap, ◌∙◌, arith}
use Rattle.std.specs.List.{flat_map}
use Rattle.std.proofs.lemmas.List.{map-id, take_all}
use Rattle.cat_model.specs.Item.{number_in}
use Rattle.cat_model.specs.Layout.{Laid}
use Rattle.cat_model.specs.View.{Leaf, selected}
use Rattle.cat_views.specs.cat_segment.Laid.{content_under}
use Rattle.cat_merge.specs.Fields.{numbers_under, kept_rows}
use Rattle.cat_merge.proofs.Read.{input_more, kept_values, read_seen}
use Rattle.cat_merge.proofs.number_column.number_column.Goals as goal

pub loop-input-preserved : goal.loop-input-preserved
loop-input-preserved c =
    let here : List (Option ℤ) = selected c.input-item.result.live (numbers_under c.args.index c.input-item.result.segment.rows) in
    input_more (λ leaf. selected leaf.live (numbers_under c.args.index leaf.segment.rows)) c.args.inputs.now c.loop-input.input-index c.input-item.result c.loop-input-test.true c.input-item.is
    (λ n. n) c.loop-input.numbers.items c.add_input.new.numbers.items c.loop-input.invariant (c.in_ok-add_input.ensures ∙ ap (λ l. c.loop-input.numbers.items ++ l) (sym (map-id here)))

pub returns : goal.returns
returns c =
    let all : take c.loop-input.input-index c.args.inputs.now ≡ c.args.inputs.now = take_all c.loop-input.input-index c.args.inputs.now (omega arith) in
    let told : c.loop-input.numbers.items ≡ numbers_under c.args.index (kept_rows c.args.inputs.now)
    = c.loop-input.invariant ∙ map-id (flat_map (λ (leaf : Leaf). selected leaf.live (numbers_under c.args.index leaf.segment.rows)) (take c.loop-input.input-index c.args.inputs.now))
    ∙ ap (λ l. flat_map (λ (leaf : Leaf). selected leaf.live (numbers_under c.args.index leaf.segment.rows)) l) all
    ∙ kept_values (λ r. number_in (Some (content_under c.args.index r))) c.args.inputs.now in
    record {
      cut = tt;
      laid = ap Laid.numbers (told ∙ sym (read_seen number_in c.args.index (kept_rows c.args.inputs.now)));
      words = λ e. absurd (cc);
    }
