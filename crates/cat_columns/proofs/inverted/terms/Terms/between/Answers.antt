use Rattle.std.proofs.Common.{◌≡◌, true, false, Bool, Option, ◌&&◌, List, refl, subst, sym}
use Rattle.std.proofs.lemmas.List.{take_rest}
use Rattle.std.specs.List.Sorted.{IsPartitionPoint}
use Rattle.std.specs.Option.{option_map}
use Rattle.cat_base.specs.Texts.{IsTextSet}
use Rattle.cat_model.specs.Text.{Text, text_le}
use Rattle.cat_model.specs.Query.{open_or}
use Rattle.cat_columns.specs.inverted.Intervals.{IsInterval}
use Rattle.cat_columns.proofs.inverted.Rows.{if_ok}
use Rattle.cat_columns.proofs.inverted.Intervals.{set_behind, interval_of}
use Rattle.cat_columns.proofs.inverted.terms.Terms.between.Goals as goal

pub count_up_to-count-requires : goal.count_up_to-count-requires
count_up_to-count-requires c =
    subst IsTextSet (sym (take_rest c.words-words.result.now c.first_from-first.result)) (set_behind c.first_from-first.result c.words-words.result.now c.words-words.ensures.sorted)

pub returns : goal.returns
returns c = record {
  ok = (let words = c.words-words.result.now in
      let first = c.first_from-first.result in
      let count = c.count_up_to-count.result in
      let low : Option Text = option_map (λ t. t.now) c.args.low in
      let high : Option Text = option_map (λ t. t.now) c.args.high in
      let start = subst (λ (o : Option Text). IsPartitionPoint (λ w. open_or (λ a. text_le a w) o ≡ false) (λ w. open_or (λ a. text_le a w) o ≡ true) words first) c.as_str.ensures c.first_from-first.ensures.point in
      let end = subst (λ (rest : List Text). IsPartitionPoint (λ w. open_or (text_le w) high ≡ true) (λ w. open_or (text_le w) high ≡ false) rest count) (take_rest words first) c.count_up_to-count.ensures.point in
      let p : Text → Bool = λ w. open_or (λ a. text_le a w) low && open_or (text_le w) high in
      let interval = interval_of p (λ w. open_or (λ a. text_le a w) low) (λ w. open_or (text_le w) high) (λ w. refl) words first count start end in
      if_ok _ _ (λ s is. is p (subst (λ (ws : List Text). IsInterval p ws first count) c.words-words.ensures.value interval)) c.rows_of_words.result c.rows_of_words.ensures.ok);
}
