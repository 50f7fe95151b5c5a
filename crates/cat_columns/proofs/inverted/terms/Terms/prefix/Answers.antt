use Rattle.std.proofs.Common.{◌≡◌, true, false, List, subst, sym}
use Rattle.std.proofs.lemmas.List.{take_rest}
use Rattle.std.specs.List.Sorted.{IsPartitionPoint}
use Rattle.cat_base.specs.Texts.{IsTextSet}
use Rattle.cat_model.specs.Text.{Text, text_le, has_prefix}
use Rattle.cat_columns.specs.inverted.Intervals.{IsInterval}
use Rattle.cat_columns.proofs.inverted.Rows.{if_ok}
use Rattle.cat_columns.proofs.inverted.Intervals.{set_behind, interval_of, prefix_is}
use Rattle.cat_columns.proofs.inverted.terms.Terms.prefix.Goals as goal

pub count_with_prefix-count-requires-clause-sorted : goal.count_with_prefix-count-requires-clause-sorted
count_with_prefix-count-requires-clause-sorted c =
    subst IsTextSet (sym (take_rest c.words-words.result.now c.first_from-first.result)) (set_behind c.first_from-first.result c.words-words.result.now c.words-words.ensures.sorted)

pub returns : goal.returns
returns c = record {
  ok = (let words = c.words-words.result.now in
      let first = c.first_from-first.result in
      let count = c.count_with_prefix-count.result in
      let prefix = c.args.prefix.now in
      let end = subst (λ (rest : List Text). IsPartitionPoint (λ w. has_prefix prefix w ≡ true) (λ w. has_prefix prefix w ≡ false) rest count) (take_rest words first) c.count_with_prefix-count.ensures.point in
      let interval = interval_of (has_prefix prefix) (text_le prefix) (has_prefix prefix) (prefix_is prefix) words first count c.first_from-first.ensures.point end in
      if_ok _ _ (λ s is. is (has_prefix prefix) (subst (λ (ws : List Text). IsInterval (has_prefix prefix) ws first count) c.words-words.ensures.value interval)) c.rows_of_words.result c.rows_of_words.ensures.ok);
}
