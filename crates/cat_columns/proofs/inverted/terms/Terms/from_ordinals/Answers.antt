use Rattle.std.proofs.Common.{◌<◌, length, map, sym, ap, ◌∙◌, subst}
use Rattle.std.proofs.lemmas.List.FromFn.{length-range_with_len}
use Rattle.std.specs.List.{range_with_len}
use Rattle.std.specs.Prelude.{All}
use Rattle.cat_model.specs.Layout.{pieces}
use Rattle.cat_model.specs.Ordinals.{text_at}
use Rattle.cat_columns.specs.inverted.Gathered.{ends_from, rows_at}
use Rattle.cat_columns.specs.inverted.Counted.{all_rows_at}
use Rattle.cat_columns.proofs.inverted.Parts.{joined, length-pieces}
use Rattle.cat_columns.proofs.inverted.ByOrdinal.{dictionary_rises, lists_are_postings, terms_gathered, rows_gathered}
use Rattle.cat_columns.proofs.inverted.Counted.{at_ordinal}
use Rattle.cat_columns.proofs.inverted.terms.Terms.from_ordinals.Goals as goal

pub laid_by_ordinal-requires-clause-within : goal.laid_by_ordinal-requires-clause-within
laid_by_ordinal-requires-clause-within c = subst (λ n. All (All (λ o. o < n)) (pieces 0 c.args.ends.now c.args.ordinals.now)) (sym c.len.ensures) c.requires.within

pub invariant_of-result : goal.invariant_of-result
invariant_of-result c =
    let words = c.args.words in
    let ends = c.args.ends.now in
    let rows = pieces 0 ends c.args.ordinals.now in
    let sorted = dictionary_rises words (map (map (text_at words)) rows) c.requires.occur in
    let are = lists_are_postings (λ o. rows_at o rows) (range_with_len 0 (length words)) words rows sorted c.requires.within (length-range_with_len 0 (length words)) (λ o lt. at_ordinal (length words) rows o lt) in
    terms_gathered (length ends) words rows (length-pieces 0 ends c.args.ordinals.now) c.requires.occur c.in_ok-ends_of_words.ends_of_words.items c.in_ok-ends_of_words.rows.items (all_rows_at (length words) rows) are
    (c.in_ok-ends_of_words.ensures.ends ∙ ap (λ n. ends_from 0 (all_rows_at n rows)) c.len.ensures)
    (c.in_ok-ends_of_words.ensures.rows ∙ ap (λ n. joined (all_rows_at n rows)) c.len.ensures)
    c.requires.few c.in_ok-ends_of_words.ensures.few

pub returns : goal.returns
returns c = record {
  ok = (
      let words = c.args.words in
      let ends = c.args.ends.now in
      let rows = pieces 0 ends c.args.ordinals.now in
      let sorted = dictionary_rises words (map (map (text_at words)) rows) c.requires.occur in
      let are = lists_are_postings (λ o. rows_at o rows) (range_with_len 0 (length words)) words rows sorted c.requires.within (length-range_with_len 0 (length words)) (λ o lt. at_ordinal (length words) rows o lt) in
      rows_gathered (length ends) words rows (length-pieces 0 ends c.args.ordinals.now) c.requires.occur c.in_ok-ends_of_words.ends_of_words.items c.in_ok-ends_of_words.rows.items (all_rows_at (length words) rows) are
      (c.in_ok-ends_of_words.ensures.ends ∙ ap (λ n. ends_from 0 (all_rows_at n rows)) c.len.ensures)
      (c.in_ok-ends_of_words.ensures.rows ∙ ap (λ n. joined (all_rows_at n rows)) c.len.ensures)
      c.requires.rising c.requires.within
      );
}
