use Rattle.std.proofs.Common.{ℕ, ◌<◌, List, length, take, drop, map, subst, sym, ap, ◌∙◌, arith}
use Rattle.std.proofs.lemmas.List.FromFn.{length-map-range_with_len}
use Rattle.std.specs.List.{list_any, range_with_len}
use Rattle.std.specs.Prelude.{All}
use Rattle.cat_model.specs.Text.{Text}
use Rattle.cat_model.specs.Ordinals.{dictionary_of}
use Rattle.cat_columns.specs.inverted.Intervals.{IsInterval}
use Rattle.cat_model.specs.Layout.{pieces}
use Rattle.cat_columns.specs.inverted.Postings.{is_among, words_at}
use Rattle.cat_columns.proofs.inverted.Parts.{joined, length-pieces}
use Rattle.cat_columns.proofs.inverted.Rows.{if_ok, words_are, parts_below, rows_of_interval}
use Rattle.cat_columns.proofs.inverted.terms.Terms.rows_of_words.Goals as goal

pub parts-requires-clause-within : goal.parts-requires-clause-within
parts-requires-clause-within c =
    let t = c.self.inside in
    let whole = words_are t.len t.words t.ends.items t.rows.items c.self.invariant ∙ ap dictionary_of c.self.view_is in
    omega (arith, c.requires, ap length c.deref.ensures.value, c.self.invariant.paired, ap length whole)

pub set_of-requires : goal.set_of-requires
set_of-requires c =
    let t = c.self.inside in
    let parts = pieces 0 t.ends.items t.rows.items in
    let long = sym (length-map-range_with_len (words_at t.words parts) 0 t.len) ∙ ap length c.self.view_is in
    let found =
    c.parts.ensures
    ∙ ap (λ (ends : List ℕ). joined (take c.args.count (drop c.args.first (pieces 0 ends c.deref-2.result.now)))) c.deref.ensures.value
    ∙ ap (λ (rows : List ℕ). joined (take c.args.count (drop c.args.first (pieces 0 t.ends.items rows)))) c.deref-2.ensures.value in
    subst (λ (rows : List ℕ). All (λ r. r < length c.args.self.now) rows) (sym found)
    (subst (λ (n : ℕ). All (λ r. r < n) (joined (take c.args.count (drop c.args.first parts)))) long (parts_below t.len parts c.args.first c.args.count c.self.invariant.posted))

pub returns : goal.returns
returns c = record {
  ok = (let t = c.self.inside in
      let parts = pieces 0 t.ends.items t.rows.items in
      let whole = words_are t.len t.words t.ends.items t.rows.items c.self.invariant ∙ ap dictionary_of c.self.view_is in
      let long = sym (length-map-range_with_len (words_at t.words parts) 0 t.len) ∙ ap length c.self.view_is in
      let found =
      c.parts.ensures
      ∙ ap (λ (ends : List ℕ). joined (take c.args.count (drop c.args.first (pieces 0 ends c.deref-2.result.now)))) c.deref.ensures.value
      ∙ ap (λ (rows : List ℕ). joined (take c.args.count (drop c.args.first (pieces 0 t.ends.items rows)))) c.deref-2.ensures.value in
      if_ok _ _ (λ s set p interval.
      set ∙ ap (λ (rows : List ℕ). map (is_among rows) (range_with_len 0 (length c.args.self.now))) found
      ∙ ap (λ (n : ℕ). map (is_among (joined (take c.args.count (drop c.args.first parts)))) (range_with_len 0 n)) (sym long)
      ∙ sym (rows_of_interval p t.len t.words parts c.args.first c.args.count (subst (λ (words : List Text). IsInterval p words c.args.first c.args.count) (sym whole) interval) (length-pieces 0 t.ends.items t.rows.items ∙ c.self.invariant.paired))
      ∙ ap (map (list_any p)) c.self.view_is) c.set_of.result c.set_of.ensures.ok);
}
