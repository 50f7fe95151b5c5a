use Rattle.std.proofs.Common.{ℕ, List, map, ap, sym, ◌∙◌, filter}
use Rattle.std.proofs.lemmas.List.{length-map}
use Rattle.std.specs.Borrow.{Bor}
use Rattle.smallvec.specs.SmallVec.{SmallVec}
use Rattle.std.specs.List.{flat_map, zip}
use Rattle.cat_model.specs.Text.{Text}
use Rattle.cat_model.specs.Ordinals.{dictionary_of}
use Rattle.cat_columns.specs.Merged.{kept_of}
use Rattle.cat_columns.specs.inverted.Gathered.{ends_from}
use Rattle.cat_columns.proofs.inverted.Parts.{joined}
use Rattle.cat_columns.proofs.inverted.ByOrdinal.{dictionary_rises}
use Rattle.cat_columns.proofs.inverted.Merging.{words_there, words_enough, taken_rise, kept_sets, kept_map, is_some_list, terms_merged, rows_merged}
use Rattle.cat_columns.proofs.inverted.terms.Terms.merge.Goals as goal

pub gathered-requires-clause-sorted : goal.gathered-requires-clause-sorted
gathered-requires-clause-sorted c =
    let whole = c.in_ok-words.ensures.ok ∙ ap (λ (l : List (Bor (List Text))). dictionary_of (map (λ s. s.now) l)) c.deref.ensures.value ∙ ap dictionary_of c.in_ok-words_of.ensures.ok in
    dictionary_rises c.in_ok-words.words (map (λ p. dictionary_of p.terms.now) c.args.inputs.now) whole

pub gathered-requires-clause-there : goal.gathered-requires-clause-there
gathered-requires-clause-there c =
    words_there (λ p. p.row_map.now) (λ p. p.terms.now) c.args.inputs.now c.in_ok-words.words
    (c.in_ok-words.ensures.ok ∙ ap (λ (l : List (Bor (List Text))). dictionary_of (map (λ s. s.now) l)) c.deref.ensures.value ∙ ap dictionary_of c.in_ok-words_of.ensures.ok)

pub from_sorted-requires : goal.from_sorted-requires
from_sorted-requires c =
    let inputs = c.args.inputs.now in
    let words = c.in_ok-words.words in
    let f = λ (v : SmallVec ℕ). v.items in
    let lists = c.in_ok-lists.lists.items in
    let whole = c.in_ok-words.ensures.ok ∙ ap (λ (l : List (Bor (List Text))). dictionary_of (map (λ s. s.now) l)) c.deref.ensures.value ∙ ap dictionary_of c.in_ok-words_of.ensures.ok in
    taken_rise c.args.len (flat_map (λ p. kept_of p.row_map.now p.terms.now) inputs) words (map f lists) c.requires.count (dictionary_rises words (map (λ p. dictionary_of p.terms.now) inputs) whole) (length-map lists f ∙ c.in_ok-lists.ensures.count)
    c.in_ok-lists.ensures.lists (words_enough (λ p. p.row_map.now) (λ p. p.terms.now) inputs words whole) c.in_ok-used.used.items
    (c.in_ok-used.ensures.ok ∙ ap (λ (ws : List Text). map (λ e. e.0) (filter (λ e. is_some_list e.1) (zip ws (map f c.deref-2.result.now)))) c.as_slice.ensures.value ∙ ap (λ (l : List (SmallVec ℕ)). map (λ e. e.0) (filter (λ e. is_some_list e.1) (zip words (map f l)))) c.deref-2.ensures.value)

pub invariant_of-result : goal.invariant_of-result
invariant_of-result c =
    let inputs = c.args.inputs.now in
    let words = c.in_ok-words.words in
    let f = λ (v : SmallVec ℕ). v.items in
    let lists = c.in_ok-lists.lists.items in
    let whole = c.in_ok-words.ensures.ok ∙ ap (λ (l : List (Bor (List Text))). dictionary_of (map (λ s. s.now) l)) c.deref.ensures.value ∙ ap dictionary_of c.in_ok-words_of.ensures.ok in
    terms_merged c.args.len (flat_map (λ p. kept_of p.row_map.now p.terms.now) inputs) words (map f lists) c.requires.count (dictionary_rises words (map (λ p. dictionary_of p.terms.now) inputs) whole) (length-map lists f ∙ c.in_ok-lists.ensures.count)
    c.in_ok-lists.ensures.lists (words_enough (λ p. p.row_map.now) (λ p. p.terms.now) inputs words whole)
    c.in_ok-used.used.items c.in_ok-from_sorted.field-0 (map f c.remove_empty.new.lists.items) c.in_ok-ends.ends.items c.in_ok-ends.rows.items
    (c.in_ok-used.ensures.ok ∙ ap (λ (ws : List Text). map (λ e. e.0) (filter (λ e. is_some_list e.1) (zip ws (map f c.deref-2.result.now)))) c.as_slice.ensures.value ∙ ap (λ (l : List (SmallVec ℕ)). map (λ e. e.0) (filter (λ e. is_some_list e.1) (zip words (map f l)))) c.deref-2.ensures.value)
    c.in_ok-from_sorted.ensures.ok (ap (map f) c.remove_empty.ensures ∙ sym (kept_map is_some_list f lists))
    (c.in_ok-ends.ensures.ends ∙ ap (λ (l : List (SmallVec ℕ)). ends_from 0 (map f l)) c.deref-3.ensures.value)
    (c.in_ok-ends.ensures.rows ∙ ap (λ (l : List (SmallVec ℕ)). joined (map f l)) c.deref-3.ensures.value)
    c.requires.few c.in_ok-ends.ensures.few

pub returns : goal.returns
returns c = record {
  ok = (let inputs = c.args.inputs.now in
      let words = c.in_ok-words.words in
      let f = λ (v : SmallVec ℕ). v.items in
      let lists = c.in_ok-lists.lists.items in
      let whole = c.in_ok-words.ensures.ok ∙ ap (λ (l : List (Bor (List Text))). dictionary_of (map (λ s. s.now) l)) c.deref.ensures.value ∙ ap dictionary_of c.in_ok-words_of.ensures.ok in
      rows_merged c.args.len (flat_map (λ p. kept_of p.row_map.now p.terms.now) inputs) words (map f lists) c.requires.count (dictionary_rises words (map (λ p. dictionary_of p.terms.now) inputs) whole) (length-map lists f ∙ c.in_ok-lists.ensures.count)
      c.in_ok-lists.ensures.lists (words_enough (λ p. p.row_map.now) (λ p. p.terms.now) inputs words whole)
      c.in_ok-used.used.items c.in_ok-from_sorted.field-0 (map f c.remove_empty.new.lists.items) c.in_ok-ends.ends.items c.in_ok-ends.rows.items
      (c.in_ok-used.ensures.ok ∙ ap (λ (ws : List Text). map (λ e. e.0) (filter (λ e. is_some_list e.1) (zip ws (map f c.deref-2.result.now)))) c.as_slice.ensures.value ∙ ap (λ (l : List (SmallVec ℕ)). map (λ e. e.0) (filter (λ e. is_some_list e.1) (zip words (map f l)))) c.deref-2.ensures.value)
      c.in_ok-from_sorted.ensures.ok (ap (map f) c.remove_empty.ensures ∙ sym (kept_map is_some_list f lists))
      (c.in_ok-ends.ensures.ends ∙ ap (λ (l : List (SmallVec ℕ)). ends_from 0 (map f l)) c.deref-3.ensures.value)
      (c.in_ok-ends.ensures.rows ∙ ap (λ (l : List (SmallVec ℕ)). joined (map f l)) c.deref-3.ensures.value)
      (kept_sets (λ p. p.row_map.now) (λ p. p.terms.now) inputs c.in_ok-lists.ensures.sets));
}
