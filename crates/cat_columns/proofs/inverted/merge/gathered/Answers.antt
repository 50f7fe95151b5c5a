use Rattle.std.proofs.Common.{◌≡◌, ℕ, List, length, ap, sym, ◌∙◌, ◌++◌, subst, arith}
use Rattle.std.proofs.lemmas.List.{take_all}
use Rattle.std.specs.List.{flat_map}
use Rattle.std.specs.Prelude.{All, Contains}
use Rattle.cat_base.specs.Texts.{IsTextSet}
use Rattle.cat_model.specs.Ordinals.{dictionary_of, text_at, postings_of}
use Rattle.cat_columns.specs.Merged.{kept_of, moved}
use Rattle.cat_columns.specs.inverted.Gathered.{list_of_ordinal}
use Rattle.cat_columns.specs.declared.inverted.merge.MergeInput as declared
use Rattle.cat_columns.proofs.inverted.ByOrdinal.{none_listed}
use Rattle.cat_columns.proofs.inverted.Merging.{gathered_more, all_more}
use Rattle.cat_columns.proofs.inverted.merge.gathered.Goals as goal

pub loop-input-init : goal.loop-input-init
loop-input-init c = record {
  count = c.in_ok-lists.ensures.count ∙ c.len.ensures;
  lists = λ o lt. none_listed (λ list. list.items) c.in_ok-lists.lists.items c.in_ok-lists.ensures.empty o;
  sets = λ k d lt. absurd (omega arith);
}

pub add_input-requires-clause-there : goal.add_input-requires-clause-there
add_input-requires-clause-there c =
    subst (λ (p : declared.MergeInput). All (Contains c.args.words.now) (dictionary_of p.terms.now)) (sym c.input-item.is) (c.requires.there c.loop-input.input-index c.input-item.result c.loop-input-test.true)

pub loop-input-preserved : goal.loop-input-preserved
loop-input-preserved c =
    let inputs = c.args.inputs.now in
    let i = c.loop-input.input-index in
    let p = c.input-item.result in
    record {
      count = c.add_input.ensures.count ∙ c.loop-input.invariant.count;
      lists = λ o lt. gathered_more (λ p. p.row_map.now) (λ p. p.terms.now) inputs i p c.loop-input-test.true c.requires.fits c.requires.numbered (text_at c.args.words.now o) _ _ (c.loop-input.invariant.lists o lt)
          (c.in_ok-add_input.ensures.lists o lt ∙ ap (λ (q : declared.MergeInput). list_of_ordinal c.loop-input.lists o ++ moved q.row_map.now (postings_of (text_at c.args.words.now o) q.terms.now)) c.input-item.is);
      sets = all_more (λ p. All IsTextSet p.terms.now) inputs i p c.loop-input-test.true c.input-item.is c.loop-input.invariant.sets c.in_ok-add_input.ensures.sets;
    }

pub returns-clause-sets : goal.returns-clause-sets
returns-clause-sets c = subst (All (λ (p : declared.MergeInput). All IsTextSet p.terms.now)) (take_all c.loop-input.input-index c.args.inputs.now c.loop-input-test.false) c.loop-input.invariant.sets

pub add_input-requires-clause-few : goal.add_input-requires-clause-few
add_input-requires-clause-few c = c.requires.few

pub add_input-requires-clause-sorted : goal.add_input-requires-clause-sorted
add_input-requires-clause-sorted c = c.requires.sorted

pub add_input-requires-clause-count : goal.add_input-requires-clause-count
add_input-requires-clause-count c = c.loop-input.invariant.count

pub add_input-requires-clause-fits : goal.add_input-requires-clause-fits
add_input-requires-clause-fits c =
    subst (λ (p : declared.MergeInput). length p.row_map.now ≡ length p.terms.now) (sym c.input-item.is) (c.requires.fits c.loop-input.input-index c.input-item.result c.loop-input-test.true)

pub returns-clause-count : goal.returns-clause-count
returns-clause-count c = c.loop-input.invariant.count

pub returns-clause-lists : goal.returns-clause-lists
returns-clause-lists c = λ o lt.
    c.loop-input.invariant.lists o lt
    ∙ ap (λ (ps : List declared.MergeInput). postings_of (text_at c.args.words.now o) (flat_map (λ p. kept_of p.row_map.now p.terms.now) ps)) (take_all c.loop-input.input-index c.args.inputs.now c.loop-input-test.false)
