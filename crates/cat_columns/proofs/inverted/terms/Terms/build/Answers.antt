use Rattle.std.proofs.Common.{ℕ, List, length, map, ap, ◌∙◌}
use Rattle.std.proofs.lemmas.List.{length-map}
use Rattle.cat_columns.specs.inverted.Gathered.{listed, ends_from}
use Rattle.cat_columns.proofs.inverted.Parts.{joined}
use Rattle.cat_columns.proofs.inverted.Builds.{each_set, terms_built, rows_built}
use Rattle.cat_columns.proofs.inverted.terms.Terms.build.Goals as goal

pub invariant_of-result : goal.invariant_of-result
invariant_of-result c =
    let rows = c.args.rows.now in
    let m = c.in_ok-postings.postings in
    let f = λ (q : List ℕ). listed q m in
    let words = c.in_ok-words.words in
    terms_built (length rows) (map (λ r. r.now) rows) words f (length-map rows (λ r. r.now)) c.in_ok-postings.ensures.lists c.in_ok-words.ensures.sorted (λ q. c.in_ok-words.ensures.ok q ∙ c.in_ok-postings.ensures.keys q)
    c.in_ok-ends.ends.items c.in_ok-ends.rows_of_words.items c.requires.few c.in_ok-ends.ensures.few
    (c.in_ok-ends.ensures.ends ∙ ap (λ ws. ends_from 0 (map f ws)) c.as_slice.ensures.value)
    (c.in_ok-ends.ensures.rows ∙ ap (λ ws. joined (map f ws)) c.as_slice.ensures.value)

pub returns : goal.returns
returns c = record {
  ok = (let rows = c.args.rows.now in
      let m = c.in_ok-postings.postings in
      let f = λ (q : List ℕ). listed q m in
      let words = c.in_ok-words.words in
      rows_built (length rows) (map (λ r. r.now) rows) words f (length-map rows (λ r. r.now)) c.in_ok-postings.ensures.lists c.in_ok-words.ensures.sorted (λ q. c.in_ok-words.ensures.ok q ∙ c.in_ok-postings.ensures.keys q)
      (each_set rows c.requires.sets)
      c.in_ok-ends.ends.items c.in_ok-ends.rows_of_words.items
      (c.in_ok-ends.ensures.ends ∙ ap (λ ws. ends_from 0 (map f ws)) c.as_slice.ensures.value)
      (c.in_ok-ends.ensures.rows ∙ ap (λ ws. joined (map f ws)) c.as_slice.ensures.value));
}
