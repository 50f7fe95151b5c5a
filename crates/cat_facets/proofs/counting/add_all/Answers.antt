use Rattle.std.proofs.Common.{◌≡◌, ℕ, ◌+◌, ◌<◌, [], length, get_or, map, take, set, cond, eqb, sym, ap, ◌∙◌, arith}
use Rattle.std.proofs.Math.ListN.{length-set}
use Rattle.std.proofs.lemmas.List.{get_or-map, length-map, take_all}
use Rattle.std.proofs.lemmas.List.Elements.{All-get_or}
use Rattle.std.proofs.lemmas.Grind.{elements}
use Rattle.cat_model.specs.Ordinals.{dictionary_of, text_at}
use Rattle.cat_model.specs.Text.{Text}
use Rattle.cat_search.proofs.columns_laws.Ordinals.{dictionary_rises}
use Rattle.cat_facets.specs.Tallies.{label_count, sum_at}
use Rattle.cat_facets.proofs.Counted.{set_more}
use Rattle.cat_facets.proofs.Globals.{all_counted, length-postings, sum_more}
use Rattle.cat_facets.proofs.counting.add_all.Goals as goal

-- what was there and what came
joined : (start before more after old new : ℕ) → old ≡ start + before → after ≡ before + more → new ≡ old + more → new ≡ start + after
joined start before more after old new o a n = omega (arith, o, a, n)

pub loop-ordinal-preserved : goal.loop-ordinal-preserved
loop-ordinal-preserved c = λ g low.
    let globals = c.args.globals.now in
    let rows = c.args.terms.now in
    let texts = dictionary_of rows in
    let h : Text → ℕ = λ t. label_count t rows in
    let i = c.loop-ordinal.ordinal in
    let totals = c.loop-ordinal.totals in
    let x = get_or globals i 0 in
    let long : length texts ≡ length globals = sym (ap length c.requires.map.texts) ∙ length-map globals (text_at c.args.labels.now) in
    let li : i < length globals = omega arith in
    let lt : i < length texts = omega (arith, long) in
    let within : x < length totals = let w = All-get_or (λ g. g < length c.args.labels.now) globals i 0 li c.requires.map.within in omega (arith, w) in
    let count : length c.postings_at.result.now ≡ get_or (map h texts) i 0 =
    ap length c.postings_at.ensures.value ∙ length-postings (text_at texts i) rows ∙ sym (get_or-map h texts i [] 0 lt) in
    let more = set_more totals x (length c.postings_at.result.now) c.in-Some.total g within c.in-Some.ensures.1 in
    let step = sum_more g globals (map h texts) i li (omega (arith, lt, length-map texts h)) in
    let before = sum_at g (take i globals) (take i (map h texts)) in
    let old = c.loop-ordinal.invariant g (simp length-set at low) in
    joined (get_or c.args.totals.now g 0) before (cond (eqb x g) (length c.postings_at.result.now) 0) (sum_at g (take (i + 1) globals) (take (i + 1) (map h texts)))
    (get_or totals g 0) (get_or (set totals x c.in-Some.total) g 0)
    old (step ∙ ap (λ n. before + cond (eqb x g) n 0) (sym count)) more

pub returns : goal.returns
returns c = record {
  counts = λ g lt.
      let globals = c.args.globals.now in
      let rows = c.args.terms.now in
      let h : Text → ℕ = λ t. label_count t rows in
      let i = c.loop-ordinal.ordinal in
      let long : length (dictionary_of rows) ≡ length globals = sym (ap length c.requires.map.texts) ∙ length-map globals (text_at c.args.labels.now) in
      let old = c.loop-ordinal.invariant g (omega arith) in
      old ∙ ap (λ n. get_or c.args.totals.now g 0 + n)
      (ap (λ xs. sum_at g xs (take i (map h (dictionary_of rows)))) (take_all i globals (omega arith))
      ∙ ap (sum_at g globals) (take_all i (map h (dictionary_of rows)) (omega (arith, long, length-map (dictionary_of rows) h)))
      ∙ all_counted c.args.labels.now rows globals g c.as_slice.ensures.sorted (dictionary_rises rows) c.requires.map.texts c.requires.map.within lt);
}

pub postings_at-requires : goal.postings_at-requires
postings_at-requires c = grind (arith, elements)
