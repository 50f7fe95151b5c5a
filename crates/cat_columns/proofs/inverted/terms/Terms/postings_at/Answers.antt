use Rattle.std.proofs.Common.{ℕ, ◌<◌, ◌≤◌, List, length, take, drop, refl, subst, sym, ap, ◌∙◌, arith}
use Rattle.std.proofs.lemmas.List.FromFn.{length-map-range_with_len}
use Rattle.std.specs.Prelude.{All}
use Rattle.cat_model.specs.Text.{Text}
use Rattle.cat_model.specs.Layout.{pieces}
use Rattle.cat_model.specs.Ordinals.{dictionary_of, postings_of, text_at}
use Rattle.cat_columns.specs.inverted.Postings.{words_at}
use Rattle.cat_columns.proofs.inverted.Parts.{joined}
use Rattle.cat_columns.proofs.inverted.Rows.{words_are, parts_below, few_postings}
use Rattle.cat_columns.proofs.inverted.Searches.{postings_are}
use Rattle.cat_columns.proofs.inverted.terms.Terms.postings_at.Goals as goal

pub parts-requires-clause-within : goal.parts-requires-clause-within
parts-requires-clause-within c =
    let t = c.self.inside in
    let whole = words_are t.len t.words t.ends.items t.rows.items c.self.invariant ∙ ap dictionary_of c.self.view_is in
    omega (arith, c.requires, ap length c.deref.ensures.value, c.self.invariant.paired, ap length whole)

pub returns : goal.returns
returns c =
    let t = c.self.inside in
    let o = c.args.ordinal in
    let parts = pieces 0 t.ends.items t.rows.items in
    let whole = words_are t.len t.words t.ends.items t.rows.items c.self.invariant ∙ ap dictionary_of c.self.view_is in
    let long = sym (length-map-range_with_len (words_at t.words parts) 0 t.len) ∙ ap length c.self.view_is in
    let found =
    c.parts.ensures
    ∙ ap (λ (ends : List ℕ). joined (take 1 (drop o (pieces 0 ends c.deref-2.result.now)))) c.deref.ensures.value
    ∙ ap (λ (rows : List ℕ). joined (take 1 (drop o (pieces 0 t.ends.items rows)))) c.deref-2.ensures.value in
    let inside : o < length t.words = omega (arith, c.requires, ap length whole) in
    let value =
    found ∙ postings_are t.len t.words t.ends.items t.rows.items c.self.invariant (text_at t.words o) o inside refl
    ∙ ap (postings_of (text_at t.words o)) c.self.view_is
    ∙ ap (λ (words : List Text). postings_of (text_at words o) c.args.self.now) whole in
    let count : length c.parts.result.now ≤ length c.args.self.now = omega (arith, ap length value, few_postings (text_at (dictionary_of c.args.self.now) o) c.args.self.now) in
    record {
      value = value;
      within = subst (λ (rows : List ℕ). All (λ r. r < length c.args.self.now) rows) (sym found)
          (subst (λ (n : ℕ). All (λ r. r < n) (joined (take 1 (drop o parts)))) long (parts_below t.len parts o 1 c.self.invariant.posted));
      count = count;
      few = let few = c.self.invariant.few in omega (arith, count, long);
    }
