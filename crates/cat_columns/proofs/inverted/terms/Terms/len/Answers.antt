use Rattle.std.proofs.Common.{◌≡◌, ℕ, List, ◌∙◌, ap, sym, subst, length, arith}
use Rattle.std.specs.Prelude.{All}
use Rattle.std.proofs.lemmas.List.FromFn.{length-map-range_with_len}
use Rattle.cat_base.specs.Texts.{IsTextSet}
use Rattle.cat_model.specs.Layout.{pieces}
use Rattle.cat_columns.specs.inverted.Postings.{words_at}
use Rattle.cat_columns.proofs.inverted.Rows.{rows_are_sets}
use Rattle.cat_columns.proofs.inverted.terms.Terms.len.Goals as goal

pub returns : goal.returns
returns c =
    let t = c.self.inside in
    let parts = pieces 0 t.ends.items t.rows.items in
    let long : t.len ≡ length c.args.self.now = sym (length-map-range_with_len (words_at t.words parts) 0 t.len) ∙ ap length c.self.view_is in
    record {
      value = long;
      bound = let few = c.self.invariant.few in omega arith;
      sets = subst (λ (rows : List (List (List ℕ))). All IsTextSet rows) c.self.view_is (rows_are_sets t.len t.words parts c.self.invariant.sorted);
    }
