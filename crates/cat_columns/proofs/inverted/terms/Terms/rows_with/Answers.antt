use Rattle.std.proofs.Common.{ℕ, ◌<◌, List, length, map, subst, sym, ap, ◌∙◌}
use Rattle.std.proofs.lemmas.List.{length-map}
use Rattle.std.specs.List.{list_any, range_with_len}
use Rattle.std.specs.Prelude.{All}
use Rattle.cat_model.specs.Text.{same_text}
use Rattle.cat_model.specs.RowSets.{indices}
use Rattle.cat_model.specs.Ordinals.{rows_having}
use Rattle.cat_columns.specs.inverted.Postings.{is_among}
use Rattle.cat_columns.proofs.inverted.Rows.{if_ok, places_below, set_of_places}
use Rattle.cat_columns.proofs.inverted.terms.Terms.rows_with.Goals as goal

pub set_of-requires : goal.set_of-requires
set_of-requires c =
    let set = rows_having c.args.word.now c.args.self.now in
    subst (λ (rows : List ℕ). All (λ r. r < length c.args.self.now) rows) (sym c.postings.ensures)
    (subst (λ (n : ℕ). All (λ r. r < n) (indices set)) (length-map c.args.self.now (list_any (same_text c.args.word.now))) (places_below set))

pub returns : goal.returns
returns c = record {
  ok = (let set = rows_having c.args.word.now c.args.self.now in
      if_ok _ _ (λ s is.
      is ∙ ap (λ (rows : List ℕ). map (is_among rows) (range_with_len 0 (length c.args.self.now))) c.postings.ensures
      ∙ ap (λ (n : ℕ). map (is_among (indices set)) (range_with_len 0 n)) (sym (length-map c.args.self.now (list_any (same_text c.args.word.now))))
      ∙ sym (set_of_places set)) c.set_of.result c.set_of.ensures.ok);
}
