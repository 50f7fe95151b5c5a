use Rattle.std.proofs.Common.{rules, ◌≡◌, List, ◌++◌, take, length, map, ◌∙◌, ap, sym, subst}
use Rattle.std.proofs.lemmas.List.{length-map, take_all}
use Rattle.std.specs.Borrow.{Bor}
use Rattle.std.specs.List.{flat_map}
use Rattle.std.specs.Prelude.{All, Contains}
use Rattle.cat_model.specs.Text.{Text}
use Rattle.cat_model.specs.Ordinals.{text_at}
use Rattle.cat_columns.specs.Columns.{row_ends_from}
use Rattle.cat_columns.proofs.Cuts.{ends_more, flat_more}
use Rattle.cat_columns.proofs.sets.laid.Goals as goal

pub add_ordinals-requires-clause-there : goal.add_ordinals-requires-clause-there
add_ordinals-requires-clause-there c =
    subst (λ (row : Bor (List Text)). All (Contains c.args.dictionary.now) row.now) (sym c.row-item.is) (c.requires.there c.loop-row.row-index c.row-item.result c.loop-row-test.true)

pub loop-row-preserved : goal.loop-row-preserved
loop-row-preserved c =
    let flat : map (text_at c.args.dictionary.now) c.add_ordinals.new.ordinals.items ≡ flat_map (λ (row : Bor (List Text)). row.now) (take _ c.args.rows.now) =
    c.in_ok-add_ordinals.ensures.value ∙ ap (λ l. l ++ c.row-item.result.now) c.loop-row.invariant.ordinals
    ∙ ap (λ (row : Bor (List Text)). flat_map (λ (r : Bor (List Text)). r.now) (take c.loop-row.row-index c.args.rows.now) ++ row.now) c.row-item.is
    ∙ sym (flat_more c.args.rows.now c.loop-row.row-index c.row-item.result c.loop-row-test.true) in record {
      ends = ends_more c.args.rows.now c.loop-row.row-index _ c.row-item.result _ _ c.loop-row-test.true c.loop-row.invariant.ends
          (c.len-in-loop-row.ensures ∙ (search rules) ∙ sym (length-map c.add_ordinals.new.ordinals.items (text_at c.args.dictionary.now)) ∙ ap length flat) c.in_ok-push.ensures.items;
      ordinals = flat;
      bound = c.in_ok-add_ordinals.ensures.bound;
    }

pub returns : goal.returns
returns c =
    let all = take_all c.loop-row.row-index c.args.rows.now c.loop-row-test.false in
    record {
      ends = c.loop-row.invariant.ends ∙ ap (λ (rows : List (Bor (List Text))). row_ends_from 0 (map (λ row. row.now) rows)) all;
      ordinals = c.loop-row.invariant.ordinals ∙ ap (λ (rows : List (Bor (List Text))). flat_map (λ row. row.now) rows) all;
      bound = c.loop-row.invariant.bound;
    }
