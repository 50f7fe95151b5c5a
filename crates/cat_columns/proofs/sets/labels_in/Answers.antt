use Rattle.std.proofs.Common.{List, take, ap, sym, ◌||◌, ◌∙◌}
use Rattle.std.proofs.lemmas.List.{take_all}
use Rattle.std.specs.Borrow.{Bor}
use Rattle.std.specs.List.{list_any, flat_map}
use Rattle.cat_model.specs.Text.{Text, same_text}
use Rattle.cat_columns.proofs.Members.{any_seen_more}
use Rattle.cat_columns.proofs.sets.labels_in.Goals as goal

pub loop-row-preserved : goal.loop-row-preserved
loop-row-preserved c = λ q.
    let rows = c.args.rows.now in
    let i = c.loop-row.row-index in
    let row = c.row-item.result in
    let before = list_any (same_text q) (flat_map (λ (r : Bor (List Text)). r.now) (take i rows)) in
    c.in_ok-add_texts.ensures.ok q ∙ ap (λ b. b || list_any (same_text q) row.now) (c.loop-row.invariant q)
    ∙ sym (any_seen_more (λ (r : Bor (List Text)). r.now) (same_text q) rows i row c.loop-row-test.true ∙ ap (λ (r : Bor (List Text)). before || list_any (same_text q) r.now) (sym c.row-item.is))

pub returns : goal.returns
returns c = record {
  ok = λ q. c.loop-row.invariant q ∙ ap (λ (rows : List (Bor (List Text))). list_any (same_text q) (flat_map (λ r. r.now) rows)) (take_all c.loop-row.row-index c.args.rows.now c.loop-row-test.false);
}
