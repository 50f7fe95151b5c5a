use Rattle.std.proofs.Common.{◌-◌, ◌^◌, [], length, get_or, take, drop, refl, sym, ap, ◌∙◌, subst, arith, rules, below_more}
use Rattle.std.proofs.lemmas.Bool.{true≢false}
use Rattle.std.proofs.lemmas.List.Elements.{All-from_get_or}
use Rattle.cat_model.specs.Layout.{pieces}
use Rattle.cat_columns.specs.inverted.Postings.{IsPart}
use Rattle.cat_columns.proofs.inverted.Parts.{piece_at, piece_bounds, length-pieces, total_below}
use Rattle.cat_columns.proofs.inverted.posted.are_parts.Goals as goal

pub offset_bounds-rows-start : goal.offset_bounds-rows-start
offset_bounds-rows-start c =
    let bounds = piece_bounds 0 c.args.ends.now (length c.args.rows.now) c.loop-end.end-index c.requires c.loop-end-test.true in
    let start = c.loop-end.invariant.start in
    search rules

pub slice_bounds-is_part-count : goal.slice_bounds-is_part-count
slice_bounds-is_part-count c =
    let bounds = piece_bounds 0 c.args.ends.now (length c.args.rows.now) c.loop-end.end-index c.requires c.loop-end-test.true in
    let start = c.loop-end.invariant.start in
    search rules

pub slice_bounds-is_part-start : goal.slice_bounds-is_part-start
slice_bounds-is_part-start c =
    let bounds = piece_bounds 0 c.args.ends.now (length c.args.rows.now) c.loop-end.end-index c.requires c.loop-end-test.true in
    let start = c.loop-end.invariant.start in
    search rules

pub slice_bounds-is_part-end : goal.slice_bounds-is_part-end
slice_bounds-is_part-end c =
    let bounds = piece_bounds 0 c.args.ends.now (length c.args.rows.now) c.loop-end.end-index c.requires c.loop-end-test.true in
    let start = c.loop-end.invariant.start in
    search rules

pub returns-then-not-is_part-clause-few : goal.returns-then-not-is_part-clause-few
returns-then-not-is_part-clause-few c = total_below 0 c.args.ends.now (length c.args.rows.now) (2 ^ 32) (omega arith) (λ k. let fits = c.type_inv.ends k in omega arith) c.requires

pub returns-then-not-is_part-clause-parts : goal.returns-then-not-is_part-clause-parts
returns-then-not-is_part-clause-parts c =
    let i = c.loop-end.end-index in
    let ends = c.args.ends.now in
    let rows = c.args.rows.now in
    let here = piece_at 0 ends rows i c.loop-end-test.true ∙ ap (λ start. take (get_or ends i 0 - start) (drop start rows)) (sym c.loop-end.invariant.start) in (
      λ e. absurd (true≢false (sym e)),
      λ all. absurd (true≢false (sym (c.is_part.ensures.1 (subst (IsPart c.args.len) here (all i [] (omega (arith, c.loop-end-test.true, length-pieces 0 ends rows))))) ∙ c.if-not-is_part.true)),
    )

pub loop-end-preserved : goal.loop-end-preserved
loop-end-preserved c =
    let i = c.loop-end.end-index in
    let ends = c.args.ends.now in
    let rows = c.args.rows.now in
    let here = piece_at 0 ends rows i c.loop-end-test.true ∙ ap (λ start. take (get_or ends i 0 - start) (drop start rows)) (sym c.loop-end.invariant.start) in
    record {
      start = (piece_bounds 0 ends (length rows) i c.requires c.loop-end-test.true).2;
      parts = below_more _ _ c.loop-end.invariant.parts (subst (IsPart c.args.len) (sym here) (c.is_part.ensures.0 c.if-not-is_part.false));
    }

pub returns-clause-few : goal.returns-clause-few
returns-clause-few c = total_below 0 c.args.ends.now (length c.args.rows.now) (2 ^ 32) (omega arith) (λ k. let fits = c.type_inv.ends k in omega arith) c.requires

pub returns-clause-parts : goal.returns-clause-parts
returns-clause-parts c =
    let parts = pieces 0 c.args.ends.now c.args.rows.now in
    (λ _. All-from_get_or (IsPart c.args.len) parts [] (λ k lt. c.loop-end.invariant.parts k (omega (arith, length-pieces 0 c.args.ends.now c.args.rows.now))), λ _. refl)
