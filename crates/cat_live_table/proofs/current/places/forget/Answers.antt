use Rattle.std.proofs.Common.{◌≡◌, ◌++◌, ◌∷◌, [], length, map, None, List, ap, ◌∙◌, arith, append_assoc}
use Rattle.std.specs.HashMap.{get_by_text}
use Rattle.std.proofs.lemmas.Map.Text.{hash_map_updates_text}
use Rattle.cat_model.specs.RowSets.{indices}
use Rattle.cat_model.specs.View.{Row}
use Rattle.cat_views.proofs.Selected.{at_indices}
use Rattle.cat_live_table.specs.current.Places.{forgotten}
use Rattle.cat_live_table.proofs.current.Standing.{row_within, row_at, no_row}
use Rattle.cat_live_table.proofs.current.Noted.{forgotten-cons}
use Rattle.cat_live_table.proofs.current.places.forget.Goals as goal

pub loop-row-init : goal.loop-row-init
loop-row-init c =
    let rows : List Row = c.args.leaf.now.segment.rows in
    let all : c.into_iter-row-iterator.result ≡ indices c.args.rows.now = c.into_iter-row-iterator.ensures.into_iter_gives ∙ c.iter-row-items.ensures in
    record {
      can = tt;
      finite = tt;
      rows = all;
      rest = λ id.
          ap (λ (rs : List Row). forgotten rs id (get_by_text c.args.places.now id)) (ap (map (row_at rows)) all ∙ at_indices c.args.rows.now rows no_row c.requires);
    }

pub id-requires : goal.id-requires
id-requires c =
    let rest : c.loop-row.yielded ++ c.in-Some.row ∷ c.next.new.self ≡ indices c.args.rows.now = rw c.in-Some.ensures.steps at c.loop-row.invariant.rows in
    let same = ap (λ s. length s.rows) c.segment.ensures in
    omega (arith, row_within c.args.rows.now c.loop-row.yielded c.next.new.self c.in-Some.row rest, c.requires, same)

pub loop-row-preserved : goal.loop-row-preserved
loop-row-preserved c =
    let rows : List Row = c.args.leaf.now.segment.rows in
    let steps : c.loop-row.row-iterator ≡ c.in-Some.row ∷ c.next.new.self = c.in-Some.ensures.steps in
    let whole : c.loop-row.yielded ++ c.in-Some.row ∷ c.next.new.self ≡ indices c.args.rows.now = rw steps at c.loop-row.invariant.rows in
    let is : (row_at rows c.in-Some.row).id ≡ c.id.result.now = rw c.segment.ensures at (c.id.ensures no_row) in
    record {
      can = tt;
      finite = tt;
      rows = append_assoc c.loop-row.yielded (c.in-Some.row ∷ []) c.next.new.self ∙ whole;
      rest = λ id.
          forgotten-cons (row_at rows c.in-Some.row) c.id.result.now (map (row_at rows) c.next.new.self) id (get_by_text c.loop-row.places id) (get_by_text c.remove.new.self id) is
          (hash_map_updates_text c.id.result.now c.loop-row.places c.remove.new.self None c.remove.ensures.updates id)
          ∙ rw steps at (c.loop-row.invariant.rest id);
    }

pub returns : goal.returns
returns c =
    let ended : c.loop-row.row-iterator ≡ [] = c.in-None.ensures.steps.0 in
    λ id. rw ended at (c.loop-row.invariant.rest id)
