use Rattle.std.proofs.Common.{◌≡◌, ◌<◌, ◌++◌, ◌∷◌, [], List, length, map, sym, ap, ◌∙◌, arith, append_assoc}
use Rattle.std.specs.HashMap.{get_by_text}
use Rattle.cat_model.specs.RowSets.{indices}
use Rattle.cat_live_table.specs.current.Places.{PlacedId, moved_in_turn, moved_at}
use Rattle.cat_live_table.proofs.current.Standing.{row_within, key_at, key_is, keys_at}
use Rattle.cat_live_table.proofs.current.places.move_all.Goals as goal

pub loop-row-init : goal.loop-row-init
loop-row-init c =
    let leaf = c.args.leaf.now in
    let all : c.into_iter-row-iterator.result ≡ indices c.args.leaf.now.live =
    c.into_iter-row-iterator.ensures.into_iter_gives ∙ c.iter-row-items.ensures ∙ ap indices (c.rows.ensures ∙ c.live.ensures.value) in
    record {
      can = tt;
      finite = tt;
      rows = all;
      rest = λ id.
          ap (λ (ks : List PlacedId). moved_in_turn ks id (get_by_text c.args.places.now id)) (ap (map (key_at leaf)) all ∙ keys_at leaf c.live.ensures.long);
    }

pub place_at-place-requires : goal.place_at-place-requires
place_at-place-requires c =
    let whole : c.loop-row.yielded ++ c.in-Some.row ∷ c.next.new.self ≡ indices c.args.leaf.now.live = rw c.in-Some.ensures.steps at c.loop-row.invariant.rows in
    omega (arith, row_within c.args.leaf.now.live c.loop-row.yielded c.next.new.self c.in-Some.row whole, c.live.ensures.long)

pub id-requires : goal.id-requires
id-requires c =
    let whole : c.loop-row.yielded ++ c.in-Some.row ∷ c.next.new.self ≡ indices c.args.leaf.now.live = rw c.in-Some.ensures.steps at c.loop-row.invariant.rows in
    let same = ap (λ s. length s.rows) c.segment.ensures in
    omega (arith, row_within c.args.leaf.now.live c.loop-row.yielded c.next.new.self c.in-Some.row whole, c.live.ensures.long, same)

pub loop-row-preserved : goal.loop-row-preserved
loop-row-preserved c =
    let leaf = c.args.leaf.now in
    let steps : c.loop-row.row-iterator ≡ c.in-Some.row ∷ c.next.new.self = c.in-Some.ensures.steps in
    let whole : c.loop-row.yielded ++ c.in-Some.row ∷ c.next.new.self ≡ indices c.args.leaf.now.live = rw steps at c.loop-row.invariant.rows in
    let within : c.in-Some.row < length c.args.leaf.now.segment.rows =
    omega (arith, row_within c.args.leaf.now.live c.loop-row.yielded c.next.new.self c.in-Some.row whole, c.live.ensures.long) in
    let key : key_at leaf c.in-Some.row ≡ record { id = c.id.result.now; place = c.place_at-place.result } =
    key_is leaf c.in-Some.row c.id.result.now c.place_at-place.result within (rw c.segment.ensures at c.id.ensures) c.place_at-place.ensures in
    record {
      can = tt;
      finite = tt;
      rows = append_assoc c.loop-row.yielded (c.in-Some.row ∷ []) c.next.new.self ∙ whole;
      rest = λ id.
          ap (moved_in_turn (map (key_at leaf) c.next.new.self) id) (c.move_to.ensures id ∙ ap (λ (k : PlacedId). moved_at k id (get_by_text c.loop-row.places id)) (sym key))
          ∙ rw steps at (c.loop-row.invariant.rest id);
    }

pub returns : goal.returns
returns c =
    let ended : c.loop-row.row-iterator ≡ [] = c.in-None.ensures.steps.0 in
    λ id. rw ended at (c.loop-row.invariant.rest id)
