use Rattle.std.proofs.Common.{◌≡◌, ◌<◌, ◌++◌, ◌∷◌, [], length, map, sym, ap, ap₂, ◌∙◌, arith, append_assoc, append-nil, List}
use Rattle.std.proofs.lemmas.List.{map_push}
use Rattle.cat_model.specs.RowSets.{indices}
use Rattle.cat_live_table.specs.current.Places.{PlacedId}
use Rattle.cat_live_table.proofs.current.Standing.{row_within, key_at, key_at_is, keys_at}
use Rattle.cat_live_table.proofs.current.places.placings_of.Goals as goal

pub placing_of-requires : goal.placing_of-requires
placing_of-requires c =
    let rest : c.loop-row.yielded ++ c.in-Some.row ∷ c.next.new.self ≡ indices c.args.leaf.now.live = rw c.in-Some.ensures.steps at c.loop-row.invariant.rows in
    omega (arith, row_within c.args.leaf.now.live c.loop-row.yielded c.next.new.self c.in-Some.row rest, c.live.ensures.long)

pub loop-row-preserved : goal.loop-row-preserved
loop-row-preserved c =
    let rest : c.loop-row.yielded ++ c.in-Some.row ∷ c.next.new.self ≡ indices c.args.leaf.now.live = rw c.in-Some.ensures.steps at c.loop-row.invariant.rows in
    let within : c.in-Some.row < length c.args.leaf.now.segment.rows =
    omega (arith, row_within c.args.leaf.now.live c.loop-row.yielded c.next.new.self c.in-Some.row rest, c.live.ensures.long) in
    let made : c.in_ok-placing_of.field-0 ≡ key_at c.args.leaf.now c.in-Some.row =
    key_at_is c.args.leaf.now c.in-Some.row c.in_ok-placing_of.field-0 within c.in_ok-placing_of.ensures.ok in
    record {
      can = tt;
      finite = tt;
      rows = append_assoc c.loop-row.yielded (c.in-Some.row ∷ []) c.next.new.self ∙ rest;
      made = c.in_ok-push.ensures.items ∙ ap₂ (λ (ks : List PlacedId) (k : PlacedId). ks ++ k ∷ []) c.loop-row.invariant.made made
          ∙ sym (map_push (key_at c.args.leaf.now) c.loop-row.yielded c.in-Some.row);
    }

pub returns : goal.returns
returns c =
    let ended : c.loop-row.row-iterator ≡ [] = c.in-None.ensures.steps.0 in
    let all : c.loop-row.yielded ≡ indices c.args.leaf.now.live = sym (append-nil c.loop-row.yielded) ∙ rw ended at c.loop-row.invariant.rows in
    record { ok = c.loop-row.invariant.made ∙ ap (map (key_at c.args.leaf.now)) all ∙ keys_at c.args.leaf.now c.live.ensures.long }
