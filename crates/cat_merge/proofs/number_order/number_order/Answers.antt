use Rattle.std.proofs.Common.{◌≡◌, ◌<◌, ℕ, List, [], length, map, get_or, sym, ap, ◌∙◌, subst, arith}
use Rattle.std.specs.List.{flat_map}
use Rattle.std.proofs.lemmas.List.{length-map, get_or-map, take_all}
use Rattle.std.proofs.lemmas.List.Sorted.{IsPermutation-refl}
use Rattle.cat_model.specs.Item.{Kind}
use Rattle.cat_model.specs.View.{Leaf}
use Rattle.cat_views.specs.cat_segment.Index.{AreAllRows}
use Rattle.cat_merge.specs.Fields.{HasField}
use Rattle.cat_merge.specs.Maps.{codes_of}
use Rattle.cat_merge.proofs.Codes.{count, length-codes_of}
use Rattle.cat_merge.proofs.Settled.{length-live_rows}
use Rattle.cat_merge.proofs.Shuffled.{codes_long, run_more}
use Rattle.cat_merge.proofs.number_order.number_order.Goals as goal

pub loop-place-init : goal.loop-place-init
loop-place-init c = subst (AreAllRows 0) (sym c.in_ok-order.ensures.items) (IsPermutation-refl [])

pub bounds-maps-place : goal.bounds-maps-place
bounds-maps-place c = omega (arith, length-map c.args.maps.now (λ m. m.items), ap length c.requires.maps, length-codes_of 0 c.args.inputs.now)

pub add_input-requires-clause-field : goal.add_input-requires-clause-field
add_input-requires-clause-field c =
    let within : c.loop-place.place < length c.args.inputs.now = omega arith in
    subst (HasField Kind.number c.args.index) (sym c.index-inputs-place.is) (c.requires.fields c.loop-place.place c.index-inputs-place.result within)

pub add_input-requires-clause-long : goal.add_input-requires-clause-long
add_input-requires-clause-long c =
    let i : ℕ = c.loop-place.place in
    let x : Leaf = c.index-inputs-place.result in
    let within : i < length c.args.inputs.now = omega arith in
    let full : length x.live ≡ length x.segment.rows = subst (λ (l : Leaf). length l.live ≡ length l.segment.rows) (sym c.index-inputs-place.is) (c.requires.inputs.live i x within) in
    let inside : i < length c.args.maps.now = omega (arith, within, length-map c.args.maps.now (λ m. m.items), ap length c.requires.maps, length-codes_of 0 c.args.inputs.now) in
    let codes : c.deref.result.now ≡ get_or (codes_of 0 c.args.inputs.now) i [] =
    c.deref.ensures.value ∙ ap (λ m. m.items) c.index-maps-place.is ∙ sym (get_or-map (λ m. m.items) c.args.maps.now i c.index-maps-place.result [] inside)
    ∙ ap (λ (l : List (List ℕ)). get_or l i []) c.requires.maps in
    codes_long c.args.inputs.now i x c.deref.result.now within c.index-inputs-place.is full codes

pub loop-place-preserved : goal.loop-place-preserved
loop-place-preserved c =
    let i : ℕ = c.loop-place.place in
    let x : Leaf = c.index-inputs-place.result in
    let within : i < length c.args.inputs.now = omega arith in
    let inside : i < length c.args.maps.now = omega (arith, within, length-map c.args.maps.now (λ m. m.items), ap length c.requires.maps, length-codes_of 0 c.args.inputs.now) in
    let codes : c.deref.result.now ≡ get_or (codes_of 0 c.args.inputs.now) i [] =
    c.deref.ensures.value ∙ ap (λ m. m.items) c.index-maps-place.is ∙ sym (get_or-map (λ m. m.items) c.args.maps.now i c.index-maps-place.result [] inside)
    ∙ ap (λ (l : List (List ℕ)). get_or l i []) c.requires.maps in
    run_more c.args.inputs.now i x c.loop-place.order.items c.add_input.new.order.items c.in_ok-add_input.ensures.0 c.deref.result.now within c.index-inputs-place.is codes
    c.in_ok-add_input.ensures.1 c.loop-place.invariant c.in_ok-add_input.ensures.2

pub returns : goal.returns
returns c =
    subst (λ n. AreAllRows n c.loop-place.order.items)
    (ap (λ (l : List Leaf). count (flat_map (λ (leaf : Leaf). leaf.live) l)) (take_all c.loop-place.place c.args.inputs.now (omega arith)) ∙ sym (length-live_rows c.args.inputs.now c.requires.inputs.live))
    c.loop-place.invariant
