use Rattle.std.proofs.Common.{◌≡◌, ℕ, ◌+◌, ◌-◌, ◌++◌, ◌<◌, Bool, true, List, [], length, map, take, drop, replicate, get_or, arith, sym, ap, ap₂, ◌∙◌}
use Rattle.std.specs.Borrow.{Bor}
use Rattle.std.proofs.lemmas.List.{drop_at, length-map, get_or-map, get_or_read}
use Rattle.std.proofs.lemmas.Result.{IfOk-from_err}
use Rattle.cat_model.specs.Merged.{AreDeletedFrom}
use Rattle.cat_model.specs.View.{Leaf, selected}
use Rattle.cat_merge.specs.Merging.{with_live}
use Rattle.cat_merge.specs.Places.{no_leaf}
use Rattle.cat_merge.proofs.Passed.{live_few}
use Rattle.cat_merge.proofs.Settled.{deleted_at, input_long, input_room, input_settled, settled_end, settled_of}
use Rattle.cat_merge.proofs.settling.settled.Goals as goal

abbrev lives_of : List (Bor (List Bool)) → List (List Bool)
lives_of now = map (λ n. n.now) now

live_here : (inputs : List Leaf) (i : ℕ) (x : Leaf) (live : List Bool) → i < length inputs → x ≡ get_or inputs i x → live ≡ x.live → live ≡ (get_or inputs i no_leaf).live
live_here inputs i x live within is e = e ∙ ap (λ (l : Leaf). l.live) (get_or_read inputs i x within is no_leaf)

now_here : (now : List (Bor (List Bool))) (i : ℕ) (n : Bor (List Bool)) → i < length now → n ≡ get_or now i n → n.now ≡ get_or (lives_of now) i []
now_here now i n within is = ap (λ (b : Bor (List Bool)). b.now) is ∙ sym (get_or-map (λ (b : Bor (List Bool)). b.now) now i n [] within)

there : (inputs : List Leaf) (now : List (Bor (List Bool))) → AreDeletedFrom inputs (with_live inputs (lives_of now)) → (i : ℕ) → i < length inputs → i < length now
there inputs now h i within = omega (arith, (deleted_at inputs (lives_of now) h i within).0, length-map now (λ (b : Bor (List Bool)). b.now))

pub live_rows_in-requires : goal.live_rows_in-requires
live_rows_in-requires c = omega (arith, live_few c.args.inputs.now, c.requires.few)

pub all-requires : goal.all-requires
all-requires c = omega (arith, live_few c.args.inputs.now, c.requires.few, c.live_rows_in.ensures)

pub bounds-now-index : goal.bounds-now-index
bounds-now-index c = there c.args.inputs.now c.args.now.now c.requires.deleted c.loop-index.index (omega arith)

pub settle_input-next-requires-clause-few : goal.settle_input-next-requires-clause-few
settle_input-next-requires-clause-few c =
    omega (
      arith,
      live_few c.args.inputs.now,
      c.requires.few,
      input_long c.args.inputs.now (lives_of c.args.now.now) c.requires.deleted c.loop-index.index (omega arith) c.requires.inputs c.loop-index.live c.loop-index.next
          c.loop-index.invariant.next c.loop-index.invariant.live,
    )

pub settle_input-next-requires-clause-long : goal.settle_input-next-requires-clause-long
settle_input-next-requires-clause-long c =
    let within : c.loop-index.index < length c.args.inputs.now = omega arith in
    ap length (now_here c.args.now.now c.loop-index.index c.index-now-index.result (there c.args.inputs.now c.args.now.now c.requires.deleted c.loop-index.index within) c.index-now-index.is)
    ∙ (deleted_at c.args.inputs.now (lives_of c.args.now.now) c.requires.deleted c.loop-index.index within).1
    ∙ ap length (sym (live_here c.args.inputs.now c.loop-index.index c.index-inputs-index.result c.live.result.now within c.index-inputs-index.is c.live.ensures.value))

pub settle_input-next-requires-clause-room : goal.settle_input-next-requires-clause-room
settle_input-next-requires-clause-room c =
    let within : c.loop-index.index < length c.args.inputs.now = omega arith in
    let before = live_here c.args.inputs.now c.loop-index.index c.index-inputs-index.result c.live.result.now within c.index-inputs-index.is c.live.ensures.value in
    let now = now_here c.args.now.now c.loop-index.index c.index-now-index.result (there c.args.inputs.now c.args.now.now c.requires.deleted c.loop-index.index within) c.index-now-index.is in
    omega (
      arith,
      ap₂ (λ (a b : List Bool). length (selected a b)) before now,
      input_room c.args.inputs.now (lives_of c.args.now.now) c.requires.deleted c.loop-index.index within c.requires.inputs c.loop-index.live c.loop-index.next
          c.loop-index.invariant.next c.loop-index.invariant.live,
    )

pub loop-index-preserved : goal.loop-index-preserved
loop-index-preserved c =
    let within : c.loop-index.index < length c.args.inputs.now = omega arith in
    let before = live_here c.args.inputs.now c.loop-index.index c.index-inputs-index.result c.live.result.now within c.index-inputs-index.is c.live.ensures.value in
    let now = now_here c.args.now.now c.loop-index.index c.index-now-index.result (there c.args.inputs.now c.args.now.now c.requires.deleted c.loop-index.index within) c.index-now-index.is in
    let both = input_settled c.args.inputs.now (lives_of c.args.now.now) c.requires.deleted c.loop-index.index within c.requires.inputs c.loop-index.live c.loop-index.next
    c.loop-index.invariant.next c.loop-index.invariant.live c.settle_input-next.result c.settle_input-next.new.live
    (c.settle_input-next.ensures.next ∙ ap₂ (λ (a b : List Bool). c.loop-index.next + length (selected a b)) before now)
    (c.settle_input-next.ensures.live ∙ ap₂ (λ (a b : List Bool). take c.loop-index.next c.loop-index.live ++ (selected a b ++ replicate (length c.loop-index.live - c.settle_input-next.result) true)) before now) in
    record { next = both.0; live = both.1 }

pub returns : goal.returns
returns c = record {
  ok = settled_end c.args.inputs.now (lives_of c.args.now.now) c.loop-index.index c.loop-index.next c.loop-index.live c.requires.inputs c.requires.deleted (omega arith)
      c.loop-index.invariant.next c.loop-index.invariant.live;
}

pub settle_input-next-requires-clause-all : goal.settle_input-next-requires-clause-all
settle_input-next-requires-clause-all c =
    let settled : List Bool = settled_of c.args.inputs.now (lives_of c.args.now.now) c.loop-index.index in
    let long = input_long c.args.inputs.now (lives_of c.args.now.now) c.requires.deleted c.loop-index.index (omega arith) c.requires.inputs c.loop-index.live c.loop-index.next
    c.loop-index.invariant.next c.loop-index.invariant.live in
    ap (drop c.loop-index.next) c.loop-index.invariant.live ∙ drop_at settled _ c.loop-index.next (sym c.loop-index.invariant.next)
    ∙ ap (λ (n : ℕ). replicate (n - c.loop-index.next) true) (sym long)

pub returns-in_err-live : goal.returns-in_err-live
returns-in_err-live c = record { ok = IfOk-from_err _ _ c.from_residual.ensures.0 }
