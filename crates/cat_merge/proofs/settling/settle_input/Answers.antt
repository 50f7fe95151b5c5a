use Rattle.std.proofs.Common.{◌≡◌, ℕ, ◌+◌, ◌-◌, ◌++◌, ◌<◌, Bool, true, false, List, [], ◌∷◌, length, take, replicate, arith, sym, ap, ap₂, ◌∙◌, set}
use Rattle.std.proofs.lemmas.List.{length-append}
use Rattle.cat_model.specs.RowSets.{has_row}
use Rattle.cat_model.specs.View.{selected}
use Rattle.cat_merge.proofs.Settled.{settles_within, settles_live, one_kept, none_kept, room_left, front_is, row_settled}
use Rattle.cat_merge.proofs.settling.settle_input.Goals as goal
use Rattle.cat_merge.proofs.settling.settle_input.Goals.{then-is_live, else-is_live}

-- the row that is settled is live, and among the rows
pub settle_row-requires-clause-row : goal.settle_row-requires-clause-row
settle_row-requires-clause-row c =
    settles_within (take c.args.first c.args.live.now) (selected (take c.loop-row.row c.args.before.now) (take c.loop-row.row c.args.now.now)) c.loop-row.live
    (length c.args.live.now - c.loop-row.next) c.loop-row.next
    (room_left c.args.before.now c.args.now.now c.requires.long c.loop-row.row (omega arith) c.args.first c.loop-row.next (length c.args.live.now)
    (sym c.is_live.ensures ∙ c.if-is_live.true) c.loop-row.invariant.next c.requires.room)
    c.loop-row.invariant.live (omega (arith, c.loop-row.invariant.next, front_is c.args.live.now c.args.first (omega (arith, c.requires.room))))

pub settle_row-requires-clause-live : goal.settle_row-requires-clause-live
settle_row-requires-clause-live c =
    settles_live (take c.args.first c.args.live.now) (selected (take c.loop-row.row c.args.before.now) (take c.loop-row.row c.args.now.now)) c.loop-row.live
    (length c.args.live.now - c.loop-row.next) c.loop-row.next
    (room_left c.args.before.now c.args.now.now c.requires.long c.loop-row.row (omega arith) c.args.first c.loop-row.next (length c.args.live.now)
    (sym c.is_live.ensures ∙ c.if-is_live.true) c.loop-row.invariant.next c.requires.room)
    c.loop-row.invariant.live (omega (arith, c.loop-row.invariant.next, front_is c.args.live.now c.args.first (omega (arith, c.requires.room))))

pub overflow_add-next : goal.overflow_add-next
overflow_add-next c = omega (
  arith,
  room_left c.args.before.now c.args.now.now c.requires.long c.loop-row.row (omega arith) c.args.first c.loop-row.next (length c.args.live.now)
      (sym c.is_live.ensures ∙ c.if-is_live.true) c.loop-row.invariant.next c.requires.room,
  c.requires.few,
)

pub loop-row-preserved : goal.loop-row-preserved
loop-row-preserved c = elim c.if-is_live.branch [
  | then-is_live w ↦
      let live : has_row c.args.before.now c.loop-row.row ≡ true = sym c.is_live.ensures ∙ w.if-is_live.true in
      let within : c.loop-row.row < length c.args.before.now = omega arith in
      let one : selected (take (c.loop-row.row + 1) c.args.before.now) (take (c.loop-row.row + 1) c.args.now.now)
      ≡ selected (take c.loop-row.row c.args.before.now) (take c.loop-row.row c.args.now.now) ++ has_row c.args.now.now c.loop-row.row ∷ []
      = one_kept c.args.before.now c.args.now.now c.requires.long c.loop-row.row within live in
      let grown : length (selected (take (c.loop-row.row + 1) c.args.before.now) (take (c.loop-row.row + 1) c.args.now.now))
      ≡ length (selected (take c.loop-row.row c.args.before.now) (take c.loop-row.row c.args.now.now)) + 1
      = ap length one ∙ length-append (selected (take c.loop-row.row c.args.before.now) (take c.loop-row.row c.args.now.now)) (has_row c.args.now.now c.loop-row.row ∷ []) in
      record {
        next = omega (arith, w.next-is, c.loop-row.invariant.next, grown);
        live = w.live-is
            ∙ row_settled c.args.before.now c.args.now.now c.requires.long c.loop-row.row within (take c.args.first c.args.live.now) c.loop-row.live w.settle_row.new.live
            c.args.first c.loop-row.next (length c.args.live.now) live (front_is c.args.live.now c.args.first (omega (arith, c.requires.room))) c.loop-row.invariant.next
            c.requires.room c.loop-row.invariant.live (w.settle_row.ensures ∙ ap (λ b. set c.loop-row.live c.loop-row.next b) w.is_live-then-is_live.ensures)
            ∙ ap (λ n. take c.args.first c.args.live.now ++ (selected (take (c.loop-row.row + 1) c.args.before.now) (take (c.loop-row.row + 1) c.args.now.now)
            ++ replicate (length c.args.live.now - n) true)) (sym w.next-is);
      }
  | else-is_live w ↦
      let dead : has_row c.args.before.now c.loop-row.row ≡ false = sym c.is_live.ensures ∙ w.if-is_live.false in
      let none : selected (take (c.loop-row.row + 1) c.args.before.now) (take (c.loop-row.row + 1) c.args.now.now)
      ≡ selected (take c.loop-row.row c.args.before.now) (take c.loop-row.row c.args.now.now)
      = none_kept c.args.before.now c.args.now.now c.requires.long c.loop-row.row (omega arith) dead in
      record {
        next = w.next-is ∙ c.loop-row.invariant.next ∙ ap (λ (l : List Bool). c.args.first + length l) (sym none);
        live = w.live-is ∙ c.loop-row.invariant.live
            ∙ ap₂ (λ (l : List Bool) (n : ℕ). take c.args.first c.args.live.now ++ (l ++ replicate (length c.args.live.now - n) true)) (sym none) (sym w.next-is);
      }
]
