use Rattle.std.proofs.Common.{◌≡◌, ◌<◌, ◌∷◌, [], List, Bool, length, map, sym, ap, ◌∙◌, subst, arith, ◌≤◌, ◌++◌, ap₂}
use Rattle.std.specs.Borrow.{Bor}
use Rattle.std.specs.List.{HoldsAt}
use Rattle.std.proofs.lemmas.List.{map-append, take_all}
use Rattle.cat_model.specs.Text.{Text}
use Rattle.cat_model.specs.RowSets.{has_row}
use Rattle.cat_model.specs.View.{Segment, Row, selected}
use Rattle.cat_commits.proofs.reading.Known.{row_kept, row_left}
use Rattle.cat_commits.proofs.reading.ids.push_ids.Goals as goal
use Rattle.cat_commits.proofs.reading.ids.push_ids.Goals.{then-is_live+in_ok-push, else-is_live}

pub loop-row-preserved : goal.loop-row-preserved
loop-row-preserved c =
    let live : List Bool = c.args.leaf.now.live in
    let rows : List Row = c.args.leaf.now.segment.rows in
    let within : c.loop-row.row < length rows = subst (λ (s : Segment). c.loop-row.row < length s.rows) c.segment-segment.ensures (omega arith) in
    let base : List Text = map (λ (t : Bor Text). t.now) c.args.ids.now.items in
    let so_far : List Text = map (λ (t : Bor Text). t.now) c.loop-row.ids.items in
    elim c.if-is_live.branch [
      | then-is_live+in_ok-push w ↦
          row_kept (λ (r : Row). r.id) live rows base so_far (map (λ (t : Bor Text). t.now) c.if-is_live.ids.items) c.loop-row.row c.live-live.ensures.long within c.loop-row.invariant w.id.result.now
          (subst (λ (s : Segment). HoldsAt (λ (r : Row). r.id ≡ w.id.result.now) s.rows c.loop-row.row) c.segment-segment.ensures w.id.ensures)
          (ap (λ (s : List Bool). has_row s c.loop-row.row) (sym c.live-live.ensures.value) ∙ sym c.is_live.ensures ∙ w.if-is_live.true)
          (ap (λ v. map (λ (t : Bor Text). t.now) v.items) w.ids-is ∙ ap (map (λ (t : Bor Text). t.now)) w.in_ok-push.ensures.items ∙ map-append (λ (t : Bor Text). t.now) c.loop-row.ids.items (w.id.result ∷ []))
      | else-is_live w ↦
          row_left (λ (r : Row). r.id) live rows base so_far (map (λ (t : Bor Text). t.now) c.if-is_live.ids.items) c.loop-row.row c.live-live.ensures.long within c.loop-row.invariant
          (ap (λ (s : List Bool). has_row s c.loop-row.row) (sym c.live-live.ensures.value) ∙ sym c.is_live.ensures ∙ w.if-is_live.false)
          (ap (λ v. map (λ (t : Bor Text). t.now) v.items) w.ids-is)
    ]

pub returns : goal.returns
returns c =
    let live : List Bool = c.args.leaf.now.live in
    let rows : List Row = c.args.leaf.now.segment.rows in
    let past : length rows ≤ c.loop-row.row = subst (λ (s : Segment). length s.rows ≤ c.loop-row.row) c.segment-segment.ensures (omega arith) in
    c.loop-row.invariant
    ∙ ap₂ (λ (l : List Bool) (rs : List Row). map (λ (t : Bor Text). t.now) c.args.ids.now.items ++ map (λ (r : Row). r.id) (selected l rs))
    (take_all c.loop-row.row live (omega (arith, past, c.live-live.ensures.long))) (take_all c.loop-row.row rows past)
