use Rattle.std.proofs.Common.{◌≡◌, ◌++◌, ◌∷◌, [], length, Bool, List, ap, ap₂, ◌∙◌, arith, append_assoc}
use Rattle.cat_model.specs.RowSets.{indices}
use Rattle.cat_model.specs.View.{Leaf, Segment}
use Rattle.cat_live_table.proofs.current.Standing.{row_within}
use Rattle.cat_live_table.proofs.current.Removed.{killed, all_killed}
use Rattle.cat_live_table.proofs.current.removals.without_rows.Goals as goal

pub kill-requires : goal.kill-requires
kill-requires c =
    let whole : c.loop-row.yielded ++ c.in-Some.row ∷ c.next.new.self ≡ indices c.args.rows.now = rw c.in-Some.ensures.steps at c.loop-row.invariant.rows in
    let same = ap (λ (s : Segment). length s.rows) c.loop-row.invariant.segment in
    omega (arith, row_within c.args.rows.now c.loop-row.yielded c.next.new.self c.in-Some.row whole, c.requires.within, same)

pub loop-row-preserved : goal.loop-row-preserved
loop-row-preserved c =
    let steps : c.loop-row.row-iterator ≡ c.in-Some.row ∷ c.next.new.self = c.in-Some.ensures.steps in
    let whole : c.loop-row.yielded ++ c.in-Some.row ∷ c.next.new.self ≡ indices c.args.rows.now = rw steps at c.loop-row.invariant.rows in
    record {
      can = tt;
      finite = tt;
      rows = append_assoc c.loop-row.yielded (c.in-Some.row ∷ []) c.next.new.self ∙ whole;
      segment = ap (λ (l : Leaf). l.segment) c.in_ok-kill.ensures.ok ∙ c.loop-row.invariant.segment;
      rest = ap (λ (l : Leaf). killed c.next.new.self l.live) c.in_ok-kill.ensures.ok ∙ rw steps at c.loop-row.invariant.rest;
    }

pub returns : goal.returns
returns c =
    let ended : c.loop-row.row-iterator ≡ [] = c.in-None.ensures.steps.0 in
    let left : c.loop-row.after.live ≡ killed (indices c.args.rows.now) c.args.leaf.now.live = rw ended at c.loop-row.invariant.rest in
    record {
      ok = ap₂ (λ (s : Segment) (b : List Bool). let l : Leaf = record { segment = s; live = b } in l) c.loop-row.invariant.segment
          (left ∙ all_killed c.args.leaf.now.live c.args.rows.now c.requires.long);
    }
