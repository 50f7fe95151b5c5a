use Rattle.std.proofs.Common.{ℕ, List, length, map, ap, ◌∙◌}
use Rattle.std.proofs.lemmas.List.{take_all}
use Rattle.std.specs.List.{flat_map}
use Rattle.smallvec.specs.SmallVec.{SmallVec}
use Rattle.cat_columns.specs.inverted.Gathered.{ends_from}
use Rattle.cat_columns.proofs.inverted.Gathering.{laid_more, ends_more}
use Rattle.cat_columns.proofs.inverted.merge.laid.Goals as goal

pub loop-list-preserved : goal.loop-list-preserved
loop-list-preserved c =
    let i = c.loop-list.list-index in
    let list = c.list-item.result in
    let f = λ (v : SmallVec ℕ). v.items in
    let rows = laid_more f c.args.lists.now i list c.loop-list-test.true c.list-item.is c.loop-list.rows.items c.add_list.new.rows.items c.deref.result.now c.loop-list.invariant.rows c.deref.ensures c.in_ok-add_list.ensures.rows in
    record {
      ends = ends_more f c.args.lists.now i list c.loop-list-test.true c.list-item.is c.loop-list.ends.items c.add_list.new.ends.items (length c.add_list.new.rows.items) c.loop-list.invariant.ends c.in_ok-add_list.ensures.ends (ap length rows);
      rows = rows;
      few = c.in_ok-add_list.ensures.few;
    }

pub returns : goal.returns
returns c =
    let all = take_all c.loop-list.list-index c.args.lists.now c.loop-list-test.false in
    record {
      ends = c.loop-list.invariant.ends ∙ ap (λ (ls : List (SmallVec ℕ)). ends_from 0 (map (λ l. l.items) ls)) all;
      rows = c.loop-list.invariant.rows ∙ ap (λ (ls : List (SmallVec ℕ)). flat_map (λ l. l) (map (λ l. l.items) ls)) all;
      few = c.loop-list.invariant.few;
    }
