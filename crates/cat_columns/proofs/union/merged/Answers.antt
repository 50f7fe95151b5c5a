use Rattle.std.proofs.Common.{◌++◌, sym, ◌∙◌, subst, map-id}
use Rattle.std.proofs.lemmas.Iterator.{YieldsList-from_slice}
use Rattle.std.proofs.lemmas.Iterator.Adapters.{fact_from_extend}
use Rattle.std.proofs.lemmas.Iterator.Consumers.{YieldsList-at, YieldsList-from_copied}
use Rattle.std.proofs.lemmas.List.Filters.{dedup_is}
use Rattle.std.specs.Prelude.{OnOk}
use Rattle.itertools.proofs.TwoLemmas.{YieldsList-from_gives_of_both}
use Rattle.cat_columns.specs.Merged.{HaveSame}
use Rattle.cat_columns.proofs.Merged.{seen, taken_have_same}
use Rattle.cat_columns.proofs.union.merged.Goals as goal

pub returns : goal.returns
returns c =
    let left = YieldsList-from_copied {ys = c.args.left.now} (YieldsList-at c.copied.ensures.source (YieldsList-from_slice {s = c.iter.result} c.args.left.now c.iter.ensures.rest)) in
    let right = YieldsList-from_copied {ys = c.args.right.now} (YieldsList-at c.copied-2.ensures.source (YieldsList-from_slice {s = c.iter-2.result} c.args.right.now c.iter-2.ensures.rest)) in
    let merge = YieldsList-from_gives_of_both _ c.merge.ensures.runs left (YieldsList-at c.merge.ensures.second.0 right) in
    let same : OnOk c.extend.result (HaveSame (seen c.dedup.new.self.items) (seen c.args.left.now ++ seen c.args.right.now)) =
    fact_from_extend (λ x. x) c.extend.result c.extend.ensures.ran (λ it is. YieldsList-at is merge) (λ xs kept added.
    taken_have_same _ c.args.left.now c.args.right.now c.in_ok-all.all.items xs c.extend.new.self.items c.dedup.new.self.items c.in_ok-all.ensures.items (sym (map-id xs) ∙ kept) added.0 (dedup_is _ _ _ c.dedup.ensures.filtered)) in
    record { ok = subst (λ r. OnOk r (HaveSame (seen c.dedup.new.self.items) (seen c.args.left.now ++ seen c.args.right.now))) c.in_ok-extend.was same }
