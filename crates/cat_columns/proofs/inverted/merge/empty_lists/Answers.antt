use Rattle.std.proofs.Common.{ℕ, ◌≡◌, ◌+◌, [], length, ap, arith, ◌∙◌}
use Rattle.std.proofs.lemmas.List.{length_push}
use Rattle.smallvec.specs.SmallVec.{SmallVec}
use Rattle.cat_columns.proofs.Pushed.{all_pushed, all_none}
use Rattle.cat_columns.proofs.inverted.merge.empty_lists.Goals as goal

pub loop-init : goal.loop-init
loop-init c = record {
  count = ap length c.in_ok-lists.ensures.items;
  empty = all_none (λ (list : SmallVec ℕ). list.items ≡ []) c.in_ok-lists.lists.items c.in_ok-lists.ensures.items;
}

pub loop-preserved : goal.loop-preserved
loop-preserved c = record {
  count = ap length c.in_ok-push.ensures.items ∙ length_push c.loop.lists.items c.new.result ∙ ap (λ n. n + 1) c.loop.invariant.count;
  empty = all_pushed (λ (list : SmallVec ℕ). list.items ≡ []) c.loop.lists.items c.push.new.self.items c.new.result c.loop.invariant.empty c.new.ensures.items c.in_ok-push.ensures.items;
}

pub returns : goal.returns
returns c = record {
  count = omega (arith, c.loop.invariant.count);
  empty = c.loop.invariant.empty;
}
