use Rattle.std.proofs.Common.{rules}
use Rattle.std.specs.Ordering.{nat_cmp}
use Rattle.std.specs.Cmp.Lexicographic.{slice_cmp}
use Rattle.std.proofs.lemmas.Fn.{always_returns_same}
use Rattle.cat_base.proofs.TextSets.{searched}
use Rattle.cat_base.proofs.text.TextSet.contains.Goals as goal

pub returns : goal.returns
returns c =
    let found = c.binary_search_by.ensures.position (λ y. slice_cmp nat_cmp y c.args.text.now) (always_returns_same _ _ _ (λ a r f' k. search rules)) in
    rw (c.is_ok.ensures.value, ← c.self.view_is, ← c.deref.ensures.value) (searched _ _ _ (rw c.deref.ensures.value c.self.invariant) c.binary_search_by.ensures.bound found)
