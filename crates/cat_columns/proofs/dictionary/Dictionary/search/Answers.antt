use Rattle.std.proofs.Common.{rules}
use Rattle.std.specs.Ordering.{nat_cmp}
use Rattle.std.specs.Cmp.Lexicographic.{slice_cmp}
use Rattle.std.proofs.lemmas.Fn.{always_returns_same}
use Rattle.cat_columns.proofs.Searches.{found}
use Rattle.cat_columns.proofs.dictionary.Dictionary.search.Goals as goal

pub returns : goal.returns
returns c =
    let at = c.binary_search_by.ensures.position (λ y. slice_cmp nat_cmp y c.args.text.now) (always_returns_same _ _ _ (λ a r f' k. search rules)) in
    rw (c.ok.ensures.value, ← c.self.view_is, ← c.deref.ensures, ← c.as_slice.ensures.value) (found _ _ (rw c.as_slice.ensures.value c.as_slice.ensures.sorted) _ c.binary_search_by.ensures.bound at)
