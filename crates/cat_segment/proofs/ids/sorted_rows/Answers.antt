use Rattle.std.proofs.Common.{ℕ, List, rules, subst}
use Rattle.std.specs.Cmp.Lexicographic.{nat_list_cmp_total}
use Rattle.std.specs.List.Sorted.{IsPermutation}
use Rattle.std.specs.Ordering.{is_lt}
use Rattle.std.proofs.lemmas.Fn.{always_returns_same}
use Rattle.std.proofs.lemmas.List.Sorted.{ranks_by}
use Rattle.cat_model.specs.Text.{text_cmp}
use Rattle.cat_model.specs.Ordinals.{text_at}
use Rattle.cat_segment.proofs.ids.sorted_rows.Goals as goal

pub returns : goal.returns
returns c =
    let ids = c.args.ids.now in
    let rising = c.sort_unstable_by.ensures.sorted (λ a b. is_lt (text_cmp (text_at ids a) (text_at ids b))) (ranks_by nat_list_cmp_total (text_at ids)) (always_returns_same _ _ _ (λ a r f' k. search rules)) in
    record { ok = record { rows = subst (λ (l : List ℕ). IsPermutation l c.sort_unstable_by.new.self.items) c.in_ok-rows.ensures.ok c.sort_unstable_by.ensures.permutation; rising = rising } }
