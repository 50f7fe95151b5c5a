use Rattle.std.proofs.Common.{rules, nat_lt}
use Rattle.std.proofs.lemmas.Fn.{always_returns_same}
use Rattle.cat_commits.proofs.reading.Hashes.{sorted_differ}
use Rattle.cat_commits.proofs.reading.ids.hashes_differ.Goals as goal

pub returns : goal.returns
returns c =
    let answer = c.is_sorted_by.ensures.cases nat_lt (always_returns_same _ _ _ (λ a r f' k. search rules)) in
    sorted_differ c.args.hashes.items c.sort_unstable.new.self.items c.sort_unstable.ensures.permutation c.sort_unstable.ensures.sorted c.is_sorted_by.result (rw c.deref.ensures.value at answer)
