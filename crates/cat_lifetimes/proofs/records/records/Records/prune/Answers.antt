use Rattle.std.proofs.Common.{◌≡◌, ℕ, ◌≤◌, ◌∙◌, List, true, ap, sym, subst, rules, arith}
use Rattle.std.specs.List.{filter}
use Rattle.std.proofs.lemmas.Fn.{filter_same}
use Rattle.std.proofs.lemmas.Grind.{elements}
use Rattle.cat_model.specs.Limits.{view_limit}
use Rattle.cat_model.specs.State.{Hold}
use Rattle.cat_lifetimes.specs.records.Counts.{AreKept, KeepsFrom, is_kept_from, views_of}
use Rattle.cat_lifetimes.specs.records.Records.{Records, has_token, pruned_to}
use Rattle.cat_lifetimes.specs.declared.records.recorded.Recorded.{Recorded}
use Rattle.cat_lifetimes.proofs.records.Shown.{kept_pruned, pruned_is, shown}
use Rattle.cat_lifetimes.proofs.records.records.Records.prune.Goals as goal

pub invariant_of-self : goal.invariant_of-self
invariant_of-self c =
    let rs : List Recorded = c.self.inside.recorded.items in
    let hs : List Hold = c.self.inside.holds.keys in
    let t : ℕ = c.kept_from-token.result in
    let left : c.retain.new.self.items ≡ filter (is_kept_from t) rs = filter_same _ _ _ (λ x b f' k. search rules) _ _ c.retain.ensures.filtered in
    let there : has_token (views_of rs) t ≡ true = subst (λ (r : Records). has_token r.views t ≡ true) (sym c.self.view_is) c.kept_from-token.ensures.there in
    (subst (λ (l : List Recorded). AreKept l hs) (sym left) (kept_pruned rs hs t c.self.invariant.0 there), subst (λ n. view_limit ≤ n) (sym c.retain.ensures.capacity) c.self.invariant.1)

pub returns-clause-pruned : goal.returns-clause-pruned
returns-clause-pruned c =
    let rs : List Recorded = c.self.inside.recorded.items in
    let hs : List Hold = c.self.inside.holds.keys in
    let t : ℕ = c.kept_from-token.result in
    let left : c.retain.new.self.items ≡ filter (is_kept_from t) rs = filter_same _ _ _ (λ x b f' k. search rules) _ _ c.retain.ensures.filtered in
    let keeps : KeepsFrom (shown rs hs) c.args.count t = subst (λ (r : Records). KeepsFrom r c.args.count t) (sym c.self.view_is) c.kept_from-token.ensures.keeps in
    ap (λ (l : List Recorded). shown l hs) left ∙ pruned_is rs hs c.args.count t c.self.invariant.0.counted keeps ∙ ap (λ (r : Records). pruned_to r c.args.count) c.self.view_is

pub returns-clause-went : goal.returns-clause-went
returns-clause-went c = grind (arith, elements)
