use Rattle.std.proofs.Common.{◌≡◌, ◌-◌, ◌≤◌, ◌∙◌, All, ap, length, get_or, sym, subst, rules, arith}
use Rattle.cat_model.specs.Run.{greatest}
use Rattle.cat_lifetimes.specs.records.Counts.{recorded_token}
use Rattle.cat_lifetimes.specs.records.Records.{Records}
use Rattle.cat_ledger_laws.specs.shape.Steps.{tokens_of}
use Rattle.cat_lifetimes.proofs.records.Leaves.{tokens}
use Rattle.cat_lifetimes.proofs.records.Pruned.{tokens-views}
use Rattle.cat_lifetimes.proofs.records.Shown.{last_is_greatest, most}
use Rattle.cat_lifetimes.proofs.records.records.Records.newest.Goals as goal

pub returns-clause-greatest : goal.returns-clause-greatest
returns-clause-greatest c =
    let rs = c.self.inside.recorded.items in
    let d = c.index.result.now in
    let long : c.len.result ≡ length rs = search rules in
    ap recorded_token c.index.ensures ∙ ap (λ n. recorded_token (get_or rs (n - 1) d)) long
    ∙ last_is_greatest rs d c.self.invariant.0.rising (let some = c.self.invariant.0.some in omega (arith, some))
    ∙ ap greatest (sym (tokens-views rs)) ∙ ap (λ (r : Records). greatest (tokens_of r.views)) c.self.view_is

pub returns-clause-most : goal.returns-clause-most
returns-clause-most c =
    let rs = c.self.inside.recorded.items in
    let d = c.index.result.now in
    let long : c.len.result ≡ length rs = search rules in
    let last : d.view.token ≡ greatest (tokens rs) = ap recorded_token c.index.ensures ∙ ap (λ n. recorded_token (get_or rs (n - 1) d)) long
    ∙ last_is_greatest rs d c.self.invariant.0.rising (let some = c.self.invariant.0.some in omega (arith, some)) in
    subst (λ (r : Records). All (λ v. v.token ≤ d.view.token) r.views) c.self.view_is (most rs d.view.token last)
