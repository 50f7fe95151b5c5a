use Rattle.std.proofs.Common.{◌≡◌, ℕ, ◌-◌, ◌<◌, ◌∙◌, List, true, ap, length, get_or, min, max, sym, subst, rules, arith}
use Rattle.cat_model.specs.State.{Hold}
use Rattle.cat_lifetimes.specs.records.Counts.{KeepsFrom, recorded_token, views_of}
use Rattle.cat_lifetimes.specs.records.Records.{Records, has_token}
use Rattle.cat_lifetimes.specs.declared.records.recorded.Recorded.{Recorded}
use Rattle.cat_lifetimes.proofs.records.Pruned.{keeps_from}
use Rattle.cat_lifetimes.proofs.records.Shown.{shown, token_there}
use Rattle.cat_lifetimes.proofs.records.records.Records.kept_from.Goals as goal

pub returns-clause-keeps : goal.returns-clause-keeps
returns-clause-keeps c =
    let rs : List Recorded = c.self.inside.recorded.items in
    let hs : List Hold = c.self.inside.holds.keys in
    let i : ℕ = c.len-2.result - c.clamp-kept.result in
    let first : c.len.result ≡ length rs = search rules in
    let second : c.len-2.result ≡ length rs = search rules in
    let some = c.self.invariant.0.some in
    let is : i ≡ length rs - min (max c.args.count 1) (length rs) = omega (arith, first, second, c.clamp-kept.ensures, some) in
    let within : i < length rs = omega (arith, first, second, c.clamp-kept.ensures, some) in
    let token : c.token.result ≡ recorded_token (get_or rs i c.index.result.now) = c.token.ensures ∙ ap recorded_token c.index.ensures in
    subst (λ (r : Records). KeepsFrom r c.args.count c.token.result) c.self.view_is
    (subst (λ t. KeepsFrom (shown rs hs) c.args.count t) (sym token) (keeps_from rs hs c.args.count i c.index.result.now c.self.invariant.0.rising is within))

pub returns-clause-there : goal.returns-clause-there
returns-clause-there c =
    let rs : List Recorded = c.self.inside.recorded.items in
    let i : ℕ = c.len-2.result - c.clamp-kept.result in
    let first : c.len.result ≡ length rs = search rules in
    let second : c.len-2.result ≡ length rs = search rules in
    let some = c.self.invariant.0.some in
    let within : i < length rs = omega (arith, first, second, c.clamp-kept.ensures, some) in
    let token : c.token.result ≡ recorded_token (get_or rs i c.index.result.now) = c.token.ensures ∙ ap recorded_token c.index.ensures in
    subst (λ (r : Records). has_token r.views c.token.result ≡ true) c.self.view_is (ap (has_token (views_of rs)) token ∙ token_there rs i c.index.result.now within)
