use Rattle.std.proofs.Common.{◌≡◌, ◌<◌, ◌≤◌, ◌∙◌, List, [], ◌∷◌, ◌++◌, true, false, not, ap, length, sym, subst, rules, arith}
use Rattle.std.specs.Prelude.{ltb, All}
use Rattle.std.specs.List.{position, remove, AllByRecursion}
use Rattle.cat_model.specs.Limits.{view_limit}
use Rattle.cat_model.specs.Run.{is_full}
use Rattle.cat_model.specs.State.{Hold, held_in}
use Rattle.cat_lifetimes.specs.records.Counts.{AreKept, recorded_token, views_of}
use Rattle.cat_lifetimes.specs.records.Records.{Records, records_with_view}
use Rattle.cat_ledger_laws.specs.shape.Steps.{tokens_of}
use Rattle.cat_lifetimes.specs.declared.records.recorded.Recorded.{Recorded}
use Rattle.cat_lifetimes.proofs.records.Leaves.{all_held}
use Rattle.cat_lifetimes.proofs.records.Shown.{below_all, full_is, is_free_first, kept_others, kept_pushed, none_is_free, recorded_for, recorded_is, shown}
use Rattle.cat_lifetimes.proofs.records.records.Records.record.Goals as goal

pub invariant_of-self : goal.invariant_of-self
invariant_of-self c =
    let rs : List Recorded = c.self.inside.recorded.items in
    let hs : List Hold = c.self.inside.holds.keys in
    let kept = c.self.invariant.0 in
    let long : c.len.result ≡ length rs = search rules in
    let room : length rs < 64 = omega (arith, long, c.if-len-lt-MAX_RECORDS.true) in
    let below : AllByRecursion (λ s. recorded_token s < c.args.view.token) rs = below_all rs c.args.view.token (subst (λ (r : Records). All (λ v. v.token < c.args.view.token) r.views) (sym c.self.view_is) c.requires.newest) in (
      subst (λ (l : List Recorded). AreKept l hs) (sym c.push_reserved.ensures.items) (kept_pushed rs hs c.args.view room kept.rising below kept.held kept.counted),
      subst (λ n. view_limit ≤ n) (sym c.push_reserved.ensures.capacity) c.self.invariant.1,
    )

pub returns-then-len-lt-MAX_RECORDS : goal.returns-then-len-lt-MAX_RECORDS
returns-then-len-lt-MAX_RECORDS c =
    let rs : List Recorded = c.self.inside.recorded.items in
    let hs : List Hold = c.self.inside.holds.keys in
    let long : c.len.result ≡ length rs = search rules in
    let room : length rs < 64 = omega (arith, long, c.if-len-lt-MAX_RECORDS.true) in
    ap (λ (l : List Recorded). shown l hs) c.push_reserved.ensures.items ∙ recorded_is rs hs c.args.view room ∙ ap (λ (r : Records). records_with_view r c.args.view) c.self.view_is

pub unreachable-requires : goal.unreachable-requires
unreachable-requires c =
    let rs : List Recorded = c.self.inside.recorded.items in
    let hs : List Hold = c.self.inside.holds.keys in
    let long : c.len.result ≡ length rs = search rules in
    let full : 64 ≤ length rs = omega (arith, long, c.if-len-lt-MAX_RECORDS.false) in
    let first = c.in_default.ensures ∙ ap (position (λ r. not (ltb 0 r.holders))) c.deref.ensures.value in
    let yes : is_full (held_in hs) (tokens_of (views_of rs)) ≡ true = full_is rs hs true (all_held (held_in hs) rs (none_is_free rs hs c.self.invariant.0 first)) full in
    let no : is_full (held_in hs) (tokens_of (views_of rs)) ≡ false = ap (λ (r : Records). is_full (held_in r.holds) (tokens_of r.views)) c.self.view_is ∙ c.requires.space in
    absurd (let both : true ≡ false = sym yes ∙ no in cc)

pub invariant_of-self-2 : goal.invariant_of-self-2
invariant_of-self-2 c =
    let rs : List Recorded = c.self.inside.recorded.items in
    let hs : List Hold = c.self.inside.holds.keys in
    let kept = c.self.invariant.0 in
    let below : AllByRecursion (λ s. recorded_token s < c.args.view.token) rs = below_all rs c.args.view.token (subst (λ (r : Records). All (λ v. v.token < c.args.view.token) r.views) (sym c.self.view_is) c.requires.newest) in
    let first = c.in-Some.ensures ∙ ap (position (λ r. not (ltb 0 r.holders))) c.deref.ensures.value in
    let items : c.push_reserved-2.new.self.items ≡ remove rs c.in-Some.index ++ record { view = c.args.view; holders = 0 } ∷ [] = c.push_reserved-2.ensures.items ∙ ap (λ (l : List Recorded). l ++ record { view = c.args.view; holders = 0 } ∷ []) c.remove.ensures.items in (
      subst (λ (l : List Recorded). AreKept l hs) (sym items) (kept_others rs hs c.in-Some.index c.args.view kept (is_free_first rs hs c.in-Some.index c.remove.result kept first) below),
      subst (λ n. view_limit ≤ n) (sym (c.push_reserved-2.ensures.capacity ∙ c.remove.ensures.capacity)) c.self.invariant.1,
    )

pub returns : goal.returns
returns c =
    let rs : List Recorded = c.self.inside.recorded.items in
    let hs : List Hold = c.self.inside.holds.keys in
    let kept = c.self.invariant.0 in
    let long : c.len.result ≡ length rs = search rules in
    let full : 64 ≤ length rs = omega (arith, long, c.if-len-lt-MAX_RECORDS.false) in
    let first = c.in-Some.ensures ∙ ap (position (λ r. not (ltb 0 r.holders))) c.deref.ensures.value in
    let items : c.push_reserved-2.new.self.items ≡ remove rs c.in-Some.index ++ record { view = c.args.view; holders = 0 } ∷ [] = c.push_reserved-2.ensures.items ∙ ap (λ (l : List Recorded). l ++ record { view = c.args.view; holders = 0 } ∷ []) c.remove.ensures.items in
    ap (λ (l : List Recorded). shown l hs) items
    ∙ recorded_for rs hs c.in-Some.index c.args.view full kept.rising (is_free_first rs hs c.in-Some.index c.remove.result kept first)
    ∙ ap (λ (r : Records). records_with_view r c.args.view) c.self.view_is
