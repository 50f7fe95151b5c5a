use Rattle.std.proofs.Common.{◌≡◌, ◌≤◌, ◌<◌, ◌∙◌, List, [], ◌∷◌, ap, length, not, sym, rules, arith}
use Rattle.std.specs.Prelude.{ltb}
use Rattle.std.specs.List.{position, filter}
use Rattle.cat_model.specs.View.{View}
use Rattle.cat_lifetimes.specs.records.Records.{Records, stays_by}
use Rattle.cat_lifetimes.specs.declared.records.recorded.Recorded.{Recorded}
use Rattle.cat_lifetimes.proofs.records.Shown.{held_go_not, is_free_first, none_goes, none_is_free, one_goes}
use Rattle.cat_lifetimes.proofs.records.records.Records.leaving.Goals as goal

-- the views that go
abbrev goes : Records → List View
goes r = filter (λ v. not (stays_by r v)) r.views

pub returns-then-len-lt-MAX_RECORDS : goal.returns-then-len-lt-MAX_RECORDS
returns-then-len-lt-MAX_RECORDS c =
    let short : length c.self.inside.recorded.items < 64 = let long : c.len.result ≡ length c.self.inside.recorded.items = search rules in omega (arith, long, c.if-len-lt-MAX_RECORDS.true) in
    sym (none_goes c.self.inside.recorded.items c.self.inside.holds.keys short) ∙ ap goes c.self.view_is

pub returns-in_err-index : goal.returns-in_err-index
returns-in_err-index c =
    let long : 64 ≤ length c.self.inside.recorded.items = omega (arith, c.if-len-lt-MAX_RECORDS.false, c.len.ensures, c.deref.ensures.len, ap (λ l. length l) c.deref.ensures.value) in
    let first = c.in_err-index.ensures ∙ ap (position (λ r. not (ltb 0 r.holders))) c.deref.ensures.value in
    rw c.from_residual.ensures (
    sym (held_go_not c.self.inside.recorded.items c.self.inside.holds.keys long (none_is_free c.self.inside.recorded.items c.self.inside.holds.keys c.self.invariant.0 first)) ∙ ap goes c.self.view_is
    )

pub returns : goal.returns
returns c =
    let rs = c.self.inside.recorded.items in
    let hs = c.self.inside.holds.keys in
    let long : 64 ≤ length rs = omega (arith, c.if-len-lt-MAX_RECORDS.false, c.len.ensures, c.deref.ensures.len, ap (λ l. length l) c.deref.ensures.value) in
    let first = c.in_ok-index.ensures ∙ ap (position (λ r. not (ltb 0 r.holders))) c.deref.ensures.value in
    ap (λ (r : Recorded). r.view ∷ []) c.index.ensures
    ∙ sym (one_goes rs hs c.in_ok-index.index c.index.result.now long c.self.invariant.0.rising (is_free_first rs hs c.in_ok-index.index c.index.result.now c.self.invariant.0 first))
    ∙ ap goes c.self.view_is
