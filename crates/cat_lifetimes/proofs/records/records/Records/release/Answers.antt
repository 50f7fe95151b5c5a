use Rattle.std.proofs.Common.{◌≡◌, ◌+◌, ◌∙◌, List, ◌++◌, true, not, ap, length, map, drop, take, sym, subst}
use Rattle.std.specs.List.{filter}
use Rattle.cat_model.specs.State.{Hold, has_hold}
use Rattle.cat_lifetimes.specs.records.Counts.{AreKept, one_more}
use Rattle.cat_lifetimes.specs.records.Records.{Records, released}
use Rattle.cat_lifetimes.specs.declared.records.recorded.Recorded.{Recorded}
use Rattle.cat_lifetimes.proofs.records.Holders.{is_of, length-more}
use Rattle.cat_lifetimes.proofs.records.Shown.{has_same, kept_released, released_is, removed_same, shown, some_holders, written}
use Rattle.cat_lifetimes.proofs.records.records.Records.release.Goals as goal

pub count_release-requires-clause-some : goal.count_release-requires-clause-some
count_release-requires-clause-some c =
    let hs : List Hold = c.self.inside.holds.keys in
    let has : has_hold hs c.args.session c.args.token ≡ true = sym (has_same c.new.result c.args.session c.args.token c.new.ensures hs) ∙ sym c.shift_remove-was_held.ensures.found ∙ c.if-was_held.true in
    some_holders c.self.inside.recorded.items c.deref_mut.result.now hs c.args.session c.args.token c.deref_mut.ensures.value c.self.invariant.0 has

pub invariant_of-self : goal.invariant_of-self
invariant_of-self c =
    let rs : List Recorded = c.self.inside.recorded.items in
    let hs : List Hold = c.self.inside.holds.keys in
    let s = c.args.session in
    let t = c.args.token in
    let new : List Recorded = c.count_release.new.recorded in
    let has : has_hold hs s t ≡ true = sym (has_same c.new.result s t c.new.ensures hs) ∙ sym c.shift_remove-was_held.ensures.found ∙ c.if-was_held.true in
    let less : rs ≡ map (one_more t) new = sym c.deref_mut.ensures.value ∙ c.count_release.ensures in
    let whole : take c.self.inside.recorded.len (new ++ drop (length new) rs) ≡ new = written c.self.inside.recorded.len new rs (sym (ap (λ l. length l) less ∙ length-more new t)) (ap (λ l. length l) (sym c.deref_mut.ensures.value) ∙ c.deref_mut.ensures.len) in
    let keys : c.shift_remove-was_held.new.self.keys ≡ filter (λ h. not (is_of s t h)) hs = c.shift_remove-was_held.ensures.keys ∙ removed_same c.new.result s t c.new.ensures hs c.len-len.ensures.unique in
    let kept : AreKept new (filter (λ h. not (is_of s t h)) hs) = kept_released rs new hs s t c.self.invariant.0 less c.len-len.ensures.unique has in
    (subst (λ (l : List Recorded). AreKept l c.shift_remove-was_held.new.self.keys) (sym whole) (subst (λ (l : List Hold). AreKept new l) (sym keys) kept), c.self.invariant.1)

pub returns-then-was_held-clause-released : goal.returns-then-was_held-clause-released
returns-then-was_held-clause-released c =
    let rs : List Recorded = c.self.inside.recorded.items in
    let hs : List Hold = c.self.inside.holds.keys in
    let s = c.args.session in
    let t = c.args.token in
    let new : List Recorded = c.count_release.new.recorded in
    let less : rs ≡ map (one_more t) new = sym c.deref_mut.ensures.value ∙ c.count_release.ensures in
    let whole : take c.self.inside.recorded.len (new ++ drop (length new) rs) ≡ new = written c.self.inside.recorded.len new rs (sym (ap (λ l. length l) less ∙ length-more new t)) (ap (λ l. length l) (sym c.deref_mut.ensures.value) ∙ c.deref_mut.ensures.len) in
    let keys : c.shift_remove-was_held.new.self.keys ≡ filter (λ h. not (is_of s t h)) hs = c.shift_remove-was_held.ensures.keys ∙ removed_same c.new.result s t c.new.ensures hs c.len-len.ensures.unique in
    ap (λ (l : List Recorded). shown l c.shift_remove-was_held.new.self.keys) whole
    ∙ released_is rs new hs c.shift_remove-was_held.new.self.keys s t less keys
    ∙ ap (λ (r : Records). released r s t) c.self.view_is

pub returns-else-was_held-clause-released : goal.returns-else-was_held-clause-released
returns-else-was_held-clause-released c =
    let rs : List Recorded = c.self.inside.recorded.items in
    let hs : List Hold = c.self.inside.holds.keys in
    let s = c.args.session in
    let t = c.args.token in
    let keys : c.shift_remove-was_held.new.self.keys ≡ filter (λ h. not (is_of s t h)) hs = c.shift_remove-was_held.ensures.keys ∙ removed_same c.new.result s t c.new.ensures hs c.len-len.ensures.unique in
    ap (λ (l : List Hold). shown rs l) keys ∙ ap (λ (r : Records). released r s t) c.self.view_is

pub returns-then-was_held-clause-held : goal.returns-then-was_held-clause-held
returns-then-was_held-clause-held c =
    c.shift_remove-was_held.ensures.found ∙ has_same c.new.result c.args.session c.args.token c.new.ensures c.self.inside.holds.keys
    ∙ ap (λ (r : Records). has_hold r.holds c.args.session c.args.token) c.self.view_is

pub returns-else-was_held-clause-held : goal.returns-else-was_held-clause-held
returns-else-was_held-clause-held c =
    c.shift_remove-was_held.ensures.found ∙ has_same c.new.result c.args.session c.args.token c.new.ensures c.self.inside.holds.keys
    ∙ ap (λ (r : Records). has_hold r.holds c.args.session c.args.token) c.self.view_is
