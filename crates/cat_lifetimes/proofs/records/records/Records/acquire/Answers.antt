use Rattle.std.proofs.Common.{◌≡◌, ◌+◌, ◌<◌, ◌∙◌, ◌^◌, List, [], ◌∷◌, ◌++◌, true, false, cond, ap, length, map, drop, take, sym, subst, arith}
use Rattle.std.specs.List.{list_any}
use Rattle.cat_model.specs.State.{Hold}
use Rattle.cat_lifetimes.specs.records.Counts.{AreKept, one_more, views_of}
use Rattle.cat_lifetimes.specs.records.Records.{Records, acquired, has_token}
use Rattle.cat_lifetimes.specs.declared.records.recorded.Recorded.{Recorded}
use Rattle.cat_lifetimes.proofs.records.Holders.{length-more}
use Rattle.cat_lifetimes.proofs.records.Shown.{acquired_is, has_same, kept_more, not_there, same_as, shown, space_for, written}
use Rattle.cat_lifetimes.proofs.records.records.Records.acquire.Goals as goal

pub count_hold-requires-clause-space : goal.count_hold-requires-clause-space
count_hold-requires-clause-space c =
    let small : length c.self.inside.holds.keys < 2 ^ 63 = omega (arith, c.len-len.ensures.len, c.len-len.ensures.small) in
    space_for c.self.inside.recorded.items c.deref_mut.result.now c.self.inside.holds.keys c.deref_mut.ensures.value c.self.invariant.0 small

pub invariant_of-self-then-branch : goal.invariant_of-self-then-branch
invariant_of-self-then-branch c =
    let rs : List Recorded = c.self.inside.recorded.items in
    let hs : List Hold = c.self.inside.holds.keys in
    let s = c.args.session in
    let t = c.args.token in
    let new : List Recorded = c.count_hold.new.recorded in
    let more : new ≡ map (one_more t) rs = c.count_hold.ensures ∙ ap (map (one_more t)) c.deref_mut.ensures.value in
    let whole : take c.self.inside.recorded.len (new ++ drop (length new) rs) ≡ new = written c.self.inside.recorded.len new rs (ap (λ l. length l) more ∙ length-more rs t) (ap (λ l. length l) (sym c.deref_mut.ensures.value) ∙ c.deref_mut.ensures.len) in
    let none : list_any (same_as c.new.result) hs ≡ false = not_there (list_any (same_as c.new.result) hs) (sym c.in_ok-insert.ensures.added ∙ c.if-branch.true) in
    let keys : c.insert.new.self.keys ≡ hs ++ record { session = s; token = t } ∷ [] = c.in_ok-insert.ensures.keys ∙ ap (λ b. cond b hs (hs ++ c.new.result ∷ [])) none ∙ ap (λ (k : Hold). hs ++ k ∷ []) c.new.ensures in
    let there : has_token (views_of rs) t ≡ true = subst (λ (r : Records). has_token r.views t ≡ true) (sym c.self.view_is) c.requires in
    let kept : AreKept (map (one_more t) rs) (hs ++ record { session = s; token = t } ∷ []) = kept_more rs hs s t c.self.invariant.0 there in
    (subst (λ (l : List Recorded). AreKept l c.insert.new.self.keys) (sym (whole ∙ more)) (subst (λ (l : List Hold). AreKept (map (one_more t) rs) l) (sym keys) kept), c.self.invariant.1)

pub returns-then-branch-clause-ok : goal.returns-then-branch-clause-ok
returns-then-branch-clause-ok c =
    let rs : List Recorded = c.self.inside.recorded.items in
    let hs : List Hold = c.self.inside.holds.keys in
    let s = c.args.session in
    let t = c.args.token in
    let new : List Recorded = c.count_hold.new.recorded in
    let more : new ≡ map (one_more t) rs = c.count_hold.ensures ∙ ap (map (one_more t)) c.deref_mut.ensures.value in
    let whole : take c.self.inside.recorded.len (new ++ drop (length new) rs) ≡ new = written c.self.inside.recorded.len new rs (ap (λ l. length l) more ∙ length-more rs t) (ap (λ l. length l) (sym c.deref_mut.ensures.value) ∙ c.deref_mut.ensures.len) in
    let none : list_any (same_as c.new.result) hs ≡ false = not_there (list_any (same_as c.new.result) hs) (sym c.in_ok-insert.ensures.added ∙ c.if-branch.true) in
    let keys : c.insert.new.self.keys ≡ hs ++ record { session = s; token = t } ∷ [] = c.in_ok-insert.ensures.keys ∙ ap (λ b. cond b hs (hs ++ c.new.result ∷ [])) none ∙ ap (λ (k : Hold). hs ++ k ∷ []) c.new.ensures in
    ap (λ (l : List Recorded). shown l c.insert.new.self.keys) whole
    ∙ acquired_is rs new hs c.insert.new.self.keys s t more keys (sym (has_same c.new.result s t c.new.ensures hs) ∙ none)
    ∙ ap (λ (r : Records). acquired r s t) c.self.view_is
