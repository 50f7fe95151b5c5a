-- What views and holds make of a shape.
use Rattle.std.proofs.Common.{◌≡◌, ◌≢◌, ℕ, zero, suc, ◌+◌, ◌<◌, ◌≤◌, ◌^◌, Bool, true, false, not, ◌||◌, eqb, cond, List, [], ◌∷◌, Result, Ok, Err, filter, length, get_or, refl, sym, ◌∙◌, ap, subst, arith, eq-eqb}
use Rattle.std.specs.Prelude.{◌==◌, OnOk, OnErr}
use Rattle.std.specs.List.{list_any}
use Rattle.std.proofs.lemmas.Bool.{true≢false}
use Rattle.cat_model.specs.Files.{Name}
use Rattle.cat_model.specs.Limits.{view_limit}
use Rattle.cat_model.specs.Item.{Schema}
use Rattle.cat_model.specs.View.{Leaf, View, IsView, needs}
use Rattle.cat_ledger_laws.specs.model.Users.{Used, users_of, times, Changes}
use Rattle.cat_ledger_laws.proofs.model.Users.{times-append}
use Rattle.cat_ledger_laws.specs.shape.Shapes.{Shape, IsShape, names_of_views, view_now}
use Rattle.cat_ledger_laws.specs.shape.Steps.{ShapeRecordsNow, IsPruned}
use Rattle.cat_ledger_laws.proofs.shape.Committed.{users_fit, names_come_once}
use Rattle.cat_ledger_laws.proofs.shape.Views.{holds_keep, shapes_are_views, views_are_counted}
use Rattle.cat_lifetimes.specs.records.Records.{Records, AreRecords, acquired, pruned_to, stays_by, stays_in, records_with_view}
use Rattle.cat_ledger_state.specs.Cores.{views_and_holds}

-- ---- holds

pub holds_kept : (s : Shape) (r : Records) → IsShape s → r.views ≡ s.views → AreRecords r → IsShape (record s { views = r.views; holds = r.holds })
holds_kept s r its same valid =
    let kept : IsShape (record s { holds = r.holds }) = holds_keep s r.holds (λ t h. subst (λ vs. list_any (λ v. v.token == t) vs ≡ true) same (valid.held t h)) its in
    subst (λ vs. IsShape (record s { views = vs; holds = r.holds })) (sym same) kept

pub acquire_same : {E : Type 0} (result : Result (Unit {0}) E) (new old : Records) (session token : ℕ)
    → OnOk result (new ≡ acquired old session token) → OnErr result (new ≡ old) → new.views ≡ old.views
acquire_same (Ok x) new old session token ok err = ap (λ r. r.views) ok
acquire_same (Err e) new old session token ok err = ap (λ r. r.views) err

-- ---- the names of views that go

times-filter : (q : Name) (stays : View → Bool) (vs : List View) → times q (names_of_views (filter stays vs)) ≤ times q (names_of_views vs)
times-filter q stays [] = omega arith
times-filter q stays (v ∷ vs) = chosen (stays v) (times-filter q stays vs)
  where
    chosen : (b : Bool) → times q (names_of_views (filter stays vs)) ≤ times q (names_of_views vs)
        → times q (names_of_views (cond b (v ∷ filter stays vs) (filter stays vs))) ≤ times q (names_of_views (v ∷ vs))
    chosen true rest = omega (arith, times-append q (needs v) (names_of_views (filter stays vs)), times-append q (needs v) (names_of_views vs), rest)
    chosen false rest = omega (arith, times-append q (needs v) (names_of_views vs), rest)

pub gone_fit : (s : Shape) (goes : View → Bool) → IsShape s → (q : Name) → times q (names_of_views (filter goes s.views)) ≤ users_of s.users q
gone_fit s goes its q = omega (arith, times-filter q goes s.views, views_are_counted s its q)

pub prune_is : (s : Shape) (n : ℕ) (r : Records) (users' : List Used) (names : List Name) → r ≡ pruned_to (views_and_holds s) n
    → names ≡ names_of_views (filter (λ v. not (stays_in (views_and_holds s) n v)) s.views) → Changes [] names s.users users'
    → IsPruned n s (record s { views = r.views; holds = r.holds; users = users' })
prune_is s n r users' names pruned gone users = record {
  users = subst (λ given. Changes [] given s.users users') gone users;
  rest = ap (λ r. record s { views = r.views; holds = r.holds; users = users' }) pruned;
}

-- ---- a view of now

pub now_is_view : (s : Shape) (schema : Schema) (leaves : List Leaf) → IsShape s → schema ≡ s.schema → leaves ≡ s.leaves
    → IsView (record { schema = schema; leaves = leaves; token = s.count })
now_is_view s schema leaves its same all =
    let e : view_now s ≡ record { schema = schema; leaves = leaves; token = s.count } = λ i. record { schema = sym same i; leaves = sym all i; token = s.count } in
    subst IsView e (shapes_are_views s its).0

pub view_fits : (s : Shape) (n : ℕ) → IsShape s → n ≡ length s.views → n ≤ view_limit → (q : Name) → users_of s.users q + times q (needs (view_now s)) < 2 ^ 64
view_fits s n its views few q =
    let fit : users_of s.users q + 2 < 2 ^ 64 = users_fit s q its (subst (λ k. k ≤ view_limit) views few) in
    let once : times q (needs (view_now s)) ≤ 1 = (names_come_once [] s q its).1 in
    omega arith

or_first : (a b : Bool) → (a || b) ≡ false → a ≡ false
or_first true b e = e
or_first false b e = refl

or_second : (a b : Bool) → (a || b) ≡ false → b ≡ false
or_second true b e = absurd (true≢false e)
or_second false b e = e

apart : (a b : ℕ) → eqb a b ≡ false → a ≢ b
apart a b e same = true≢false (sym (eq-eqb a b same) ∙ e)

-- tokens that are at most a number that none of them is are below it
pub below_now : (vs : List View) (n : ℕ) → ((k : ℕ) (d : View) → k < length vs → (get_or vs k d).token ≤ n) → list_any (λ v. v.token == n) vs ≡ false
    → (k : ℕ) (d : View) → k < length vs → (get_or vs k d).token < n
below_now [] n most none k d lt = absurd (omega arith)
below_now (v ∷ vs) n most none zero d lt =
    let other : v.token ≢ n = apart v.token n (or_first (v.token == n) (list_any (λ v. v.token == n) vs) none) in
    omega (arith, most 0 d lt, other)
below_now (v ∷ vs) n most none (suc k) d lt =
    below_now vs n (λ j e l. most (suc j) e (omega arith)) (or_second (v.token == n) (list_any (λ v. v.token == n) vs) none) k d (omega arith)

pub record_is : (s : Shape) (v : View) (r : Records) (users' : List Used) (taken given : List Name) → v ≡ view_now s → r ≡ records_with_view (views_and_holds s) v
    → taken ≡ needs v → given ≡ names_of_views (filter (λ v. not (stays_by (views_and_holds s) v)) s.views) → Changes taken given s.users users'
    → ShapeRecordsNow s (record s { views = r.views; holds = r.holds; users = users' })
record_is s v r users' taken given now is names gone users = record {
  users = subst (λ t. Changes t (names_of_views (filter (λ v. not (stays_by (views_and_holds s) v)) s.views)) s.users users') (names ∙ ap needs now)
      (subst (λ g. Changes taken g s.users users') gone users);
  rest = ap (λ r. record s { views = r.views; holds = r.holds; users = users' }) (is ∙ ap (records_with_view (views_and_holds s)) now);
}
