-- What always holds of the views and the holds, through each call, and what each call shows.
use Rattle.std.proofs.Common.{◌≡◌, ◌≢◌, ℕ, zero, suc, ◌+◌, ◌-◌, ◌<◌, ◌≤◌, List, [], ◌∷◌, ◌++◌, length, map, get_or, take, drop, ◌^◌, Bool, true, false, cond, not, ◌&&◌, ◌||◌, Option, Some, None, lit≤, refl, sym, ◌∙◌, ap, subst, arith, inl, inr}
use Rattle.std.specs.Prelude.{◌==◌, ltb, leb, IfSome, All, AllPairs, find, option_map, is_some}
use Rattle.std.specs.List.{list_any, list_all, filter, remove, position, AllByRecursion, IsDistinct}
use Rattle.std.specs.Set.{remove_key}
use Rattle.std.proofs.lemmas.Bool.Decides.{nat_tests, eqb_tells}
use Rattle.std.proofs.lemmas.List.{drop_all, take_all, append-nil}
use Rattle.std.proofs.lemmas.List.Elements.{All-nil, All-cons, recursion_from_All}
use Rattle.std.proofs.lemmas.List.Kept.{AllPairs-cons}
use Rattle.cat_model.proofs.Lists.{filter_alike, filter_none, All-each, All-kept, All-both}
use Rattle.cat_model.specs.Limits.{view_limit}
use Rattle.cat_model.specs.Run.{greatest, is_full}
use Rattle.cat_model.specs.State.{Hold, has_hold, held_in}
use Rattle.cat_model.specs.View.{View}
use Rattle.cat_ledger_laws.proofs.model.Views.{map-filter}
use Rattle.cat_ledger_laws.specs.model.Calls.{stays_full}
use Rattle.cat_lifetimes.specs.records.Counts.{AreCounted, AreKept, KeepsFrom, TokensRise, is_kept_from, recorded_token, views_of, one_more}
use Rattle.cat_lifetimes.specs.records.Records.{Records, AreRecords, acquired, has_token, holders_of, pruned_to, released, stays_by, stays_in, records_with_view}
use Rattle.cat_ledger_laws.specs.shape.Steps.{tokens_of}
use Rattle.cat_lifetimes.specs.declared.records.recorded.Recorded.{Recorded}
use Rattle.cat_lifetimes.proofs.records.Searched.{all_at, any_some, equals}
use Rattle.cat_lifetimes.proofs.records.Holders.{count_by-cons, equal_either, held_by_holders, removed_is_filtered, held_is_counted, counted_more, counted_less, views-more, length-more, rise-more, rise-less, held-push, held-filtered, holders-removed, is_of, equal_at}
use Rattle.cat_lifetimes.proofs.records.Leaves.{FirstAt, filter_all, first_alike, first_at, none_first, goes_alone, held_stay, is_free, none_alike, stays, stays_but, some_free, all_held, tokens}
use Rattle.cat_lifetimes.proofs.records.Pruned.{tokens-views, views-dropped, views-kept}

-- ---- lists

pub length-map : {X Y : Type 0} (f : X → Y) (xs : List X) → length (map f xs) ≡ length xs
length-map f [] = refl
length-map f (x ∷ xs) = ap suc (length-map f xs)

length-filter : {X : Type 0} (p : X → Bool) (xs : List X) → length (filter p xs) ≤ length xs
length-filter p [] = omega arith
length-filter p (x ∷ xs) = let rest = length-filter p xs in elim (p x) as (λ b. length (cond b (x ∷ filter p xs) (filter p xs)) ≤ length (x ∷ xs)) [ true ↦ omega (arith, rest) | false ↦ omega (arith, rest) ]

pub some_kept : {X : Type 0} (p : X → Bool) (xs : List X) (i : ℕ) (d : X) → i < length xs → p (get_or xs i d) ≡ true → 1 ≤ length (filter p xs)
some_kept p [] i d lt e = absurd (omega arith)
some_kept p (x ∷ xs) zero d lt e = subst (λ b. 1 ≤ length (cond b (x ∷ filter p xs) (filter p xs))) (sym e) (omega arith)
some_kept p (x ∷ xs) (suc i) d lt e =
    let rest = some_kept p xs i d (omega arith) e in
    elim (p x) as (λ b. 1 ≤ length (cond b (x ∷ filter p xs) (filter p xs))) [ true ↦ omega arith | false ↦ rest ]

-- what is found passes the test, and has what all have
pub found_has : {X : Type 0} (p : X → Bool) (P : X → Type 0) (xs : List X) → AllByRecursion P xs → IfSome (find p xs) (λ x. (p x ≡ true) × P x)
found_has p P [] a = tt
found_has p P (x ∷ xs) a = by (found_has p P xs a.1) (p x) refl
  where
    by : IfSome (find p xs) (λ y. (p y ≡ true) × P y) → (b : Bool) → p x ≡ b → IfSome (cond b (Some x) (find p xs)) (λ y. (p y ≡ true) × P y)
    by rest true e = (e, a.0)
    by rest false e = rest

pub find-map : {X Y : Type 0} (f : X → Y) (p : Y → Bool) (xs : List X) → find p (map f xs) ≡ option_map f (find (λ x. p (f x)) xs)
find-map f p [] = refl
find-map f p (x ∷ xs) = elim (p (f x)) as (λ b. cond b (Some (f x)) (find p (map f xs)) ≡ option_map f (cond b (Some x) (find (λ x. p (f x)) xs))) [ true ↦ refl | false ↦ find-map f p xs ]

pub any-views : (rs : List Recorded) (t : ℕ) → list_any (λ r. recorded_token r == t) rs ≡ has_token (views_of rs) t
any-views [] t = refl
any-views (r ∷ rs) t = ap (λ b. (recorded_token r == t) || b) (any-views rs t)

-- ---- the greatest token

above_all : (rs : List Recorded) (t : ℕ) → AllByRecursion (λ s. t < recorded_token s) rs → (i : ℕ) (d : Recorded) → i < length rs → t < recorded_token (get_or rs i d)
above_all [] t a i d lt = absurd (omega arith)
above_all (r ∷ rs) t a zero d lt = a.0
above_all (r ∷ rs) t a (suc i) d lt = above_all rs t a.1 i d (omega arith)

-- the last has the greatest
pub last_is_greatest : (rs : List Recorded) (d : Recorded) → TokensRise rs → 0 < length rs → recorded_token (get_or rs (length rs - 1) d) ≡ greatest (tokens rs)
last_is_greatest [] d up some = absurd (omega arith)
last_is_greatest (r ∷ []) d up some = omega arith
last_is_greatest (r ∷ s ∷ rs) d up some =
    let at : length (r ∷ s ∷ rs) - 1 ≡ suc (length (s ∷ rs) - 1) = omega arith in
    let rest = last_is_greatest (s ∷ rs) d up.1 (omega arith) in
    let more = above_all (s ∷ rs) (recorded_token r) up.0 (length (s ∷ rs) - 1) d (omega arith) in
    ap (λ n. recorded_token (get_or (r ∷ s ∷ rs) n d)) at ∙ omega (arith, rest, more)

-- ---- what always holds

pub kept_alone : (v : View) → AreKept (record { view = v; holders = 0 } ∷ []) []
kept_alone v = record {
  some = omega arith;
  few = lit≤ tt;
  rising = (tt, tt);
  held = λ t e. absurd (let no : false ≡ true = e in cc);
  counted = (refl, tt);
}

pub kept_more : (rs : List Recorded) (hs : List Hold) (s t : ℕ) → AreKept rs hs → has_token (views_of rs) t ≡ true → AreKept (map (one_more t) rs) (hs ++ record { session = s; token = t } ∷ [])
kept_more rs hs s t k there = record {
  some = subst (λ n. 1 ≤ n) (sym (length-more rs t)) k.some;
  few = subst (λ n. n ≤ view_limit) (sym (length-more rs t)) k.few;
  rising = rise-more rs t k.rising;
  held = λ u e. ap (λ vs. has_token vs u) (views-more rs t) ∙ by u (held_in hs u) refl (sym (held-push hs s t u) ∙ e);
  counted = counted_more rs hs s t k.counted;
}
  where
    by : (u : ℕ) (b : Bool) → held_in hs u ≡ b → (b || (t == u)) ≡ true → has_token (views_of rs) u ≡ true
    by u true is e = k.held u is
    by u false is e = ap (has_token (views_of rs)) (sym (equal_at t u e)) ∙ there

pub kept_less : (rs : List Recorded) (hs left : List Hold) (t : ℕ) → AreKept (map (one_more t) rs) hs → ((u : ℕ) → holders_of hs u ≡ holders_of left u + cond (u == t) 1 0) → ((u : ℕ) → held_in left u ≡ true → held_in hs u ≡ true) → AreKept rs left
kept_less rs hs left t k counts fewer = record {
  some = subst (λ n. 1 ≤ n) (length-more rs t) k.some;
  few = subst (λ n. n ≤ view_limit) (length-more rs t) k.few;
  rising = rise-less rs t k.rising;
  held = λ u e. ap (λ vs. has_token vs u) (sym (views-more rs t)) ∙ k.held u (fewer u e);
  counted = counted_less rs hs left t counts k.counted;
}

rise-kept : (p : Recorded → Bool) (rs : List Recorded) → TokensRise rs → TokensRise (filter p rs)
rise-kept p [] up = tt
rise-kept p (r ∷ rs) up =
    elim (p r) as (λ b. TokensRise (cond b (r ∷ filter p rs) (filter p rs))) [
      | true ↦ (All-kept (λ s. recorded_token r < recorded_token s) p rs up.0, rise-kept p rs up.1)
      | false ↦ rise-kept p rs up.1
    ]

or_any : (a b : Bool) → b ≡ true → (a || b) ≡ true
or_any true b e = refl
or_any false b e = e

-- a token whose view stays is still there
there-kept : (p : Recorded → Bool) (rs : List Recorded) (t : ℕ) → AllByRecursion (λ r. recorded_token r ≡ t → p r ≡ true) rs → has_token (views_of rs) t ≡ true → has_token (views_of (filter p rs)) t ≡ true
there-kept p [] t a e = e
there-kept p (r ∷ rs) t a e = elim (eqb_tells (recorded_token r) t) [
  | inl is ↦ ap (λ b. has_token (views_of (cond b (r ∷ filter p rs) (filter p rs))) t) (a.0 is.1) ∙ ap (λ b. b || has_token (views_of (filter p rs)) t) is.0
  | inr other ↦
      let rest = there-kept p rs t a.1 (sym (ap (λ b. b || has_token (views_of rs) t) other.0) ∙ e) in
      elim (p r) as (λ b. has_token (views_of (cond b (r ∷ filter p rs) (filter p rs))) t ≡ true) [ true ↦ or_any (recorded_token r == t) (has_token (views_of (filter p rs)) t) rest | false ↦ rest ]
]

held_there : (hs : List Hold) (p : Recorded → Bool) (rs : List Recorded) (t : ℕ) → held_in hs t ≡ true → AllByRecursion (λ r. held_in hs (recorded_token r) ≡ true → p r ≡ true) rs → AllByRecursion (λ r. recorded_token r ≡ t → p r ≡ true) rs
held_there hs p [] t h a = tt
held_there hs p (r ∷ rs) t h a = (λ e. a.0 (ap (held_in hs) e ∙ h), held_there hs p rs t h a.1)

-- some views go, and none that is held
pub kept_filtered : (p : Recorded → Bool) (rs : List Recorded) (hs : List Hold) → AreKept rs hs → AllByRecursion (λ r. held_in hs (recorded_token r) ≡ true → p r ≡ true) rs → 1 ≤ length (filter p rs) → AreKept (filter p rs) hs
kept_filtered p rs hs k stay some = record {
  some = some;
  few = let less = length-filter p rs in let most = k.few in omega (arith, less, most);
  rising = rise-kept p rs k.rising;
  held = λ t e. there-kept p rs t (held_there hs p rs t e stay) (k.held t e);
  counted = All-kept (λ r. r.holders ≡ holders_of hs (recorded_token r)) p rs k.counted;
}

-- ---- one view more

rise-push : (rs : List Recorded) (r : Recorded) → TokensRise rs → AllByRecursion (λ s. recorded_token s < recorded_token r) rs → TokensRise (rs ++ r ∷ [])
rise-push [] r up below = (tt, tt)
rise-push (s ∷ rs) r up below = (All-both (λ u. recorded_token s < recorded_token u) rs (r ∷ []) up.0 (below.0, tt), rise-push rs r up.1 below.1)

length-push : {X : Type 0} (xs : List X) (x : X) → length (xs ++ x ∷ []) ≡ length xs + 1
length-push [] x = refl
length-push (y ∷ xs) x = let rest = length-push xs x in omega (arith, rest)

none_of : (rs : List Recorded) (t : ℕ) → AllByRecursion (λ s. recorded_token s < t) rs → has_token (views_of rs) t ≡ false
none_of [] t a = refl
none_of (r ∷ rs) t a =
    let lt = a.0 in
    let e : (recorded_token r == t) ≡ false = elim (eqb_tells (recorded_token r) t) [ inl is ↦ absurd (let same = is.1 in omega (arith, same, lt)) | inr other ↦ other.0 ] in
    ap (λ b. b || has_token (views_of rs) t) e ∙ none_of rs t a.1

pub there-push : (rs : List Recorded) (r : Recorded) (t : ℕ) → has_token (views_of rs) t ≡ true → has_token (views_of (rs ++ r ∷ [])) t ≡ true
there-push [] r t e = absurd (let no : false ≡ true = e in cc)
there-push (s ∷ rs) r t e = by (there-push rs r t) (recorded_token s == t) e
  where
    by : (has_token (views_of rs) t ≡ true → has_token (views_of (rs ++ r ∷ [])) t ≡ true) → (b : Bool) → (b || has_token (views_of rs) t) ≡ true → (b || has_token (views_of (rs ++ r ∷ [])) t) ≡ true
    by more true k = refl
    by more false k = more k

pub views-push : (rs : List Recorded) (r : Recorded) → views_of (rs ++ r ∷ []) ≡ views_of rs ++ r.view ∷ []
views-push [] r = refl
views-push (s ∷ rs) r = ap (λ vs. s.view ∷ vs) (views-push rs r)

-- nobody holds what has no view
unheld : (rs : List Recorded) (hs : List Hold) (t : ℕ) → ((u : ℕ) → held_in hs u ≡ true → has_token (views_of rs) u ≡ true) → has_token (views_of rs) t ≡ false → held_in hs t ≡ false
unheld rs hs t held none = by (held_in hs t) refl
  where
    by : (b : Bool) → held_in hs t ≡ b → b ≡ false
    by true e = absurd (let no : true ≡ false = sym (held t e) ∙ none in cc)
    by false e = refl

no_holders : (hs : List Hold) (t : ℕ) → held_in hs t ≡ false → 0 ≡ holders_of hs t
no_holders hs t e = let zero : ltb 0 (holders_of hs t) ≡ false = sym (held_is_counted hs t) ∙ e in grind (arith, nat_tests)

pub kept_pushed : (rs : List Recorded) (hs : List Hold) (v : View) → length rs < view_limit → TokensRise rs → AllByRecursion (λ s. recorded_token s < v.token) rs → ((t : ℕ) → held_in hs t ≡ true → has_token (views_of rs) t ≡ true) → AreCounted rs hs
    → AreKept (rs ++ record { view = v; holders = 0 } ∷ []) hs
kept_pushed rs hs v room up below held counted =
    let r : Recorded = record { view = v; holders = 0 } in
    record {
      some = omega (arith, length-push rs r);
      few = omega (arith, length-push rs r, room);
      rising = rise-push rs r up below;
      held = λ t e. there-push rs r t (held t e);
      counted = All-both (λ s. s.holders ≡ holders_of hs (recorded_token s)) rs (r ∷ []) counted (no_holders hs v.token (unheld rs hs v.token held (none_of rs v.token below)), tt);
    }

-- ---- what stays as one more is recorded

-- the views and the holds as they show
abbrev pub shown : List Recorded → List Hold → Records
shown rs hs = record { views = views_of rs; holds = hs }

stays_is : (rs : List Recorded) (hs : List Hold) (b : Bool) → ltb (length rs) view_limit ≡ b → (v : View) → stays_by (shown rs hs) v ≡ (b || stays_full (held_in hs) (tokens rs) v.token)
stays_is rs hs b e v =
    let long : length (tokens_of (views_of rs)) ≡ length rs = length-map (λ (v : View). v.token) (views_of rs) ∙ length-map (λ (r : Recorded). r.view) rs in
    λ i. (ap (λ n. ltb n view_limit) long ∙ e) i || stays_full (held_in hs) (tokens-views rs i) v.token

stay_views : (rs : List Recorded) (hs : List Hold) (b : Bool) → ltb (length rs) view_limit ≡ b → filter (stays_by (shown rs hs)) (views_of rs) ≡ views_of (filter (λ r. b || stays (held_in hs) (tokens rs) r) rs)
stay_views rs hs b e =
    filter_alike (stays_by (shown rs hs)) (λ v. b || stays_full (held_in hs) (tokens rs) v.token) (views_of rs) (All-each (λ v. stays_by (shown rs hs) v ≡ (b || stays_full (held_in hs) (tokens rs) v.token)) (stays_is rs hs b e) (views_of rs))
    ∙ sym (map-filter (λ (r : Recorded). r.view) (λ v. b || stays_full (held_in hs) (tokens rs) v.token) rs)

go_views : (rs : List Recorded) (hs : List Hold) (b : Bool) → ltb (length rs) view_limit ≡ b → filter (λ v. not (stays_by (shown rs hs) v)) (views_of rs) ≡ views_of (filter (λ r. not (b || stays (held_in hs) (tokens rs) r)) rs)
go_views rs hs b e =
    filter_alike (λ v. not (stays_by (shown rs hs) v)) (λ v. not (b || stays_full (held_in hs) (tokens rs) v.token)) (views_of rs) (All-each (λ v. not (stays_by (shown rs hs) v) ≡ not (b || stays_full (held_in hs) (tokens rs) v.token)) (λ v. ap not (stays_is rs hs b e v)) (views_of rs))
    ∙ sym (map-filter (λ (r : Recorded). r.view) (λ v. not (b || stays_full (held_in hs) (tokens rs) v.token)) rs)

has_room : (n : ℕ) → n < view_limit → ltb n view_limit ≡ true
has_room n lt = grind (arith, nat_tests)

pub no_room : (n : ℕ) → view_limit ≤ n → ltb n view_limit ≡ false
no_room n le = grind (arith, nat_tests)

trues : {X : Type 0} (xs : List X) → AllByRecursion (λ x. true ≡ true) xs
trues [] = tt
trues (x ∷ xs) = (refl, trues xs)

nones : {X : Type 0} (xs : List X) → AllByRecursion (λ x. false ≡ false) xs
nones [] = tt
nones (x ∷ xs) = (refl, nones xs)

-- where there is room
pub all_stay : (rs : List Recorded) (hs : List Hold) → length rs < view_limit → filter (stays_by (shown rs hs)) (views_of rs) ≡ views_of rs
all_stay rs hs lt = stay_views rs hs true (has_room (length rs) lt) ∙ ap views_of (filter_all (λ (r : Recorded). true) rs (trues rs))

pub none_goes : (rs : List Recorded) (hs : List Hold) → length rs < view_limit → filter (λ v. not (stays_by (shown rs hs) v)) (views_of rs) ≡ []
none_goes rs hs lt = go_views rs hs true (has_room (length rs) lt) ∙ ap views_of (filter_none (λ (r : Recorded). false) rs (nones rs))

-- where there is none
pub one_goes : (rs : List Recorded) (hs : List Hold) (i : ℕ) (d : Recorded) → view_limit ≤ length rs → TokensRise rs → FirstAt (is_free (held_in hs)) rs i → filter (λ v. not (stays_by (shown rs hs) v)) (views_of rs) ≡ (get_or rs i d).view ∷ []
one_goes rs hs i d le up f = go_views rs hs false (no_room (length rs) le) ∙ ap views_of (goes_alone (held_in hs) rs i d up f)

pub others_stay : (rs : List Recorded) (hs : List Hold) (i : ℕ) → view_limit ≤ length rs → TokensRise rs → FirstAt (is_free (held_in hs)) rs i → filter (stays_by (shown rs hs)) (views_of rs) ≡ views_of (remove rs i)
others_stay rs hs i le up f = stay_views rs hs false (no_room (length rs) le) ∙ ap views_of (stays_but (held_in hs) rs i up f)

nots : (p : Recorded → Bool) (rs : List Recorded) → AllByRecursion (λ r. p r ≡ true) rs → AllByRecursion (λ r. not (p r) ≡ false) rs
nots p [] a = tt
nots p (r ∷ rs) a = (ap not a.0, nots p rs a.1)

pub held_go_not : (rs : List Recorded) (hs : List Hold) → view_limit ≤ length rs → AllByRecursion (λ r. is_free (held_in hs) r ≡ false) rs → filter (λ v. not (stays_by (shown rs hs) v)) (views_of rs) ≡ []
held_go_not rs hs le a =
    go_views rs hs false (no_room (length rs) le)
    ∙ ap views_of (filter_none (λ r. not (stays (held_in hs) (tokens rs) r)) rs (nots (stays (held_in hs) (tokens rs)) rs (held_stay (held_in hs) (tokens rs) rs a)))

-- what stays there, as it is kept
pub kept_others : (rs : List Recorded) (hs : List Hold) (i : ℕ) (v : View) → AreKept rs hs → FirstAt (is_free (held_in hs)) rs i → AllByRecursion (λ s. recorded_token s < v.token) rs → AreKept (remove rs i ++ record { view = v; holders = 0 } ∷ []) hs
kept_others rs hs i v k f below =
    let p : Recorded → Bool = stays (held_in hs) (tokens rs) in
    let rest : filter p rs ≡ remove rs i = stays_but (held_in hs) rs i k.rising f in
    let P : List Recorded → Type 0 = λ ss. AreKept (ss ++ record { view = v; holders = 0 } ∷ []) hs in
    subst P rest (kept_pushed (filter p rs) hs v
    (subst (λ ss. length ss < view_limit) (sym rest) (let fewer = shorter rs i f in let most = k.few in omega (arith, fewer, most)))
    (rise-kept p rs k.rising)
    (All-kept (λ s. recorded_token s < v.token) p rs below)
    (λ t e. there-kept p rs t (held_there hs p rs t e (stay rs)) (k.held t e))
    (All-kept (λ r. r.holders ≡ holders_of hs (recorded_token r)) p rs k.counted))
  where
    shorter : (ss : List Recorded) (j : ℕ) → FirstAt (is_free (held_in hs)) ss j → length (remove ss j) + 1 ≡ length ss
    shorter [] j f = absurd f
    shorter (s ∷ ss) zero f = omega arith
    shorter (s ∷ ss) (suc j) f = let rest = shorter ss j f.1 in omega (arith, rest)

    stay : (ss : List Recorded) → AllByRecursion (λ r. held_in hs (recorded_token r) ≡ true → stays (held_in hs) (tokens rs) r ≡ true) ss
    stay [] = tt
    stay (s ∷ ss) = (λ e. ap (λ b. b || list_any (λ u. not (held_in hs u) && ltb u (recorded_token s)) (tokens rs)) e, stay ss)

-- ---- whether one may be recorded

pub full_is : (rs : List Recorded) (hs : List Hold) (b : Bool) → list_all (held_in hs) (tokens rs) ≡ b → view_limit ≤ length rs → is_full (held_in hs) (tokens_of (views_of rs)) ≡ b
full_is rs hs b e le =
    ap (is_full (held_in hs)) (tokens-views rs)
    ∙ ap (λ c. not c && list_all (held_in hs) (tokens rs)) (ap (λ n. ltb n view_limit) (length-map recorded_token rs) ∙ no_room (length rs) le) ∙ e

pub not_full : (rs : List Recorded) (hs : List Hold) → length rs < view_limit → is_full (held_in hs) (tokens_of (views_of rs)) ≡ false
not_full rs hs lt =
    ap (is_full (held_in hs)) (tokens-views rs)
    ∙ ap (λ c. not c && list_all (held_in hs) (tokens rs)) (ap (λ n. ltb n view_limit) (length-map recorded_token rs) ∙ has_room (length rs) lt)

-- ---- what is held

pub held_found : (rs : List Recorded) (hs : List Hold) (t : ℕ) → AreKept rs hs → IfSome (find (λ r. recorded_token r == t) rs) (λ r. ltb 0 r.holders ≡ held_in hs t)
held_found rs hs t k = by (find (λ r. recorded_token r == t) rs) (found_has (λ r. recorded_token r == t) (λ r. r.holders ≡ holders_of hs (recorded_token r)) rs k.counted)
  where
    by : (o : Option Recorded) → IfSome o (λ r. ((recorded_token r == t) ≡ true) × (r.holders ≡ holders_of hs (recorded_token r))) → IfSome o (λ r. ltb 0 r.holders ≡ held_in hs t)
    by None h = tt
    by (Some r) h = ap (ltb 0) (h.1 ∙ ap (holders_of hs) (equal_at (recorded_token r) t h.0)) ∙ sym (held_is_counted hs t)

-- ---- the public word

all_of : {X : Type 0} (P : X → Type 0) (xs : List X) → AllByRecursion P xs → All P xs
all_of P [] a = All-nil P
all_of P (x ∷ xs) a = All-cons P x xs a.0 (all_of P xs a.1)

views_above : (t : ℕ) (rs : List Recorded) → AllByRecursion (λ s. t < recorded_token s) rs → AllByRecursion (λ v. t < v.token) (views_of rs)
views_above t [] a = tt
views_above t (r ∷ rs) a = (a.0, views_above t rs a.1)

no_pairs : {X : Type 0} (R : X → X → Type 0) → AllPairs R []
no_pairs R i j d before within = absurd (omega (arith, within))

rising_views : (rs : List Recorded) → TokensRise rs → AllPairs (λ u v. u.token < v.token) (views_of rs)
rising_views [] up = no_pairs (λ u v. u.token < v.token)
rising_views (r ∷ rs) up = AllPairs-cons (λ u v. u.token < v.token) r.view (views_of rs) (all_of (λ v. recorded_token r < v.token) (views_of rs) (views_above (recorded_token r) rs up.0)) (rising_views rs up.1)

itself : (s t : ℕ) (h : Hold) → h ≡ record { session = s; token = t } → is_of s t h ≡ true
itself s t h e = ap (is_of s t) e ∙ (λ i. same s i && same t i)
  where
    same : (n : ℕ) → (n == n) ≡ true
    same n = grind (arith, nat_tests)

apart : (same : Hold → Hold → Bool) → ((g h : Hold) → same g h ≡ is_of g.session g.token h) → (h : Hold) (hs : List Hold) → AllByRecursion (λ g. same h g ≡ false) hs → AllByRecursion (λ g. h ≢ g) hs
apart same alike h [] a = tt
apart same alike h (g ∷ hs) a = (λ e. absurd (let no : true ≡ false = sym (itself h.session h.token g (sym e)) ∙ sym (alike h g) ∙ a.0 in cc), apart same alike h hs a.1)

differing : (same : Hold → Hold → Bool) → ((g h : Hold) → same g h ≡ is_of g.session g.token h) → (hs : List Hold) → IsDistinct same hs → AllPairs (λ g h. g ≢ h) hs
unfolding IsDistinct
differing same alike [] d = no_pairs (λ g h. g ≢ h)
differing same alike (h ∷ hs) d = AllPairs-cons (λ g h. g ≢ h) h hs (all_of (λ g. h ≢ g) hs (apart same alike h hs d.0)) (differing same alike hs d.1)

pub are_records : (same : Hold → Hold → Bool) (rs : List Recorded) (hs : List Hold) → AreKept rs hs → IsDistinct same hs → ((g h : Hold) → same g h ≡ is_of g.session g.token h) → AreRecords (shown rs hs)
are_records same rs hs k d alike = record {
  some = subst (λ n. 1 ≤ n) (sym (length-map (λ (r : Recorded). r.view) rs)) k.some;
  few = subst (λ n. n ≤ view_limit) (sym (length-map (λ (r : Recorded). r.view) rs)) k.few;
  rising = rising_views rs k.rising;
  held = k.held;
  differ = differing same alike hs d;
}

-- ---- the answers of calls

pub view_found : (rs : List Recorded) (t : ℕ) (o : Option Recorded) → o ≡ find (λ r. recorded_token r == t) rs → option_map (λ r. r.view) o ≡ find (λ v. v.token == t) (views_of rs)
view_found rs t o e = ap (option_map (λ (r : Recorded). r.view)) e ∙ sym (find-map (λ (r : Recorded). r.view) (λ v. v.token == t) rs)

-- an index of the first that nobody holds, or none
pub is_free_first : (rs : List Recorded) (hs : List Hold) (i : ℕ) (d : Recorded) → AreKept rs hs → Some i ≡ position (λ r. not (ltb 0 r.holders)) rs → FirstAt (is_free (held_in hs)) rs i
is_free_first rs hs i d k e = first_alike (held_in hs) rs i (held_by_holders rs hs k.counted) (first_at (λ r. not (ltb 0 r.holders)) rs i d (sym e))

pub none_is_free : (rs : List Recorded) (hs : List Hold) → AreKept rs hs → None ≡ position (λ r. not (ltb 0 r.holders)) rs → AllByRecursion (λ r. is_free (held_in hs) r ≡ false) rs
none_is_free rs hs k e = none_alike (held_in hs) rs (held_by_holders rs hs k.counted) (none_first (λ r. not (ltb 0 r.holders)) rs (sym e))

some_view : (rs : List Recorded) → 1 ≤ length rs → Recorded
some_view [] some = absurd (omega arith)
some_view (r ∷ rs) some = r

pub full_by : (rs : List Recorded) (hs : List Hold) (o : Option ℕ) (b : Bool) → AreKept rs hs → o ≡ position (λ r. not (ltb 0 r.holders)) rs → is_some o ≡ not b → view_limit ≤ length rs → b ≡ is_full (held_in hs) (tokens_of (views_of rs))
full_by rs hs None true k e n le = sym (full_is rs hs true (all_held (held_in hs) rs (none_is_free rs hs k e)) le)
full_by rs hs None false k e n le = absurd (let no : false ≡ true = n in cc)
full_by rs hs (Some i) true k e n le = absurd (let no : true ≡ false = n in cc)
full_by rs hs (Some i) false k e n le = sym (full_is rs hs false (some_free (held_in hs) rs i (is_free_first rs hs i (some_view rs k.some) k e)) le)

pub written : {X : Type 0} (len : ℕ) (new old : List X) → length new ≡ length old → length old ≡ len → take len (new ++ drop (length new) old) ≡ new
written len new old same long =
    ap (λ rest. take len (new ++ rest)) (drop_all (length new) old (omega (arith, same)))
    ∙ ap (take len) (append-nil new) ∙ take_all len new (omega (arith, same, long))

holders-le : (hs : List Hold) (t : ℕ) → holders_of hs t ≤ length hs
holders-le [] t = omega arith
holders-le (h ∷ hs) t =
    let rest = holders-le hs t in
    let here : (b : Bool) → cond b 1 0 + holders_of hs t ≤ length (h ∷ hs) = λ b. elim b as (λ b. cond b 1 0 + holders_of hs t ≤ length (h ∷ hs)) [ true ↦ omega (arith, rest) | false ↦ omega (arith, rest) ] in
    subst (λ n. n ≤ length (h ∷ hs)) (sym (count_by-cons (λ g. g.token == t) h hs)) (here (h.token == t))

pub space_for : (rs ss : List Recorded) (hs : List Hold) → ss ≡ rs → AreKept rs hs → length hs < 2 ^ 63 → (i : ℕ) (d : Recorded) → i < length ss → (get_or ss i d).holders + 1 < 2 ^ 64
space_for rs ss hs e k small i d lt =
    let here : AreCounted ss hs = subst (λ l. AreCounted l hs) (sym e) k.counted in
    let is = all_at (λ r. r.holders ≡ holders_of hs (recorded_token r)) ss i d here lt in
    let le = holders-le hs (recorded_token (get_or ss i d)) in
    omega (arith, is, le, small)

held_by : (hs : List Hold) (s t : ℕ) → has_hold hs s t ≡ true → held_in hs t ≡ true
held_by [] s t e = e
held_by (h ∷ hs) s t e = by (held_by hs s t) (h.session == s) (h.token == t) e
  where
    by : (has_hold hs s t ≡ true → held_in hs t ≡ true) → (a b : Bool) → ((a && b) || has_hold hs s t) ≡ true → (b || held_in hs t) ≡ true
    by more a true k = refl
    by more true false k = more k
    by more false false k = more k

pub some_holders : (rs ss : List Recorded) (hs : List Hold) (s t : ℕ) → ss ≡ rs → AreKept rs hs → has_hold hs s t ≡ true → (i : ℕ) (d : Recorded) → i < length ss → recorded_token (get_or ss i d) ≡ t → 0 < (get_or ss i d).holders
some_holders rs ss hs s t e k has i d lt at =
    let here : AreCounted ss hs = subst (λ l. AreCounted l hs) (sym e) k.counted in
    let is = all_at (λ r. r.holders ≡ holders_of hs (recorded_token r)) ss i d here lt in
    let same : (get_or ss i d).holders ≡ holders_of hs t = is ∙ ap (holders_of hs) at in
    let yes : ltb 0 (holders_of hs t) ≡ true = sym (held_is_counted hs t) ∙ held_by hs s t has in
    let above : 0 < holders_of hs t = grind (arith, nat_tests) in
    omega (arith, same, above)

-- tests of holds that are the same
pub has_by : (test : Hold → Bool) (s t : ℕ) → ((h : Hold) → test h ≡ is_of s t h) → (hs : List Hold) → list_any test hs ≡ has_hold hs s t
has_by test s t alike [] = refl
has_by test s t alike (h ∷ hs) = (λ i. alike h i || has_by test s t alike hs i)

pub removed_by : (test : Hold → Bool) (same : Hold → Hold → Bool) (s t : ℕ) → ((h : Hold) → test h ≡ is_of s t h) → ((g h : Hold) → same g h ≡ is_of g.session g.token h) → (hs : List Hold) → IsDistinct same hs → remove_key test hs ≡ filter (λ h. not (is_of s t h)) hs
removed_by test same s t alike by hs d = ap (λ (f : Hold → Bool). remove_key f hs) (λ i h. alike h i) ∙ removed_is_filtered same by hs s t d

pub holders-released : (hs : List Hold) (same : Hold → Hold → Bool) (s t : ℕ) → ((g h : Hold) → same g h ≡ is_of g.session g.token h) → IsDistinct same hs → has_hold hs s t ≡ true → (u : ℕ) → holders_of hs u ≡ holders_of (filter (λ h. not (is_of s t h)) hs) u + cond (u == t) 1 0
holders-released hs same s t by d has u = holders-removed hs s t u has ∙ ap (λ l. holders_of l u + cond (u == t) 1 0) (removed_is_filtered same by hs s t d)

-- an equality of holds tells them apart by session and token
pub flipped : (a b s t : ℕ) → ((s == a) && (t == b)) ≡ ((a == s) && (b == t))
flipped a b s t = λ i. equal_either s a i && equal_either t b i

-- ---- the state after a call

pub acquired_is : (rs new : List Recorded) (hs left : List Hold) (s t : ℕ) → new ≡ map (one_more t) rs → left ≡ hs ++ record { session = s; token = t } ∷ [] → has_hold hs s t ≡ false → shown new left ≡ acquired (shown rs hs) s t
acquired_is rs new hs left s t e f none = λ i. record {
  views = (ap views_of e ∙ views-more rs t) i;
  holds = (f ∙ ap (λ b. cond b hs (hs ++ record { session = s; token = t } ∷ [])) (sym none)) i;
}

pub released_is : (rs new : List Recorded) (hs left : List Hold) (s t : ℕ) → rs ≡ map (one_more t) new → left ≡ filter (λ h. not (is_of s t h)) hs → shown new left ≡ released (shown rs hs) s t
released_is rs new hs left s t e f = λ i. record {
  views = sym (ap views_of e ∙ views-more new t) i;
  holds = f i;
}

-- ---- equality of holds as the set of them has it

abbrev pub same_as : Hold → Hold → Bool
same_as k h = (k.session == h.session) && (k.token == h.token)

pub same_is : (g h : Hold) → same_as g h ≡ is_of g.session g.token h
same_is g h = flipped h.session h.token g.session g.token

same_of : (k : Hold) (s t : ℕ) → k ≡ record { session = s; token = t } → (h : Hold) → same_as k h ≡ is_of s t h
same_of k s t e h = ap (λ (g : Hold). same_as g h) e ∙ flipped h.session h.token s t

pub has_same : (k : Hold) (s t : ℕ) → k ≡ record { session = s; token = t } → (hs : List Hold) → list_any (same_as k) hs ≡ has_hold hs s t
has_same k s t e hs = has_by (same_as k) s t (same_of k s t e) hs

pub removed_same : (k : Hold) (s t : ℕ) → k ≡ record { session = s; token = t } → (hs : List Hold) → IsDistinct same_as hs → remove_key (same_as k) hs ≡ filter (λ h. not (is_of s t h)) hs
removed_same k s t e hs d = removed_by (same_as k) same_as s t (same_of k s t e) same_is hs d

pub not_there : (b : Bool) → not b ≡ true → b ≡ false
not_there true e = absurd (let no : false ≡ true = e in cc)
not_there false e = refl

-- what is kept once a hold ended
pub kept_released : (rs new : List Recorded) (hs : List Hold) (s t : ℕ) → AreKept rs hs → rs ≡ map (one_more t) new → IsDistinct same_as hs → has_hold hs s t ≡ true → AreKept new (filter (λ h. not (is_of s t h)) hs)
kept_released rs new hs s t k e d has =
    kept_less new hs (filter (λ h. not (is_of s t h)) hs) t (subst (λ l. AreKept l hs) e k)
    (holders-released hs same_as s t same_is d has)
    (held-filtered (λ h. not (is_of s t h)) hs)

-- ---- what a prune leaves

pub token_there : (rs : List Recorded) (i : ℕ) (d : Recorded) → i < length rs → has_token (views_of rs) (recorded_token (get_or rs i d)) ≡ true
token_there rs i d lt = sym (any-views rs (recorded_token (get_or rs i d))) ∙ any_some (λ r. recorded_token r == recorded_token (get_or rs i d)) rs i d lt (equals (recorded_token (get_or rs i d)) (recorded_token (get_or rs i d)) refl)

pub stay_kept : (rs ss : List Recorded) (hs : List Hold) (t : ℕ) → AreCounted ss hs → AllByRecursion (λ r. held_in hs (recorded_token r) ≡ true → is_kept_from t r ≡ true) ss
stay_kept rs [] hs t a = tt
stay_kept rs (s ∷ ss) hs t a =
    (λ e. ap (λ b. b || leb t (recorded_token s)) (ap (ltb 0) a.0 ∙ sym (held_is_counted hs (recorded_token s)) ∙ e), stay_kept rs ss hs t a.1)

at_least : (t u : ℕ) → u ≡ t → leb t u ≡ true
at_least t u e = grind (arith, nat_tests)

pub some_from : (rs : List Recorded) (t : ℕ) → has_token (views_of rs) t ≡ true → 1 ≤ length (filter (is_kept_from t) rs)
some_from [] t e = absurd (let no : false ≡ true = e in cc)
some_from (r ∷ rs) t e = elim (eqb_tells (recorded_token r) t) [
  | inl is ↦
      let kept : is_kept_from t r ≡ true = or_any (ltb 0 r.holders) (leb t (recorded_token r)) (at_least t (recorded_token r) is.1) in
      subst (λ b. 1 ≤ length (cond b (r ∷ filter (is_kept_from t) rs) (filter (is_kept_from t) rs))) (sym kept) (omega arith)
  | inr other ↦
      let rest = some_from rs t (sym (ap (λ b. b || has_token (views_of rs) t) other.0) ∙ e) in
      elim (is_kept_from t r) as (λ b. 1 ≤ length (cond b (r ∷ filter (is_kept_from t) rs) (filter (is_kept_from t) rs))) [ true ↦ omega arith | false ↦ rest ]
]

pub kept_pruned : (rs : List Recorded) (hs : List Hold) (t : ℕ) → AreKept rs hs → has_token (views_of rs) t ≡ true → AreKept (filter (is_kept_from t) rs) hs
kept_pruned rs hs t k there = kept_filtered (is_kept_from t) rs hs k (stay_kept rs rs hs t k.counted) (some_from rs t there)

pub pruned_is : (rs : List Recorded) (hs : List Hold) (n t : ℕ) → AreCounted rs hs → KeepsFrom (shown rs hs) n t → shown (filter (is_kept_from t) rs) hs ≡ pruned_to (shown rs hs) n
pruned_is rs hs n t counted keeps = λ i. record {
  views = (views-kept rs hs t counted ∙ sym (filter_alike (stays_in (shown rs hs) n) (λ v. held_in hs v.token || leb t v.token) (views_of rs) keeps)) i;
  holds = hs;
}

not_alike : (p q : View → Bool) (vs : List View) → AllByRecursion (λ v. p v ≡ q v) vs → AllByRecursion (λ v. not (p v) ≡ not (q v)) vs
not_alike p q [] a = tt
not_alike p q (v ∷ vs) a = (ap not a.0, not_alike p q vs a.1)

pub dropped_is : (rs : List Recorded) (hs : List Hold) (n t : ℕ) → AreCounted rs hs → KeepsFrom (shown rs hs) n t → views_of (filter (λ r. not (is_kept_from t r)) rs) ≡ filter (λ v. not (stays_in (shown rs hs) n v)) (views_of rs)
dropped_is rs hs n t counted keeps =
    views-dropped rs hs t counted
    ∙ sym (filter_alike (λ v. not (stays_in (shown rs hs) n v)) (λ v. not (held_in hs v.token || leb t v.token)) (views_of rs) (not_alike (stays_in (shown rs hs) n) (λ v. held_in hs v.token || leb t v.token) (views_of rs) keeps))

-- ---- one view more

pub recorded_is : (rs : List Recorded) (hs : List Hold) (v : View) → length rs < view_limit → shown (rs ++ record { view = v; holders = 0 } ∷ []) hs ≡ records_with_view (shown rs hs) v
recorded_is rs hs v lt = λ i. record {
  views = (views-push rs (record { view = v; holders = 0 }) ∙ ap (λ vs. vs ++ v ∷ []) (sym (all_stay rs hs lt))) i;
  holds = hs;
}

pub recorded_for : (rs : List Recorded) (hs : List Hold) (j : ℕ) (v : View) → view_limit ≤ length rs → TokensRise rs → FirstAt (is_free (held_in hs)) rs j → shown (remove rs j ++ record { view = v; holders = 0 } ∷ []) hs ≡ records_with_view (shown rs hs) v
recorded_for rs hs j v le up f = λ i. record {
  views = (views-push (remove rs j) (record { view = v; holders = 0 }) ∙ ap (λ vs. vs ++ v ∷ []) (sym (others_stay rs hs j le up f))) i;
  holds = hs;
}

-- ---- the newest of the views

weaken_le : (vs : List View) (m n : ℕ) → m ≤ n → AllByRecursion (λ v. v.token ≤ m) vs → AllByRecursion (λ v. v.token ≤ n) vs
weaken_le [] m n le a = tt
weaken_le (v ∷ vs) m n le a = (let l = a.0 in omega (arith, l, le), weaken_le vs m n le a.1)

up_to_greatest : (rs : List Recorded) → AllByRecursion (λ v. v.token ≤ greatest (tokens rs)) (views_of rs)
up_to_greatest [] = tt
up_to_greatest (r ∷ rs) = (omega arith, weaken_le (views_of rs) (greatest (tokens rs)) (greatest (tokens (r ∷ rs))) (omega arith) (up_to_greatest rs))

-- none has a token above the greatest
pub most : (rs : List Recorded) (t : ℕ) → t ≡ greatest (tokens rs) → All (λ v. v.token ≤ t) (views_of rs)
most rs t e = all_of (λ v. v.token ≤ t) (views_of rs) (subst (λ n. AllByRecursion (λ v. v.token ≤ n) (views_of rs)) (sym e) (up_to_greatest rs))

below_views : (rs : List Recorded) (t : ℕ) → AllByRecursion (λ v. v.token < t) (views_of rs) → AllByRecursion (λ r. recorded_token r < t) rs
below_views [] t a = tt
below_views (r ∷ rs) t a = (a.0, below_views rs t a.1)

pub below_all : (rs : List Recorded) (t : ℕ) → All (λ v. v.token < t) (views_of rs) → AllByRecursion (λ r. recorded_token r < t) rs
below_all rs t a = below_views rs t (recursion_from_All (λ (v : View). v.token < t) (views_of rs) a)
