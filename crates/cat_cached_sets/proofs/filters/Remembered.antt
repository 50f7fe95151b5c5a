-- What is said of every set stays so.
use Rattle.std.proofs.Common.{◌≡◌, ℕ, ◌<◌, Bool, true, false, cond, List, [], ◌∷◌, map, take, Option, Some, None, option_map, Result, Ok, Err, inl, inr, refl, sym, ap, subst}
use Rattle.std.specs.Prelude.{All, IfOk, IfSome, OnErr}
use Rattle.std.specs.Option.{option_map_or}
use Rattle.std.specs.List.{find}
use Rattle.std.specs.Map.{lookup_entry, remove_entry}
use Rattle.std.proofs.lemmas.List.Elements.{All-append, All-cons, All-head, All-map, All-nil, All-tail, All-take}
use Rattle.cat_model.specs.Query.{Query}
use Rattle.cat_model.specs.View.{Segment, row_matches, AgreesWith}
use Rattle.cat_cached_sets.specs.cache.Cached.{CachedSet, CacheKey, same_key, with_stored_set, used}
use Rattle.cat_cached_sets.specs.cache.Warmed.{Warm}
use Rattle.cat_cached_sets.specs.filters.Filters.{Filters, QueriedSegment, warm_begun, first_missing, is_missing, cache_key_in, pairs, sets_used_in, filters_without}
use Rattle.cat_cached_sets.specs.filters.Known.{HasRowsOf, IsBelow, Knows, Remembers, RemembersBelow, FiltersRemember, FiltersRememberBelow}
use Rattle.cat_cached_sets.specs.filters.Steps.{IsLeftByStep, IsMade, IsFiltersStep}
use Rattle.cat_cached_sets.specs.declared.filters.news.WarmNews.{WarmNews}
use Rattle.cat_cached_sets.specs.declared.filters.news.WarmNews.TheVariants as news
use Rattle.cat_cached_sets.proofs.filters.Found.{All-entry}

module _ {K X : Type 0} (P : K × X → Type 0) where
  All-removed : (t : K → Bool) (es : List (K × X)) → All P es → All P (remove_entry t es)
  All-removed t [] h = h
  All-removed t (e ∷ es) h =
      elim (t e.0) as (λ b. All P (cond b es (e ∷ remove_entry t es))) [
        | true ↦ All-tail P e es h
        | false ↦ All-cons P e (remove_entry t es) (All-head P e es h) (All-removed t es (All-tail P e es h))
      ]

  All-first : (t : K → Bool) (es : List (K × X)) (o : Option (K × X)) → lookup_entry t es ≡ o → All P es → All P (option_map_or (λ e. e ∷ remove_entry t es) o es)
  All-first t es None at h = h
  All-first t es (Some e) at h = All-cons P e (remove_entry t es) (All-entry P t es e at h) (All-removed t es h)

module _ (P : CachedSet → Type 0) where
  pub All-used_in : (q : Query) (ss : List Segment) (es : List CachedSet) → All P es → All P (sets_used_in q ss es)
  All-used_in q [] es h = h
  All-used_in q (s ∷ ss) es h =
      All-used_in q ss (used (cache_key_in q s) es) (All-first P (same_key (cache_key_in q s)) es (lookup_entry (same_key (cache_key_in q s)) es) refl h)

  pub All-stored : (k : CacheKey) (rows : List Bool) (es : List CachedSet) → P (k, rows) → All P es → All P (with_stored_set k rows es)
  All-stored k rows es new h = All-take P 64 ((k, rows) ∷ remove_entry (same_key k) es) (All-cons P (k, rows) (remove_entry (same_key k) es) new (All-removed P (same_key k) es h))

IfSome-find : {A : Type 0} (P : A → Type 0) (t : A → Bool) (xs : List A) → All P xs → IfSome (find t xs) P
IfSome-find P t [] h = tt
IfSome-find P t (x ∷ xs) h =
    elim (t x) as (λ b. IfSome (cond b (Some x) (find t xs)) P) [
      | true ↦ All-head P x xs h
      | false ↦ IfSome-find P t xs (All-tail P x xs h)
    ]

All-pairs : (Q : Segment → Type 0) (qs : List Query) (ss : List Segment) → All Q ss → All (λ p. Q p.1) (pairs qs ss)
All-pairs Q [] ss h = All-nil (λ (p : QueriedSegment). Q p.1)
All-pairs Q (q ∷ qs) ss h =
    All-append (λ (p : QueriedSegment). Q p.1) (map (λ s. (q, s)) ss) (pairs qs ss) (All-map (λ (p : QueriedSegment). Q p.1) (λ (s : Segment). (q, s)) ss h) (All-pairs Q qs ss h)

-- what holds of every set, and of the segment of the one in the making, where it holds of a set once that is made
module _ (P : CachedSet → Type 0) (Q : Segment → Type 0) (made : (w : Warm) → Q w.segment → P (cache_key_in w.query w.segment, map (row_matches w.query) w.segment.rows)) where
  abbrev pub Holds : Filters → Type 0
  Holds f = All P f.cached × IfSome f.warming (λ w. Q w.segment)

  at_some : (f : Filters) (w : Warm) → f.warming ≡ Some w → Holds f → Q w.segment
  at_some f w e h = subst (λ (o : Option Warm). IfSome o (λ w. Q w.segment)) e h.1

  begun_holds : (o : Option QueriedSegment) → IfSome o (λ p. Q p.1) → IfSome (option_map warm_begun o) (λ w. Q w.segment)
  begun_holds None h = tt
  begun_holds (Some p) h = h

  pub step_holds : (old new : Filters) (ss : List Segment) (n : WarmNews) → IsFiltersStep old ss new n → All Q ss → Holds old → Holds new
  step_holds old new ss news.Idle step all h = subst Holds (sym step.after) h
  step_holds old new ss news.Begun step all h =
      subst Holds (sym step.after) (h.0, begun_holds (first_missing old ss) (IfSome-find (λ (p : QueriedSegment). Q p.1) (is_missing old.cached) (pairs old.noted ss) (All-pairs Q old.noted ss all)))
  step_holds old new ss (news.Warmed rows) step all h = subst Holds (sym step.after) (h.0, at_some old step.warm step.making h)
  step_holds old new ss news.Stored step all h =
      let w : Warm = step.warm in
      subst Holds (sym step.after) (All-stored P (cache_key_in w.query w.segment) (map (row_matches w.query) w.segment.rows) old.cached (made w (at_some old w step.making h)) h.0, tt)

  pub left_holds : (old new : Filters) → IsLeftByStep old new → Holds old → Holds new
  left_holds old new (inl e) h = subst Holds (sym e) h
  left_holds old new (inr left) h = subst Holds (sym left.after) (h.0, at_some old left.warm left.making h)

  kept_or_none : (b : Bool) (w : Warm) → Q w.segment → IfSome (cond b None (Some w)) (λ w. Q w.segment)
  kept_or_none true w h = tt
  kept_or_none false w h = h

  without_some : (t : ℕ → Bool) (o : Option Warm) → IfSome o (λ w. Q w.segment) → IfSome (option_map_or (λ w. cond (t w.segment.number) None (Some w)) o None) (λ w. Q w.segment)
  without_some t None h = tt
  without_some t (Some w) h = kept_or_none (t w.segment.number) w h

  pub without_holds : (t : ℕ → Bool) (f : Filters) → Holds f → Holds (filters_without t f)
  without_holds t f h = (h.0, without_some t f.warming h.1)

  -- the order of use changes alone
  pub used_holds : (q : Query) (ss : List Segment) (f : Filters) → Holds f → Holds (record f { cached = sets_used_in q ss f.cached })
  used_holds q ss f h = (All-used_in P q ss f.cached h.0, h.1)

rows_made : (s : Segment) (w : Warm) → AgreesWith s w.segment → HasRowsOf s (cache_key_in w.query w.segment, map (row_matches w.query) w.segment.rows)
rows_made s w agrees same = ap (λ (t : Segment). map (row_matches w.query) t.rows) (agrees same)

below_made : (n : ℕ) (w : Warm) → w.segment.number < n → w.segment.number < n
below_made n w h = h

abbrev KnowsBoth : Segment → Filters → Type 0
KnowsBoth s = Holds (HasRowsOf s) (AgreesWith s) (rows_made s)

abbrev BelowBoth : ℕ → Filters → Type 0
BelowBoth n = Holds (λ e. e.0.segment < n) (λ s. s.number < n) (below_made n)

knows : (s : Segment) (f : Filters) → KnowsBoth s f → Knows f s
knows s f h = record { cached = h.0; warming = h.1 }

below : (n : ℕ) (f : Filters) → BelowBoth n f → IsBelow n f
below n f h = record { cached = h.0; warming = h.1 }

pub step_remembers : (old new : Filters) (ss : List Segment) (n : WarmNews) → IsFiltersStep old ss new n → FiltersRemember ss old new
step_remembers old new ss n step s all k = knows s new (step_holds (HasRowsOf s) (AgreesWith s) (rows_made s) old new ss n step all (k.cached, k.warming))

pub step_below : (old new : Filters) (ss : List Segment) (n : WarmNews) → IsFiltersStep old ss new n → FiltersRememberBelow ss old new
step_below old new ss n step m all k =
    below m new (step_holds (λ e. e.0.segment < m) (λ s. s.number < m) (below_made m) old new ss n step all (k.cached, k.warming))

pub left_remembers : (old new : Filters) → IsLeftByStep old new → Remembers old new
left_remembers old new left s k = knows s new (left_holds (HasRowsOf s) (AgreesWith s) (rows_made s) old new left (k.cached, k.warming))

pub left_below : (old new : Filters) → IsLeftByStep old new → RemembersBelow old new
left_below old new left m k = below m new (left_holds (λ e. e.0.segment < m) (λ s. s.number < m) (below_made m) old new left (k.cached, k.warming))

pub without_remembers : (t : ℕ → Bool) (old : Filters) → Remembers old (filters_without t old)
without_remembers t old s k = knows s (filters_without t old) (without_holds (HasRowsOf s) (AgreesWith s) (rows_made s) t old (k.cached, k.warming))

pub without_below : (t : ℕ → Bool) (old : Filters) → RemembersBelow old (filters_without t old)
without_below t old m k = below m (filters_without t old) (without_holds (λ e. e.0.segment < m) (λ s. s.number < m) (below_made m) t old (k.cached, k.warming))

pub used_remembers : (q : Query) (ss : List Segment) (old : Filters) → Remembers old (record old { cached = sets_used_in q ss old.cached })
used_remembers q ss old s k =
    knows s (record old { cached = sets_used_in q ss old.cached }) (used_holds (HasRowsOf s) (AgreesWith s) (rows_made s) q ss old (k.cached, k.warming))

pub used_below : (q : Query) (ss : List Segment) (old : Filters) → RemembersBelow old (record old { cached = sets_used_in q ss old.cached })
used_below q ss old m k =
    below m (record old { cached = sets_used_in q ss old.cached }) (used_holds (λ e. e.0.segment < m) (λ s. s.number < m) (below_made m) q ss old (k.cached, k.warming))

-- ---- of calls

pub begun_remembers : {E : Type 0} (r : Result WarmNews E) (old new : Filters) (ss : List Segment) → IfOk r (IsFiltersStep old ss new) → OnErr r (new ≡ old) → FiltersRemember ss old new
begun_remembers (Ok n) old new ss ok err = step_remembers old new ss n ok
begun_remembers (Err e) old new ss ok err = λ s all k. subst (λ (f : Filters). Knows f s) (sym err) k

pub begun_below : {E : Type 0} (r : Result WarmNews E) (old new : Filters) (ss : List Segment) → IfOk r (IsFiltersStep old ss new) → OnErr r (new ≡ old) → FiltersRememberBelow ss old new
begun_below (Ok n) old new ss ok err = step_below old new ss n ok
begun_below (Err e) old new ss ok err = λ m all k. subst (IsBelow m) (sym err) k

module _ (es new : List CachedSet) (noted : List Query) (o : Option Warm) (w after : Warm) (ss : List Segment) (making : o ≡ Some w) (made : IsMade es w new after None) where
  pub stored_remembers : FiltersRemember ss (record { cached = es; noted = noted; warming = o }) (record { cached = new; noted = noted; warming = None })
  stored_remembers =
      step_remembers (record { cached = es; noted = noted; warming = o }) (record { cached = new; noted = noted; warming = None }) ss news.Stored
      (record { warm = w; making = making; last = made.last; after = ap (λ es. record { cached = es; noted = noted; warming = None }) made.cached })

  pub stored_below : FiltersRememberBelow ss (record { cached = es; noted = noted; warming = o }) (record { cached = new; noted = noted; warming = None })
  stored_below =
      step_below (record { cached = es; noted = noted; warming = o }) (record { cached = new; noted = noted; warming = None }) ss news.Stored
      (record { warm = w; making = making; last = made.last; after = ap (λ es. record { cached = es; noted = noted; warming = None }) made.cached })
