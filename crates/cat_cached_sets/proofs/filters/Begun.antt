-- The first missing pair, by queries one after the other.
use Rattle.std.proofs.Common.{◌≡◌, ℕ, ◌+◌, ◌<◌, Bool, true, false, cond, List, [], ◌∷◌, length, map, drop, get_or, Option, Some, None, option_map, refl, sym, ap, ◌∙◌, add-one}
use Rattle.std.specs.List.{find}
use Rattle.std.specs.Option.{option_or}
use Rattle.std.proofs.lemmas.List.Folds.{find-append}
use Rattle.std.proofs.Math.Seq.{drop-cons}
use Rattle.cat_model.specs.Query as model
use Rattle.cat_model.specs.View.{Segment}
use Rattle.cat_query.specs.declared.query.Query.{Query}
use Rattle.cat_query.specs.View.{query_of}
use Rattle.cat_cached_sets.specs.cache.Cached.{CachedSet}
use Rattle.cat_cached_sets.specs.cache.Warmed.{Warm}
use Rattle.cat_cached_sets.specs.filters.Filters.{QueriedSegment, warm_begun, is_missing, pairs}

found_in : {A B : Type 0} (f : A → B) (b : Bool) (x : A) (o : Option A) (p : Option B) → p ≡ option_map f o → cond b (Some (f x)) p ≡ option_map f (cond b (Some x) o)
found_in f true x o p e = refl
found_in f false x o p e = e

find-map : {A B : Type 0} (f : A → B) (p : B → Bool) (xs : List A) → find p (map f xs) ≡ option_map f (find (λ x. p (f x)) xs)
find-map f p [] = refl
find-map f p (x ∷ xs) = found_in f (p (f x)) x (find (λ x. p (f x)) xs) (find p (map f xs)) (find-map f p xs)

-- the first pair of the queries from this one on is that of this query, or else that of those behind it
abbrev pub first_from : List CachedSet → List Segment → List Query → Option QueriedSegment
first_from es ss qs = find (is_missing es) (pairs (map query_of qs) ss)

pub first-cons : (es : List CachedSet) (ss : List Segment) (q : Query) (qs : List Query)
    → first_from es ss (q ∷ qs) ≡ option_or (option_map (λ s. (query_of q, s)) (find (λ s. is_missing es (query_of q, s)) ss)) (first_from es ss qs)
first-cons es ss q qs =
    find-append (is_missing es) (map (λ s. (query_of q, s)) ss) (pairs (map query_of qs) ss)
    ∙ ap (λ o. option_or o (first_from es ss qs)) (find-map (λ (s : Segment). (query_of q, s)) (is_missing es) ss)

module _ (es : List CachedSet) (ss : List Segment) (qs : List Query) (i : ℕ) (item : Query) (p : model.Query)
    (lt : i < length qs) (is : item ≡ get_or qs i item) (query : p ≡ query_of item)
    (before : first_from es ss qs ≡ first_from es ss (drop i qs)) where
  first_here : (o : Option Segment) → o ≡ find (λ s. is_missing es (p, s)) ss → first_from es ss qs ≡ option_or (option_map (λ s. (p, s)) o) (first_from es ss (drop (i + 1) qs))
  first_here o e =
      let query' : query_of (get_or qs i item) ≡ p = sym (query ∙ ap query_of is) in
      let cut : drop i qs ≡ get_or qs i item ∷ drop (i + 1) qs = rw (add-one, drop-cons qs i item) refl in
      before
      ∙ ap (first_from es ss) cut
      ∙ first-cons es ss (get_or qs i item) (drop (i + 1) qs)
      ∙ ap (λ (p : model.Query). option_or (option_map (λ s. (p, s)) (find (λ s. is_missing es (p, s)) ss)) (first_from es ss (drop (i + 1) qs))) query'
      ∙ ap (λ (o : Option Segment). option_or (option_map (λ s. (p, s)) o) (first_from es ss (drop (i + 1) qs))) (sym e)

  pub begun_here : (s : Segment) (w : Warm) → Some s ≡ find (λ s. is_missing es (p, s)) ss → w ≡ record { segment = s; query = p; passed = 0 }
      → Some w ≡ option_map warm_begun (first_from es ss qs)
  begun_here s w e is_begun = ap (λ (w : Warm). Some w) is_begun ∙ ap (option_map warm_begun) (sym (first_here (Some s) e))

  pub none_here : None ≡ find (λ s. is_missing es (p, s)) ss → first_from es ss qs ≡ first_from es ss (drop (i + 1) qs)
  none_here e = first_here None e
