-- Queries that are noted, and sets that are given up.
use Rattle.std.proofs.Common.{◌≡◌, ℕ, ◌<◌, ◌≤◌, Bool, true, false, cond, List, [], ◌∷◌, ◌++◌, length, drop, map, Option, Some, None, refl, sym, ap, ◌∙◌, arith}
use Rattle.std.specs.Prelude.{◌||◌, ◌-◌, not}
use Rattle.std.proofs.lemmas.List.{length-append, length-map, map_push}
use Rattle.std.specs.List.{list_any}
use Rattle.std.specs.Option.{option_map_or}
use Rattle.cat_model.specs.Query as model
use Rattle.cat_query.specs.declared.query.Query.{Query}
use Rattle.cat_query.specs.Same.{same_query}
use Rattle.cat_query.specs.View.{query_of}
use Rattle.cat_cached_sets.specs.cache.Cached.{CachedSet}
use Rattle.cat_cached_sets.specs.cache.Warmed.{Warm}
use Rattle.cat_cached_sets.specs.filters.Filters.{Filters, most_noted, newest, noted_with, filters_without}

any_of : (q : model.Query) (qs : List Query) → list_any (λ p. same_query p q) (map query_of qs) ≡ list_any (λ p. same_query (query_of p) q) qs
any_of q [] = refl
any_of q (p ∷ qs) = ap (λ b. same_query (query_of p) q || b) (any_of q qs)

-- one that isn't noted comes last
pub noted_new : (qs : List Query) (noted : List model.Query) (q p : model.Query) (b : Bool) → map query_of qs ≡ noted → p ≡ q
    → b ≡ list_any (λ y. same_query (query_of y) q) qs → b ≡ false → newest most_noted (noted ++ p ∷ []) ≡ noted_with q noted
noted_new qs noted q p b same query is absent =
    let other : list_any (λ p. same_query p q) noted ≡ false =
    ap (list_any (λ p. same_query p q)) (sym same) ∙ any_of q qs ∙ sym is ∙ absent in
    ap (λ (p : model.Query). newest most_noted (noted ++ p ∷ [])) query
    ∙ sym (ap (λ b. cond b noted (newest most_noted (noted ++ q ∷ []))) other)

-- one that is noted already keeps its place
pub noted_again : (qs : List Query) (noted : List model.Query) (q : model.Query) (b : Bool) → map query_of qs ≡ noted
    → b ≡ list_any (λ y. same_query (query_of y) q) qs → b ≡ true → noted ≡ noted_with q noted
noted_again qs noted q b same is present =
    let there : list_any (λ p. same_query p q) noted ≡ true =
    ap (list_any (λ p. same_query p q)) (sym same) ∙ any_of q qs ∙ sym is ∙ present in
    sym (ap (λ b. cond b noted (newest most_noted (noted ++ q ∷ []))) there)

-- ---- one more

-- as many as are kept stay
newest-few : {A : Type 0} (n : ℕ) (xs : List A) → length xs ≤ n → newest n xs ≡ xs
newest-few n xs few = ap (λ (k : ℕ). drop k xs) (let none : length xs - n ≡ 0 = omega (arith, few) in none)

-- one more than that, and the first goes
newest-one_more : {A : Type 0} (n : ℕ) (xs : List A) (x : A) → length xs ≡ n → 0 < n → newest n (xs ++ x ∷ []) ≡ drop 1 xs ++ x ∷ []
newest-one_more n [] x full some = absurd (omega (arith, full, some))
newest-one_more n (y ∷ ys) x full some =
    ap (λ (k : ℕ). drop k ((y ∷ ys) ++ x ∷ [])) (let one : length ((y ∷ ys) ++ x ∷ []) - n ≡ 1 = omega (arith, full, length-append (y ∷ ys) (x ∷ [])) in one)

without_first : (qs : List Query) → map query_of (drop 1 qs) ≡ drop 1 (map query_of qs)
without_first [] = refl
without_first (q ∷ qs) = refl

-- where there is room the query comes last
pub note_kept : (before mid after : List Query) (q : Query) → length before < most_noted → mid ≡ before → after ≡ mid ++ q ∷ []
    → map query_of after ≡ newest most_noted (map query_of before ++ query_of q ∷ [])
note_kept before mid after q room is e =
    ap (map query_of) e ∙ map_push query_of mid q ∙ ap (λ (l : List Query). map query_of l ++ query_of q ∷ []) is
    ∙ sym (newest-few most_noted (map query_of before ++ query_of q ∷ []) (omega (arith, room, length-append (map query_of before) (query_of q ∷ []), length-map before query_of)))

-- where there is none the oldest goes
pub note_pushed : (before mid after : List Query) (q : Query) → length before ≡ most_noted → mid ≡ drop 1 before → after ≡ mid ++ q ∷ []
    → map query_of after ≡ newest most_noted (map query_of before ++ query_of q ∷ [])
note_pushed before mid after q full is e =
    ap (map query_of) e ∙ map_push query_of mid q ∙ ap (λ (l : List Query). map query_of l ++ query_of q ∷ []) is
    ∙ ap (λ (l : List model.Query). l ++ query_of q ∷ []) (without_first before)
    ∙ sym (newest-one_more most_noted (map query_of before) (query_of q) (length-map before query_of ∙ full) (omega arith))

pub same_filters : {a b : List CachedSet} {m n : List model.Query} {v w : Option Warm} → a ≡ b → m ≡ n → v ≡ w
    → ◌≡◌ {A = Filters} (record { cached = a; noted = m; warming = v }) (record { cached = b; noted = n; warming = w })
same_filters cached noted warming = λ i. record { cached = cached i; noted = noted i; warming = warming i }

-- ---- giving up

-- of the number of a segment it is known whether it is kept
module _ (keeps : ℕ → Bool) (f : Filters) where
  -- the set in the making is over one that is kept
  abbrev is_kept : Option Warm → Bool
  is_kept o = option_map_or (λ w. keeps w.segment.number) o false

  abbrev left : Option Warm → Option Warm
  left o = option_map_or (λ w. cond (not (keeps w.segment.number)) None (Some w)) o None

  given_up : (o : Option Warm) → is_kept o ≡ false → left o ≡ None
  given_up None e = refl
  given_up (Some w) e = ap (λ b. cond (not b) None (Some w)) e

  stays : (o : Option Warm) → is_kept o ≡ true → left o ≡ o
  stays None e = refl
  stays (Some w) e = ap (λ b. cond (not b) None (Some w)) e

  pub without_unkept : is_kept f.warming ≡ false → record f { warming = None } ≡ filters_without (λ n. not (keeps n)) f
  without_unkept e = ap (λ (o : Option Warm). record f { warming = o }) (sym (given_up f.warming e))

  pub without_none : is_kept f.warming ≡ true → f ≡ filters_without (λ n. not (keeps n)) f
  without_none e = ap (λ (o : Option Warm). record f { warming = o }) (sym (stays f.warming e))
