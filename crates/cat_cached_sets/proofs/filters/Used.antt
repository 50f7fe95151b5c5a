-- Sets that are used, one after the other, and those that are found then.
use Rattle.std.proofs.Common.{◌≡◌, ℕ, ◌+◌, ◌<◌, ◌≤◌, Bool, true, false, cond, List, [], ◌∷◌, ◌++◌, length, map, take, get_or, Option, Some, None, option_map, replicate, Result, Ok, Err, refl, sym, ap, subst, ◌∙◌, arith}
use Rattle.std.specs.Prelude.{IfOk, MatchResult}
use Rattle.std.specs.Option.{option_map_or}
use Rattle.std.specs.Map.{lookup, lookup_entry, remove_entry}
use Rattle.std.proofs.lemmas.List.{map-append, nil_from_length, take_more}
use Rattle.cat_model.specs.Query.{Query}
use Rattle.cat_model.specs.View.{Leaf, Segment, segments_of}
use Rattle.cat_cached_sets.specs.cache.Cached.{CachedSet, CacheKey, same_key, used}
use Rattle.cat_cached_sets.proofs.cache.Shown.{keys_decided, kept_first}
use Rattle.cat_cached_sets.specs.filters.Filters.{cache_key_in, set_in, sets_used_in}
use Rattle.cat_cached_sets.proofs.filters.Found.{entry_passes}

module _ {K X : Type 0} (t u : K → Bool) (apart : (k : K) → t k ≡ true → u k ≡ true → ⊥) where
  passed_by : (e : K × X) (o : Option X) → u e.0 ≡ true → cond (t e.0) (Some e.1) o ≡ o
  passed_by e o there = (elim (t e.0) as (λ b. t e.0 ≡ b → cond b (Some e.1) o ≡ o) [
    | true ↦ λ here. absurd (apart e.0 here there)
    | false ↦ λ _. refl
  ]) refl

  lookup-removed : (es : List (K × X)) → lookup t (remove_entry u es) ≡ lookup t es
  lookup-removed [] = refl
  lookup-removed (e ∷ es) = (elim (u e.0) as (λ b. u e.0 ≡ b → lookup t (cond b es (e ∷ remove_entry u es)) ≡ lookup t (e ∷ es)) [
    | true ↦ λ there. sym (passed_by e (lookup t es) there)
    | false ↦ λ _. ap (λ o. cond (t e.0) (Some e.1) o) (lookup-removed es)
  ]) refl

  first_passed : (es : List (K × X)) (o : Option (K × X)) → lookup_entry u es ≡ o → lookup t (option_map_or (λ e. e ∷ remove_entry u es) o es) ≡ lookup t es
  first_passed es None h = refl
  first_passed es (Some e) h = passed_by e (lookup t (remove_entry u es)) (entry_passes u es e h) ∙ lookup-removed es

-- a use changes no set that is found
pub lookup-used : (k j : CacheKey) (es : List CachedSet) → lookup (same_key k) (used j es) ≡ lookup (same_key k) es
lookup-used k j es = (elim (same_key k j) as (λ b. same_key k j ≡ b → lookup (same_key k) (used j es) ≡ lookup (same_key k) es) [
  | true ↦ λ same. subst (λ (i : CacheKey). lookup (same_key k) (used i es) ≡ lookup (same_key k) es) (keys_decided k j same) (kept_first (same_key k) es)
  | false ↦ λ other. first_passed (same_key k) (same_key j) (λ (i : CacheKey) (a : same_key k i ≡ true) (b : same_key j i ≡ true).
      let both : true ≡ false = sym (subst (λ (i : CacheKey). same_key k i ≡ true) (sym (keys_decided j i b)) a) ∙ other in cc)
      es (lookup_entry (same_key j) es) refl
]) refl

-- nor do many
pub set_in-used_in : (q p : Query) (s : Segment) (ss : List Segment) (es : List CachedSet) → set_in (sets_used_in q ss es) p s ≡ set_in es p s
set_in-used_in q p s [] es = refl
set_in-used_in q p s (x ∷ ss) es = set_in-used_in q p s ss (used (cache_key_in q x) es) ∙ lookup-used (cache_key_in p s) (cache_key_in q x) es

used_in-push : (q : Query) (ss : List Segment) (s : Segment) (es : List CachedSet) → sets_used_in q (ss ++ s ∷ []) es ≡ used (cache_key_in q s) (sets_used_in q ss es)
used_in-push q [] s es = refl
used_in-push q (x ∷ ss) s es = used_in-push q ss s (used (cache_key_in q x) es)

segments_more : (leaves : List Leaf) (i : ℕ) (d : Leaf) → i < length leaves → segments_of (take (i + 1) leaves) ≡ segments_of (take i leaves) ++ (get_or leaves i d).segment ∷ []
segments_more leaves i d lt = ap segments_of (take_more leaves i d lt) ∙ map-append (λ (l : Leaf). l.segment) (take i leaves) (get_or leaves i d ∷ [])

-- one leaf more
pub used_more : (q : Query) (es : List CachedSet) (leaves : List Leaf) (i : ℕ) (d : Leaf) → i < length leaves
    → sets_used_in q (segments_of (take (i + 1) leaves)) es ≡ used (cache_key_in q (get_or leaves i d).segment) (sets_used_in q (segments_of (take i leaves)) es)
used_more q es leaves i d lt = ap (λ ss. sets_used_in q ss es) (segments_more leaves i d lt) ∙ used_in-push q (segments_of (take i leaves)) (get_or leaves i d).segment es

-- its set too
pub sets_more : {A : Type 0} (g : A → Option (List Bool)) (q : Query) (es : List CachedSet) (leaves : List Leaf) (i : ℕ) (d : Leaf) (items : List A) (x : A) → i < length leaves
    → map g items ≡ map (set_in es q) (segments_of (take i leaves))
    → g x ≡ set_in (sets_used_in q (segments_of (take i leaves)) es) q (get_or leaves i d).segment
    → map g (items ++ x ∷ []) ≡ map (set_in es q) (segments_of (take (i + 1) leaves))
sets_more g q es leaves i d items x lt before here =
    let s : Segment = (get_or leaves i d).segment in
    let ss : List Segment = segments_of (take i leaves) in
    let set : g x ≡ set_in es q s = here ∙ set_in-used_in q q s ss es in
    map-append g items (x ∷ [])
    ∙ ap (λ l. l ++ g x ∷ []) before
    ∙ ap (λ o. map (set_in es q) ss ++ o ∷ []) set
    ∙ sym (ap (map (set_in es q)) (segments_more leaves i d lt) ∙ map-append (set_in es q) ss (s ∷ []))

-- ---- one look

-- the leaf of this index is looked up under a key of this number and this query
module _ (q : Query) (es now : List CachedSet) (leaves : List Leaf) (i : ℕ) (leaf : Leaf) (n : ℕ) (p : Query)
    (lt : i < length leaves) (item : leaf ≡ get_or leaves i leaf) (number : n ≡ leaf.segment.number) (query : p ≡ q)
    (before : now ≡ sets_used_in q (segments_of (take i leaves)) es) where
  key : CacheKey
  key = record { segment = n; query = p }

  key_is : record { segment = n; query = p } ≡ cache_key_in q (get_or leaves i leaf).segment
  key_is = λ j. record { segment = (number ∙ ap (λ (l : Leaf). l.segment.number) item) j; query = query j }

  pub used_after : (new : List CachedSet) → new ≡ used (record { segment = n; query = p }) now → new ≡ sets_used_in q (segments_of (take (i + 1) leaves)) es
  used_after new e =
      e ∙ ap (λ (k : CacheKey). used k now) key_is
      ∙ ap (used (cache_key_in q (get_or leaves i leaf).segment)) before
      ∙ sym (used_more q es leaves i leaf lt)

  pub sets_after : {A : Type 0} (g : A → Option (List Bool)) (items : List A) (x : A) → g x ≡ lookup (same_key (record { segment = n; query = p })) now
      → map g items ≡ map (set_in es q) (segments_of (take i leaves)) → map g (items ++ x ∷ []) ≡ map (set_in es q) (segments_of (take (i + 1) leaves))
  sets_after g items x e done =
      sets_more g q es leaves i leaf items x lt done
      (e ∙ ap (λ (k : CacheKey). lookup (same_key k) now) key_is ∙ ap (lookup (same_key (cache_key_in q (get_or leaves i leaf).segment))) before)

-- the sets that were found, with the last one that was
pub sets_found : {A V E : Type 0} (items : V → List A) (g : A → Option (List Bool)) (q : Query) (es now : List CachedSet) (leaves : List Leaf) (i : ℕ) (leaf : Leaf) (n : ℕ) (p : Query)
    → (lt : i < length leaves) (item : leaf ≡ get_or leaves i leaf) (number : n ≡ leaf.segment.number) (query : p ≡ q)
    → (before : now ≡ sets_used_in q (segments_of (take i leaves)) es)
    → (sets : Result V E) (set : Result A E) (r : Result V E)
    → IfOk r (λ v. MatchResult sets (λ old. MatchResult set (λ s. items v ≡ items old ++ s ∷ []) (λ e. ⊥)) (λ e. ⊥))
    → IfOk set (λ x. g x ≡ lookup (same_key (record { segment = n; query = p })) now)
    → IfOk sets (λ v. map g (items v) ≡ map (set_in es q) (segments_of (take i leaves)))
    → IfOk r (λ v. map g (items v) ≡ map (set_in es q) (segments_of (take (i + 1) leaves)))
sets_found items g q es now leaves i leaf n p lt item number query before sets set (Err e) is found done = tt
sets_found items g q es now leaves i leaf n p lt item number query before (Err e) set (Ok v) is found done = absurd is
sets_found items g q es now leaves i leaf n p lt item number query before (Ok old) (Err e) (Ok v) is found done = absurd is
sets_found items g q es now leaves i leaf n p lt item number query before (Ok old) (Ok s) (Ok v) is found done =
    ap (map g) is ∙ sets_after q es now leaves i leaf n p lt item number query before g (items old) s found done

-- ---- no sets are cached

-- then a use changes nothing
used_in-nil : (q : Query) (ss : List Segment) → sets_used_in q ss [] ≡ []
used_in-nil q [] = refl
used_in-nil q (s ∷ ss) = used_in-nil q ss

-- and none is found
none_found : {A : Type 0} (g : A → List Bool) (q : Query) (leaves : List Leaf) → map (option_map g) (replicate (length leaves) None) ≡ map (set_in [] q) (segments_of leaves)
none_found g q [] = refl
none_found g q (l ∷ leaves) = ap (λ os. None ∷ os) (none_found g q leaves)

module _ (q : Query) (es : List CachedSet) (empty : length es ≡ 0) where
  pub none_used : (ss : List Segment) → es ≡ sets_used_in q ss es
  none_used ss = subst (λ l. l ≡ sets_used_in q ss l) (sym (nil_from_length es empty)) (sym (used_in-nil q ss))

  pub none_found_if : {A B E : Type 0} (g : A → List Bool) (r : Result B E) (items : B → List (Option A)) (leaves : List Leaf)
      → IfOk r (λ v. items v ≡ replicate (length leaves) None) → IfOk r (λ v. map (option_map g) (items v) ≡ map (set_in es q) (segments_of leaves))
  none_found_if g (Ok v) items leaves e = ap (map (option_map g)) e ∙ none_found g q leaves ∙ ap (λ l. map (set_in l q) (segments_of leaves)) (sym (nil_from_length es empty))
  none_found_if g (Err e) items leaves _ = tt
