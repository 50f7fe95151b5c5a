-- What the kept pairs of keys and sets show does what they do.
use Rattle.std.proofs.Common.{◌-◌, ◌==◌, ◌≡◌, ℕ, ◌+◌, ◌≤◌, Bool, true, false, cond, List, [], ◌∷◌, length, map, take, Option, Some, None, option_map, is_some, refl, sym, ap, ◌∙◌, arith}
use Rattle.std.specs.Borrow.{Bor}
use Rattle.std.specs.Option.{option_map_or, option_copied}
use Rattle.std.specs.Map.{lookup, lookup_entry, remove_entry}
use Rattle.std.proofs.lemmas.Bool.{and_parts, eqb-true}
use Rattle.std.proofs.lemmas.List.{take-map, take_all, length-map}
use Rattle.cat_query.specs.Same.{same_query, same_query-Decides}
use Rattle.cat_cached_sets.specs.cache.Cached.{CacheKey, same_key}
use Rattle.lru.proofs.CallerLemmas.{Contains-lookup_entry}
use Rattle.lru.specs.LruCache.{LruCache, promoted, put_entries}

module _ {K X L Y : Type 0} (f : K → L) (g : X → Y) where
  abbrev pub shown : K × X → L × Y
  shown e = (f e.0, g e.1)

  module _ (test : L → Bool) where
    abbrev at : K → Bool
    at k = test (f k)

    found : (b : Bool) (x : X) (o : Option X) (p : Option Y) → p ≡ option_map g o → cond b (Some (g x)) p ≡ option_map g (cond b (Some x) o)
    found true x o p e = refl
    found false x o p e = e

    pub lookup_shown : (es : List (K × X)) → lookup test (map shown es) ≡ option_map g (lookup at es)
    lookup_shown [] = refl
    lookup_shown (e ∷ es) = found (at e.0) e.1 (lookup at es) (lookup test (map shown es)) (lookup_shown es)

    found_entry : (b : Bool) (x : K × X) (o : Option (K × X)) (p : Option (L × Y)) → p ≡ option_map shown o → cond b (Some (shown x)) p ≡ option_map shown (cond b (Some x) o)
    found_entry true x o p e = refl
    found_entry false x o p e = e

    pub lookup_entry_shown : (es : List (K × X)) → lookup_entry test (map shown es) ≡ option_map shown (lookup_entry at es)
    lookup_entry_shown [] = refl
    lookup_entry_shown (e ∷ es) = found_entry (at e.0) e (lookup_entry at es) (lookup_entry test (map shown es)) (lookup_entry_shown es)

    removed : (b : Bool) (x : K × X) (es rest : List (K × X)) (ys : List (L × Y)) → ys ≡ map shown rest → cond b (map shown es) (shown x ∷ ys) ≡ map shown (cond b es (x ∷ rest))
    removed true x es rest ys e = refl
    removed false x es rest ys e = ap (λ zs. shown x ∷ zs) e

    pub remove_shown : (es : List (K × X)) → remove_entry test (map shown es) ≡ map shown (remove_entry at es)
    remove_shown [] = refl
    remove_shown (e ∷ es) = removed (at e.0) e es (remove_entry at es) (remove_entry test (map shown es)) (remove_shown es)

    to_front : (es : List (K × X)) (o : Option (K × X))
        → option_map_or (λ e. e ∷ remove_entry test (map shown es)) (option_map shown o) (map shown es) ≡ map shown (option_map_or (λ e. e ∷ remove_entry at es) o es)
    to_front es None = refl
    to_front es (Some e) = ap (λ r. shown e ∷ r) (remove_shown es)

    pub promoted_shown : (es : List (K × X)) → promoted test (map shown es) ≡ map shown (promoted at es)
    promoted_shown es =
        ap (λ o. option_map_or (λ e. e ∷ remove_entry test (map shown es)) o (map shown es)) (lookup_entry_shown es) ∙ to_front es (lookup_entry at es)

-- ---- what is put

module _ {K X : Type 0} (test : K → Bool) where
  -- none passes, and none is taken out
  pub removed_none : (es : List (K × X)) → lookup_entry test es ≡ None → remove_entry test es ≡ es
  removed_none [] h = refl
  removed_none (e ∷ es) h = (elim (test e.0) as (λ b. test e.0 ≡ b → remove_entry test (e ∷ es) ≡ e ∷ es) [
    | true ↦ λ t. let h' = rw t at h in absurd cc
    | false ↦ λ t. rw t (ap (λ r. e ∷ r) (removed_none es (rw t at h)))
  ]) refl

  -- one passes, and one is taken out
  pub removed_one : (es : List (K × X)) (x : K × X) → lookup_entry test es ≡ Some x → length (remove_entry test es) + 1 ≡ length es
  removed_one [] x h = absurd cc
  removed_one (e ∷ es) x h = (elim (test e.0) as (λ b. test e.0 ≡ b → length (remove_entry test (e ∷ es)) + 1 ≡ length (e ∷ es)) [
    | true ↦ λ t. rw t (omega arith)
    | false ↦ λ t. let rest = removed_one es x (rw t at h) in rw t (omega (arith, rest))
  ]) refl

pub still_some : {X Y : Type 0} (g : X → Y) (o : Option X) → is_some (option_map g o) ≡ is_some o
still_some g None = refl
still_some g (Some x) = refl

module _ {K X L Y : Type 0} (f : K → L) (g : X → Y) (same : L → L → Bool) (decided : (a b : L) → same a b ≡ true → a ≡ b) (n : ℕ) (c : LruCache K X) (k : K) (v : X) where
  abbrev eq : K → K → Bool
  eq a b = same (f a) (f b)

  abbrev rest : List (L × Y)
  rest = remove_entry (same (f k)) (map (shown f g) c.entries)

  put_cases : c.cap ≡ n + 1 → length c.entries ≤ c.cap → (o : Option (K × X)) → lookup_entry (eq k) c.entries ≡ o
      → map (shown f g) (option_map_or (λ e. (e.0, v) ∷ remove_entry (eq k) c.entries) o ((k, v) ∷ take (c.cap - 1) c.entries)) ≡ (f k, g v) ∷ take n rest
  put_cases cap few None h =
      let as_many : c.cap - 1 ≡ n = omega (arith, cap) in
      ap (λ m. (f k, g v) ∷ map (shown f g) (take m c.entries)) as_many
      ∙ ap (λ r. (f k, g v) ∷ r) (sym (take-map (shown f g) n c.entries)
      ∙ ap (λ es. take n (map (shown f g) es)) (sym (removed_none (eq k) c.entries h))
      ∙ ap (take n) (sym (remove_shown f g (same (f k)) c.entries)))
  put_cases cap few (Some e) h =
      let was = Contains-lookup_entry (eq k) c.entries e h in
      let gone = remove_entry (eq k) c.entries in
      let fewer = removed_one (eq k) c.entries e h in
      let long : length (map (shown f g) gone) ≤ n = omega (arith, cap, few, fewer, length-map gone (shown f g)) in
      ap (λ l. (l, g v) ∷ map (shown f g) gone) (sym (decided (f k) (f e.0) was.1))
      ∙ ap (λ r. (f k, g v) ∷ r) (sym (take_all n (map (shown f g) gone) long) ∙ ap (take n) (sym (remove_shown f g (same (f k)) c.entries)))

  pub put_shown : c.cap ≡ n + 1 → length c.entries ≤ c.cap → map (shown f g) (put_entries eq c k v) ≡ (f k, g v) ∷ take n rest
  put_shown cap few = put_cases cap few (lookup_entry (eq k) c.entries) refl

-- ---- what is found after it was used

pub copied_shown : {X Y : Type 0} (g : X → Y) (o : Option (Bor X)) → option_map (λ s. g s.now) o ≡ option_map g (option_copied o)
copied_shown g None = refl
copied_shown g (Some b) = refl

module _ {K X : Type 0} (test : K → Bool) where
  value_in : (b : Bool) (e : K × X) (v : Option X) (o : Option (K × X)) → v ≡ option_map (λ x. x.1) o → cond b (Some e.1) v ≡ option_map (λ x. x.1) (cond b (Some e) o)
  value_in true e v o h = refl
  value_in false e v o h = h

  value_of : (es : List (K × X)) → lookup test es ≡ option_map (λ e. e.1) (lookup_entry test es)
  value_of [] = refl
  value_of (e ∷ es) = value_in (test e.0) e (lookup test es) (lookup_entry test es) (value_of es)

  first_found : (es : List (K × X)) (o : Option (K × X)) → lookup_entry test es ≡ o → lookup test (option_map_or (λ e. e ∷ remove_entry test es) o es) ≡ option_map (λ e. e.1) o
  first_found es None h = value_of es ∙ ap (option_map (λ e. e.1)) h
  first_found es (Some e) h = rw (Contains-lookup_entry test es e h).1 refl

  -- the same is found once it stands first
  pub kept_first : (es : List (K × X)) → lookup test (promoted test es) ≡ lookup test es
  kept_first es = first_found es (lookup_entry test es) refl ∙ sym (value_of es)

-- ---- keys

pub keys_decided : (a b : CacheKey) → same_key a b ≡ true → a ≡ b
keys_decided a b e =
    let both = and_parts (a.segment == b.segment) (same_query a.query b.query) e in
    let segments : a.segment ≡ b.segment = eqb-true a.segment b.segment both.0 in
    let queries = (same_query-Decides a.query b.query).0 both.1 in
    λ i. record { segment = segments i; query = queries i }
