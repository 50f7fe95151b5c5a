-- The sets that are found are lent to their query.
use Rattle.std.proofs.Common.{◌≡◌, Bool, true, List, [], ◌∷◌, map, Option, Some, None, option_map, Result, Ok, Err, refl, sym, ap, subst, ◌∙◌, arith, zero, suc}
use Rattle.std.specs.Prelude.{All, IfOk, IfSome}
use Rattle.std.specs.Arc.{arc_value}
use Rattle.std.specs.declared.sync.Arc.{Arc}
use Rattle.std.proofs.lemmas.List.Elements.{All-head, All-tail, All-weaker}
use Rattle.cat_model.specs.Query.{Query}
use Rattle.cat_model.specs.View.{Leaf, Segment, row_matches, segments_of}
use Rattle.cat_cached_sets.specs.cache.Cached.{CachedSet, CacheKey, same_key}
use Rattle.cat_cached_sets.proofs.cache.Shown.{keys_decided}
use Rattle.cat_views.specs.Sets.{AreSets, set_at}
use Rattle.cat_cached_sets.specs.filters.Filters.{Filters, cache_key_in, set_in}
use Rattle.cat_cached_sets.specs.filters.Known.{HasRowsOf, Knows}
use Rattle.cat_cached_sets.proofs.filters.Found.{All-lookup}

-- a set that is found in a known segment has the rows that match
found_rows : (q : Query) (s : Segment) (es : List CachedSet) (v : List Bool) → All (HasRowsOf s) es → set_in es q s ≡ Some v → v ≡ map (row_matches q) s.rows
found_rows q s es v known found =
    let there : (k : CacheKey) × HasRowsOf s (k, v) × (same_key (cache_key_in q s) k ≡ true) = All-lookup (HasRowsOf s) (same_key (cache_key_in q s)) es v found known in
    let is_key : cache_key_in q s ≡ there.0 = keys_decided (cache_key_in q s) there.0 there.2 in
    subst (λ (k : CacheKey). HasRowsOf s (k, v)) (sym is_key) there.1 refl

lent_at : {Z : Type 0} (q : Query) (s : Segment) (es : List CachedSet) (x : Option (Arc (List Bool) Z)) → All (HasRowsOf s) es → option_map arc_value x ≡ set_in es q s
    → IfSome (set_at (x ∷ []) 0) (λ rows. rows ≡ map (row_matches q) s.rows)
lent_at q s es None known e = tt
lent_at q s es (Some a) known e = found_rows q s es (arc_value a) known (sym e)

lent_all : {Z : Type 0} (q : Query) (es : List CachedSet) (leaves : List Leaf) (sets : List (Option (Arc (List Bool) Z)))
    → map (option_map arc_value) sets ≡ map (set_in es q) (segments_of leaves) → All (λ s. All (HasRowsOf s) es) (segments_of leaves) → AreSets q leaves sets
lent_all q es [] sets e known i leaf lt = absurd (omega arith)
lent_all q es (l ∷ ls) [] e known i leaf lt = absurd cc
lent_all {Z} q es (l ∷ ls) (x ∷ xs) e known zero leaf lt =
    lent_at q l.segment es x (All-head (λ (s : Segment). All (HasRowsOf s) es) l.segment (segments_of ls) known) cc
lent_all {Z} q es (l ∷ ls) (x ∷ xs) e known (suc i) leaf lt =
    let rest : map (option_map arc_value) xs ≡ map (set_in es q) (segments_of ls) = cc in
    lent_all q es ls xs rest (All-tail (λ (s : Segment). All (HasRowsOf s) es) l.segment (segments_of ls) known) i leaf (omega arith)

pub lent : {Z : Type 0} (q : Query) (f : Filters) (leaves : List Leaf) (sets : List (Option (Arc (List Bool) Z)))
    → map (option_map arc_value) sets ≡ map (set_in f.cached q) (segments_of leaves) → All (Knows f) (segments_of leaves) → AreSets q leaves sets
lent q f leaves sets e known =
    lent_all q f.cached leaves sets e (All-weaker (Knows f) (λ (s : Segment). All (HasRowsOf s) f.cached) (λ (s : Segment) (k : Knows f s). k.cached) (segments_of leaves) known)

pub lent_if : {V E Z : Type 0} (r : Result V E) (items : V → List (Option (Arc (List Bool) Z))) (q : Query) (f : Filters) (es : List CachedSet) (leaves : List Leaf) → es ≡ f.cached
    → IfOk r (λ v. map (option_map arc_value) (items v) ≡ map (set_in es q) (segments_of leaves)) → IfOk r (λ v. All (Knows f) (segments_of leaves) → AreSets q leaves (items v))
lent_if (Ok v) items q f es leaves same e = λ known. lent q f leaves (items v) (e ∙ ap (λ es. map (set_in es q) (segments_of leaves)) same) known
lent_if (Err x) items q f es leaves same e = tt
