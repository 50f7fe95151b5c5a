-- Candidates compare as their standings do, so the best candidates have the best standings.
use Rattle.std.proofs.Common.{◌≡◌, ℕ, zero, suc, List, [], ◌∷◌, take, map, Bool, true, false, cond, refl, ◌∙◌, ap}
use Rattle.std.specs.Ordering.{is_lt, nat_cmp, ordering_then}
use Rattle.cat_model.specs.Page.{key_cmp}
use Rattle.cat_model.specs.Ranks.{insert_by, insert_all, sorted}
use Rattle.cat_search.specs.BestItems.{BestItems, IsBestOf}
use Rattle.cat_search.specs.Keys.{key_ref_of}
use Rattle.cat_search.specs.Standings.{HitStanding, rank_cmp, standing_before}
use Rattle.cat_search.specs.Candidates.{standing_of, rank_of, comes_first, IsBestAt}
use Rattle.cat_search.specs.contracts.keys.KeyRefOrd.TheImpl as by_key
use Rattle.cat_search.specs.contracts.standings.RankOrd.TheImpl as by_rank
use Rattle.cat_search.specs.declared.keys.KeyRef.{KeyRef}
use Rattle.cat_search.specs.declared.keys.KeyRef.TheVariants.{Number, Keyword}
use Rattle.cat_search.specs.declared.standings.Rank.{Rank}
use Rattle.cat_search.specs.declared.standings.Rank.TheVariants.{Rising, Falling, Missing}
use Rattle.cat_search.specs.declared.standings.Candidate.{Candidate}

-- ---- lists in order, through a function that keeps the order

pub map-take : {X Y : Type 0} (f : X → Y) (n : ℕ) (xs : List X) → map f (take n xs) ≡ take n (map f xs)
map-take f zero xs = refl
map-take f (suc n) [] = refl
map-take f (suc n) (x ∷ xs) = ap (λ ys. f x ∷ ys) (map-take f n xs)

module _ {X Y : Type 0} (f : X → Y) (lt : X → X → Bool) (mt : Y → Y → Bool) (alike : (a b : X) → lt a b ≡ mt (f a) (f b)) where
  map-insert : (x : X) (ys : List X) → map f (insert_by lt x ys) ≡ insert_by mt (f x) (map f ys)
  map-insert x [] = refl
  map-insert x (y ∷ ys) =
      ap (λ b. map f (cond b (x ∷ y ∷ ys) (y ∷ insert_by lt x ys))) (alike x y)
      ∙ elim (mt (f x) (f y)) as (λ b. map f (cond b (x ∷ y ∷ ys) (y ∷ insert_by lt x ys)) ≡ cond b (f x ∷ f y ∷ map f ys) (f y ∷ insert_by mt (f x) (map f ys))) [
        | true ↦ refl
        | false ↦ ap (λ zs. f y ∷ zs) (map-insert x ys)
      ]

  map-insert_all : (ys xs : List X) → map f (insert_all lt ys xs) ≡ insert_all mt (map f ys) (map f xs)
  map-insert_all ys [] = refl
  map-insert_all ys (x ∷ xs) = map-insert_all (insert_by lt x ys) xs ∙ ap (λ zs. insert_all mt zs (map f xs)) (map-insert x ys)

  pub map-sorted : (xs : List X) → map f (sorted lt xs) ≡ sorted mt (map f xs)
  map-sorted xs = map-insert_all [] xs

  -- the first n in order
  pub map-first : (n : ℕ) (xs : List X) → map f (take n (sorted lt xs)) ≡ take n (sorted mt (map f xs))
  map-first n xs = map-take f n (sorted lt xs) ∙ ap (take n) (map-insert_all [] xs)

-- ---- the order of candidates, which is derived, is the order of their standings

keys_alike : (k l : KeyRef) → by_key.ghosts.cmp k l ≡ key_cmp (key_ref_of k) (key_ref_of l)
keys_alike (Number a) (Number b) = refl
keys_alike (Number a) (Keyword b) = refl
keys_alike (Keyword a) (Number b) = refl
keys_alike (Keyword a) (Keyword b) = refl

ranks_alike : (r s : Rank) → by_rank.ghosts.cmp r s ≡ rank_cmp (rank_of r) (rank_of s)
ranks_alike (Rising k) (Rising l) = keys_alike k l
ranks_alike (Rising k) (Falling l) = refl
ranks_alike (Rising k) Missing = refl
ranks_alike (Falling k) (Rising l) = refl
ranks_alike (Falling k) (Falling l) = keys_alike l.0 k.0
ranks_alike (Falling k) Missing = refl
ranks_alike Missing (Rising l) = refl
ranks_alike Missing (Falling l) = refl
ranks_alike Missing Missing = refl

pub comes_first-is : (a b : Candidate) → comes_first a b ≡ standing_before (standing_of a) (standing_of b)
comes_first-is a b = ap (λ o. is_lt (ordering_then o (nat_cmp a.number b.number))) (ranks_alike a.rank b.rank)

pub best_standings : (kept : BestItems Candidate) (items : List Candidate)
    → ((offered : List Candidate) → IsBestOf comes_first kept offered → items ≡ take kept.limit (sorted comes_first offered))
    → (standings : List HitStanding) → IsBestAt kept standings → map standing_of items ≡ take kept.limit (sorted standing_before standings)
best_standings kept items first standings h =
    ap (map standing_of) (first h.0 h.2) ∙ map-first standing_of comes_first standing_before comes_first-is kept.limit h.0 ∙ ap (λ ps. take kept.limit (sorted standing_before ps)) h.1
