-- One more element of a list that a loop walks.
use Rattle.std.proofs.Common.{◌≡◌, ◌+◌, ◌<◌, ◌≤◌, ◌^◌, ℕ, List, [], ◌∷◌, ◌++◌, length, map, get_or, take, sum, sym, ap, ◌∙◌, subst, arith}
use Rattle.std.specs.Prelude.{All}
use Rattle.std.proofs.lemmas.List.{map_more, length-map, length-take-le, take_all}
use Rattle.std.proofs.lemmas.List.Elements.{All-more, All-map}
use Rattle.std.proofs.lemmas.List.Sums.{sum_by-le}

module _ {X : Type 0} (xs : List X) (i : ℕ) (x : X) (within : i < length xs) (is : x ≡ get_or xs i x) where
  -- what is made of each
  pub made_more : {Y : Type 0} (make : X → Y) (old new : List Y) (y : Y) → new ≡ old ++ y ∷ [] → y ≡ make x → old ≡ map make (take i xs) → new ≡ map make (take (i + 1) xs)
  made_more make old new y pushed made before =
      pushed ∙ ap (λ l. l ++ y ∷ []) before ∙ ap (λ z. map make (take i xs) ++ z ∷ []) (made ∙ ap make is) ∙ sym (map_more make xs i x within)

  -- what holds of each
  pub holds_more : (P : X → Type 0) → All P (take i xs) → P x → All P (take (i + 1) xs)
  holds_more P before one = All-more P xs i x within before (subst P is one)

-- at the end of the list
module _ {X : Type 0} (xs : List X) (i : ℕ) (ended : length xs ≤ i) where
  pub made_all : {Y : Type 0} (make : X → Y) (ys : List Y) → ys ≡ map make (take i xs) → ys ≡ map make xs
  made_all make ys made = made ∙ ap (map make) (take_all i xs ended)

  pub holds_all : (P : X → Type 0) → All P (take i xs) → All P xs
  holds_all P all = subst (All P) (take_all i xs ended) all

-- what holds of each of none
pub holds_none : {X : Type 0} (P : X → Type 0) (xs : List X) → xs ≡ [] → All P xs
holds_none P xs none = subst (All P) (sym none) (λ k d within. absurd (omega (arith, within)))

-- lengths of at most 8,192 each, fewer than 262,144
pub sum_fits : {X : Type 0} (long : X → ℕ) (xs : List X) (i len : ℕ) → i < length xs → length xs ≤ 262144 → All (λ x. long x ≤ 8192) (take i xs) → len ≤ 8192 → sum (map long (take i xs)) + len < 2 ^ 32
sum_fits long xs i len within few all short =
    omega (arith, sum_by-le (λ n. n) 8192 (map long (take i xs)) (All-map (λ n. n ≤ 8192) long (take i xs) all), length-map (take i xs) long, length-take-le i xs (omega arith))
