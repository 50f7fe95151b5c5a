-- Lists that are merged one behind another, with some elements left out. Each element has a code: 0 where it is left out, else
-- its index in the result plus 1.
use Rattle.std.specs.Prelude.{◌≡◌, ℕ, zero, suc, ◌+◌, ◌↔◌, List, [], ◌∷◌, map, slice_index_or, Contains, Vec}
use Rattle.std.specs.Borrow.{Bor}
use Rattle.std.specs.List.{flat_map}

-- the elements that aren't left out
abbrev pub kept_of : {X : Type 0} → List ℕ → List X → List X
kept_of [] xs = []
kept_of (c ∷ codes) [] = []
kept_of (zero ∷ codes) (x ∷ xs) = kept_of codes xs
kept_of (suc index ∷ codes) (x ∷ xs) = x ∷ kept_of codes xs

-- the index of the code, if it is one's
abbrev pub row_in : ℕ → List ℕ
row_in zero = []
row_in (suc index) = index ∷ []

-- the indices in the result of the elements at these indices
abbrev pub moved : List ℕ → List ℕ → List ℕ
moved codes indices = flat_map (λ p. row_in (slice_index_or codes p 0)) indices

-- the indices of the codes are `from` and those behind it, each once
abbrev pub AreNumbered : ℕ → List ℕ → Type 0
AreNumbered from [] = Unit {0}
AreNumbered from (zero ∷ codes) = AreNumbered from codes
AreNumbered from (suc index ∷ codes) = (index ≡ from) × AreNumbered (from + 1) codes

-- both lists have the same texts, whatever their order and however often
abbrev pub HaveSame : List (List ℕ) → List (List ℕ) → Type 0
HaveSame xs ys = (text : List ℕ) → Contains xs text ↔ Contains ys text

-- the texts of all the parts, one part behind another
abbrev pub texts_in : {A : Type 0} → List (Vec (Bor (List ℕ)) A) → List (List ℕ)
texts_in parts = flat_map (λ p. map (λ t. t.now) p.items) parts
