-- The laws of ranks and of the order of hits. Nothing to believe: each is the contract of a public function, and so proved.
use Rattle.std.specs.Prelude.{◌≡◌, ◌≢◌, ◌<◌, ℕ, Bool, true, List, length, take, min, AllPairs, IsPermutation}
use Rattle.cat_model.specs.Item.{Record}
use Rattle.cat_model.specs.Page.{Sort, before, first_ranked}
use Rattle.cat_model.specs.Ranks.{IsStrictOrder, AreApart, sorted}

-- the elements of xs, arranged so that each comes before all that stand behind it
pub record IsArrangement {X : Type 0} (lt : X → X → Bool) (xs ys : List X) : Type 0 where
  pub same : IsPermutation xs ys
  pub rising : AllPairs (λ a b. lt a b ≡ true) ys

-- For a strict order by which of any two elements of a list one comes before the other: the list in order is a rising
-- arrangement of it, the first n by rank are the first n of whatever arrangement rises, and there are n of them, or all.
pub record AreRanked {X : Type 0} (lt : X → X → Bool) (xs : List X) (n : ℕ) : Type 0 where
  pub arranged : IsArrangement lt xs (sorted lt xs)
  pub first : (ys : List X) → IsArrangement lt xs ys → first_ranked lt xs n ≡ take n ys
  pub many : length (first_ranked lt xs n) ≡ min n (length xs)

-- every list under every such order is so
abbrev pub RanksFollowOrder : Type 0 → Type 0
RanksFollowOrder X = (lt : X → X → Bool) (xs : List X) (n : ℕ) → IsStrictOrder lt → AllPairs (AreApart lt) xs → AreRanked lt xs n

-- Of records whose numbers rise the first n in order of addition are those that stand first.
abbrev pub AddedStandFirst : Type 0
AddedStandFirst =
    (rs : List Record) (n : ℕ) → AllPairs (λ a b. a.number < b.number) rs
    → first_ranked (before Sort.added) rs n ≡ take n rs

-- Each sort is a strict order, by which of two records of different numbers one comes before the other.
pub record OrdersRecords (sort : Sort) : Type 0 where
  pub strict : IsStrictOrder (before sort)
  pub apart : (a b : Record) → a.number ≢ b.number → AreApart (before sort) a b

-- each sort does so
abbrev pub SortsOrderRecords : Type 0
SortsOrderRecords = (sort : Sort) → OrdersRecords sort
