-- Rows that can't come into a page, by their keys alone.
use Rattle.std.specs.Prelude.{◌≡◌, ℤ, Bool, false, ◌&&◌, List, [], ◌∷◌, map, Option, Some, None, option_map}
use Rattle.std.specs.Ordering.{is_le}
use Rattle.cat_model.specs.Page.{Key, key_cmp}
use Rattle.cat_model.specs.Query.{open_or, int_le}
use Rattle.cat_model.specs.Text.{Text}
use Rattle.cat_search.specs.declared.number_bar.NumberBar.{NumberBar}
use Rattle.cat_search.specs.declared.ends.Ends.{Ends}
use Rattle.cat_search.specs.declared.standings.Candidate.{Candidate}
use Rattle.cat_search.specs.declared.sort.Order.{Order}
use Rattle.cat_search.specs.declared.sort.Order.TheVariants as order
use Rattle.cat_search.specs.Keys.{key_ref_of}
use Rattle.cat_search.specs.Standings.{HitStanding, Rank, standing_before}
use Rattle.cat_search.specs.BestItems.{BestItems}
use Rattle.cat_search.specs.Pages.{if_behind, rank_with}
use Rattle.cat_search.specs.Candidates.{TakesIn}

-- the rank is that of the key in the order of a field
abbrev pub HasKey : Order → Rank → Key → Type 0
HasKey order.Added rank k = ⊥
HasKey (order.Rising field) rank k = rank ≡ Rank.rising k
HasKey (order.Falling field) rank k = rank ≡ Rank.falling k

-- the mark has the key in the order of a field
abbrev pub MarkHas : Order → Option HitStanding → Key → Type 0
MarkHas o mark k = (standing : HitStanding) × (mark ≡ Some standing) × HasKey o standing.rank k

-- what doesn't come before the standing leaves the page as it is
abbrev pub IsFullBy : BestItems Candidate → HitStanding → Type 0
IsFullBy kept last = (standing : HitStanding) → standing_before standing last ≡ false → TakesIn kept kept (standing ∷ [])

-- the last standing of a page that is full has the key in the order of a field
abbrev pub LastHas : Order → BestItems Candidate → Key → Type 0
LastHas o kept k = (last : HitStanding) × HasKey o last.rank k × IsFullBy kept last

-- a hit that has this key, or none, changes nothing in the page, whether the mark comes before it or not
abbrev pub IsLeftOut : Order → Option HitStanding → BestItems Candidate → Option Key → Type 0
IsLeftOut o mark kept k =
    (standing : HitStanding) → standing.rank ≡ rank_with o k → TakesIn kept kept (if_behind mark standing)

-- ---- keys

-- the first key is at most the second
abbrev pub key_le : Key → Key → Bool
key_le a b = is_le (key_cmp a b)

-- a row with this key has to be looked at
abbrev pub lies_within : Ends → Option Key → Bool
lies_within ends None = ends.missing
lies_within ends (Some k) = open_or (λ a. key_le a k) (option_map key_ref_of ends.low) && open_or (key_le k) (option_map key_ref_of ends.high)

-- what doesn't lie within the ends is left out
abbrev pub AreEndsOf : Order → Option HitStanding → BestItems Candidate → Ends → Type 0
AreEndsOf o mark kept ends = (k : Option Key) → lies_within ends k ≡ false → IsLeftOut o mark kept k

-- the number that is the key
abbrev pub number_of_key : Option Key → Option ℤ
number_of_key None = None
number_of_key (Some (Key.number n)) = Some n
number_of_key (Some (Key.keyword t)) = None

-- the text that is the key
abbrev pub keyword_of : Option Key → Option Text
keyword_of None = None
keyword_of (Some (Key.number n)) = None
keyword_of (Some (Key.keyword t)) = Some t

-- ---- numbers

-- a row with this number has to be looked at
abbrev pub lets_in : NumberBar → Option ℤ → Bool
lets_in bar None = bar.missing
lets_in bar (Some n) = open_or (λ a. int_le a n) bar.low && open_or (int_le n) bar.high

-- what the bar keeps out by its number is left out
abbrev pub IsBarOf : Order → Option HitStanding → BestItems Candidate → NumberBar → Type 0
IsBarOf o mark kept bar = (n : Option ℤ) → lets_in bar n ≡ false → IsLeftOut o mark kept (option_map Key.number n)

-- ---- rows

-- the standings have the ranks of the values, which are keys of one kind
abbrev pub HaveRanks : {X : Type 0} → (X → Key) → Order → List (Option X) → List HitStanding → Type 0
HaveRanks key o values standings = map (λ p. p.rank) standings ≡ map (λ v. rank_with o (option_map key v)) values

-- the standings have the ranks of these keys
abbrev pub HaveRanksOf : Order → List (Option Key) → List HitStanding → Type 0
HaveRanksOf o keys standings = map (λ p. p.rank) standings ≡ map (rank_with o) keys
