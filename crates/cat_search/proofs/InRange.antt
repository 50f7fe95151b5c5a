-- The rows of a range of numbers, in the order of a page.
use Rattle.std.proofs.Common.{◌≡◌, ℕ, ℤ, zero, suc, ◌<◌, ◌+◌, ◌&&◌, List, [], ◌∷◌, ◌++◌, length, get_or, map, filter, cond, count_by, Option, Some, None, IfSome, option_map, Bool, true, false, All, AllPairs, IsPermutation, refl, sym, ap, subst, ◌∙◌, arith}
use Rattle.std.specs.List.{AllByRecursion}
use Rattle.std.proofs.lemmas.List.{length-map}
use Rattle.std.proofs.lemmas.List.Elements.{All-filter, filter_agree}
use Rattle.std.proofs.lemmas.List.Kept.{AllPairs-filter}
use Rattle.std.proofs.lemmas.List.Sorted.{IsPermutation-sym, IsPermutation-trans, length_permutation}
use Rattle.std.proofs.lemmas.List.Sums.{length-filter, count_by-le-length}
use Rattle.cat_model.specs.Item.{Content, content_of, number_in}
use Rattle.cat_model.specs.Page.{Key, key_in}
use Rattle.cat_model.specs.Query.{Query}
use Rattle.cat_model.specs.RowSets.{both, has_row, indices, joined}
use Rattle.cat_model.specs.Text.{Text}
use Rattle.cat_model.specs.View.{Row, item_in, row_matches, selected}
use Rattle.cat_views.specs.cat_segment.Ranges.{lies_between}
use Rattle.cat_views.proofs.Selected.{at_indices, length-joined, selected-joined, selected-map}
use Rattle.cat_search.specs.Bars.{HaveRanks}
use Rattle.cat_search.specs.BestItems.{BestItems}
use Rattle.cat_search.specs.Candidates.{IsBestAt}
use Rattle.cat_search.specs.Pages.{behind, rank_by}
use Rattle.cat_search.specs.Rows.{row_standing}
use Rattle.cat_search.specs.Sorts.{GoesBy}
use Rattle.cat_search.specs.Standings.{HitStanding, Rank, standing_before}
use Rattle.cat_search.specs.Walks.{AreMatchedRows, IsOrderedRun, IsWalk, IsWalkWhere, ranked_number, standing_at}
use Rattle.cat_search.specs.declared.sort.Order.{Order}
use Rattle.cat_search.specs.declared.sort.Order.TheVariants as order
use Rattle.cat_search.specs.declared.sort.OrderField.{OrderField}
use Rattle.cat_search.specs.declared.standings.Candidate.{Candidate}
use Rattle.cat_search.proofs.Arranged.{IsPermutation-filter}
use Rattle.cat_search.proofs.Gathered.{none, standings_at}
use Rattle.cat_search.proofs.Walked.{same_rows, walk_within, walked_all}

pub if_some : {X : Type 0} (P Q : X → Type 0) → ((x : X) → P x → Q x) → (o : Option X) → IfSome o P → IfSome o Q
if_some P Q f (Some x) h = f x h
if_some P Q f None h = tt

-- ---- the number of a row

pub at_mapped : {X Y : Type 0} (f : X → Y) (xs : List X) (i : ℕ) (d : X) → get_or (map f xs) i (f d) ≡ f (get_or xs i d)
at_mapped f [] i d = refl
at_mapped f (x ∷ xs) zero d = refl
at_mapped f (x ∷ xs) (suc i) d = at_mapped f xs i d

shown_rising : (v : Option ℤ) → ranked_number (rank_by Rank.rising (option_map Key.number v)) ≡ v
shown_rising None = refl
shown_rising (Some n) = refl

shown_falling : (v : Option ℤ) → ranked_number (rank_by Rank.falling (option_map Key.number v)) ≡ v
shown_falling None = refl
shown_falling (Some n) = refl

module _ (ranks : List HitStanding) (numbers : List (Option ℤ)) (row : ℕ) where
  rank_at : (rank : Option ℤ → Rank) → rank None ≡ Rank.missing → map (λ p. p.rank) ranks ≡ map rank numbers → rank (get_or numbers row None) ≡ (standing_at ranks row).rank
  rank_at rank last have =
      sym (at_mapped rank numbers row None) ∙ ap (get_or (map rank numbers) row) last ∙ ap (λ l. get_or l row Rank.missing) (sym have)
      ∙ at_mapped (λ p. p.rank) ranks row none

  pub rising_at : (field : OrderField) → HaveRanks Key.number (order.Rising field) numbers ranks → get_or numbers row None ≡ ranked_number (standing_at ranks row).rank
  rising_at field have =
      sym (shown_rising (get_or numbers row None)) ∙ ap ranked_number (rank_at (λ v. rank_by Rank.rising (option_map Key.number v)) refl have)

  pub falling_at : (field : OrderField) → HaveRanks Key.number (order.Falling field) numbers ranks → get_or numbers row None ≡ ranked_number (standing_at ranks row).rank
  falling_at field have =
      sym (shown_falling (get_or numbers row None)) ∙ ap ranked_number (rank_at (λ v. rank_by Rank.falling (option_map Key.number v)) refl have)

-- the rows of a range in an order of the numbers are those of a range in a walk
module _ (low high : Option ℤ) (ranks : List HitStanding) (numbers : List (Option ℤ)) (rows order : List ℕ) (same : (row : ℕ) → get_or numbers row None ≡ ranked_number (standing_at ranks row).rank) where
  pub walk_where : IsWalk ranks order → rows ≡ filter (λ row. lies_between low high (get_or numbers row None)) order → IsWalkWhere (λ standing. lies_between low high (ranked_number standing.rank)) ranks rows
  walk_where is passed = record {
    walk = order;
    all = is;
    passed = passed ∙ filter_agree (λ row. lies_between low high (get_or numbers row None)) (λ row. lies_between low high (ranked_number (standing_at ranks row).rank)) (λ row. ap (lies_between low high) (same row)) order;
  }

-- ---- the same rows in another order

-- those that pass a test, in two orders of all rows
pub passed_alike : (all order other rows walk : List ℕ) (test : ℕ → Bool) → IsPermutation all order → IsPermutation all other
    → rows ≡ filter test order → walk ≡ filter test other → IsPermutation walk rows
passed_alike all order other rows walk test same turned rows_are walk_is =
    let orders : IsPermutation other order = IsPermutation-trans other all order (IsPermutation-sym all other turned) same in
    let kept : IsPermutation (filter test other) (filter test order) = IsPermutation-filter test other order orders in
    subst (λ l. IsPermutation l rows) (sym walk_is) (subst (IsPermutation (filter test other)) (sym rows_are) kept)

-- as many pass a test
pub as_many_pass : (walk rows : List ℕ) (test : ℕ → Bool) → IsPermutation walk rows → count_by test rows ≡ count_by test walk
as_many_pass walk rows test same =
    let kept : IsPermutation (filter test walk) (filter test rows) = IsPermutation-filter test walk rows same in
    sym (length-filter test rows) ∙ length_permutation (filter test walk) (filter test rows) kept ∙ length-filter test walk

-- ---- the rows that a range matches

number_rising : (c : Option Content) → number_in c ≡ ranked_number (rank_by Rank.rising (key_in c))
number_rising None = refl
number_rising (Some (Content.words ws)) = refl
number_rising (Some (Content.keyword None)) = refl
number_rising (Some (Content.keyword (Some k))) = refl
number_rising (Some (Content.number None)) = refl
number_rising (Some (Content.number (Some n))) = refl
number_rising (Some (Content.labels ls)) = refl

number_falling : (c : Option Content) → number_in c ≡ ranked_number (rank_by Rank.falling (key_in c))
number_falling None = refl
number_falling (Some (Content.words ws)) = refl
number_falling (Some (Content.keyword None)) = refl
number_falling (Some (Content.keyword (Some k))) = refl
number_falling (Some (Content.number None)) = refl
number_falling (Some (Content.number (Some n))) = refl
number_falling (Some (Content.labels ls)) = refl

number_is : (o : Order) (name : Text) → GoesBy o name → (row : Row) → number_in (content_of name (item_in row)) ≡ ranked_number (row_standing o row).rank
number_is order.Added name by row = absurd by
number_is (order.Rising field) name by row = ap (λ n. number_in (content_of n (item_in row))) (sym by) ∙ number_rising (content_of field.name.now (item_in row))
number_is (order.Falling field) name by row = ap (λ n. number_in (content_of n (item_in row))) (sym by) ∙ number_falling (content_of field.name.now (item_in row))

module _ (q : Query) (o : Order) (name : Text) (low high : Option ℤ) (by : GoesBy o name) (says : (row : Row) → row_matches q row ≡ lies_between low high (number_in (content_of name (item_in row)))) where
  matched_at : (rs : List Row) (row : ℕ) → lies_between low high (ranked_number (get_or (map (row_standing o) rs) row none).rank) ≡ has_row (map (row_matches q) rs) row
  matched_at [] row = refl
  matched_at (r ∷ rs) zero = sym (says r ∙ ap (lies_between low high) (number_is o name by r))
  matched_at (r ∷ rs) (suc row) = matched_at rs row

  pub matched_rows : (ranks : List HitStanding) (rows : List ℕ) → IsWalkWhere (λ standing. lies_between low high (ranked_number standing.rank)) ranks rows → (rs : List Row) → ranks ≡ map (row_standing o) rs → AreMatchedRows q rs ranks rows
  matched_rows ranks rows w rs is = record {
    walk = w.walk;
    all = w.all;
    matched = w.passed ∙ filter_agree (λ row. lies_between low high (ranked_number (standing_at ranks row).rank)) (has_row (map (row_matches q) rs))
        (λ row. ap (λ ps. lies_between low high (ranked_number (get_or ps row none).rank)) is ∙ matched_at rs row) w.walk;
  }

-- ---- the live ones of them

pub filter-twice : {X : Type 0} (p q r : X → Bool) → ((x : X) → r x ≡ (p x && q x)) → (xs : List X) → filter q (filter p xs) ≡ filter r xs
filter-twice {X} p q r h [] = refl
filter-twice {X} p q r h (x ∷ xs) = step (p x) (q x) (filter-twice p q r h xs) (h x) refl
  where
    front : List X
    front = filter p xs

    all : List X
    all = filter r xs

    step : (a b : Bool) → filter q front ≡ all → r x ≡ (a && b) → q x ≡ b → filter q (cond a (x ∷ front) front) ≡ cond (r x) (x ∷ all) all
    step true b rest e f =
        ap (λ c. cond c (x ∷ filter q front) (filter q front)) f ∙ ap (λ l. cond b (x ∷ l) l) rest ∙ sym (ap (λ c. cond c (x ∷ all) all) e)
    step false b rest e f = rest ∙ sym (ap (λ c. cond c (x ∷ all) all) e)

pub has_row-both : (m l : List Bool) (row : ℕ) → has_row (joined both m l) row ≡ (has_row m row && has_row l row)
has_row-both [] l row = refl
has_row-both (x ∷ m) [] row = sym (never (has_row (x ∷ m) row))
  where
    never : (b : Bool) → (b && false) ≡ false
    never true = refl
    never false = refl
has_row-both (x ∷ m) (y ∷ l) zero = refl
has_row-both (x ∷ m) (y ∷ l) (suc row) = has_row-both m l row

module _ (q : Query) (rs : List Row) (ranks : List HitStanding) (o : Order) (is : ranks ≡ map (row_standing o) rs) (rows : List ℕ) (w : AreMatchedRows q rs ranks rows) where
  abbrev Before : ℕ → ℕ → Type 0
  Before a b = standing_before (standing_at ranks a) (standing_at ranks b) ≡ true

  abbrev matched : List Bool
  matched = map (row_matches q) rs

  pub in_run : IsOrderedRun ranks rows
  in_run = record {
    within = subst (All (λ row. row < length ranks)) (sym w.matched) (All-filter (has_row matched) (λ row. row < length ranks) w.walk (walk_within ranks w.walk w.all));
    rising = subst (AllPairs Before) (sym w.matched) (AllPairs-filter Before (has_row matched) w.walk w.all.rising);
  }

  module _ (live : List Bool) (long : length live ≡ length rs) where
    abbrev hits : List Bool
    hits = joined both matched live

    abbrev live_hits : List Row
    live_hits = filter (row_matches q) (selected live rs)

    hits_long : length hits ≡ length ranks
    hits_long = length-joined both matched live (length-map rs (row_matches q) ∙ sym long) ∙ long ∙ sym (ap length is ∙ length-map rs (row_standing o))

    live_are : filter (has_row live) rows ≡ filter (has_row hits) w.walk
    live_are = ap (filter (has_row live)) w.matched ∙ filter-twice (has_row matched) (has_row live) (has_row hits) (λ row. has_row-both matched live row) w.walk

    standings_are : selected hits ranks ≡ map (row_standing o) live_hits
    standings_are = ap (selected hits) is ∙ selected-map (row_standing o) hits rs ∙ ap (map (row_standing o)) (selected-joined (row_matches q) live rs)

    pub count_is : count_by (has_row live) rows ≡ length live_hits
    count_is =
        sym (length-filter (has_row live) rows) ∙ ap length live_are
        ∙ sym (length_permutation (filter (has_row hits) w.walk) (indices hits) (same_rows ranks w.walk hits hits_long w.all None))
        ∙ sym (length-map (indices hits) (λ i. get_or ranks i none)) ∙ ap length (at_indices hits ranks none hits_long) ∙ ap length standings_are ∙ length-map live_hits (row_standing o)

    pub taken_is : (mark : Option HitStanding) (kept : BestItems Candidate) (ss : List HitStanding) → IsBestAt kept (ss ++ standings_at mark ranks (filter (has_row live) rows)) → IsBestAt kept (ss ++ behind mark (map (row_standing o) live_hits))
    taken_is mark kept ss h =
        subst (λ ps. IsBestAt kept (ss ++ behind mark ps)) standings_are
        (walked_all ranks w.walk hits hits_long w.all mark kept ss (subst (λ l. IsBestAt kept (ss ++ standings_at mark ranks l)) live_are h))

-- ---- all rows are live

all_true : (live : List Bool) → length (filter (λ b. b) live) ≡ length live → (row : ℕ) → row < length live → has_row live row ≡ true
all_true [] e row h = absurd (omega (arith, h))
all_true (true ∷ live) e zero h = refl
all_true (true ∷ live) e (suc row) h = all_true live (omega (arith, e)) row (omega (arith, h))
all_true (false ∷ live) e row h =
    let count = length-filter (λ b. b) live in
    let few = count_by-le-length (λ b. b) live in
    absurd (omega (arith, e, count, few))

all_live : (live : List Bool) → length (filter (λ b. b) live) ≡ length live → (rows : List ℕ) → AllByRecursion (λ row. row < length live) rows → filter (has_row live) rows ≡ rows
all_live live e [] a = refl
all_live live e (row ∷ rows) a =
    ap (λ b. cond b (row ∷ filter (has_row live) rows) (filter (has_row live) rows)) (all_true live e row a.0) ∙ ap (λ l. row ∷ l) (all_live live e rows a.1)

pub all_counted : (live : List Bool) → count_by (λ b. b) live ≡ length live → (rows : List ℕ) → AllByRecursion (λ row. row < length live) rows → length rows ≡ count_by (has_row live) rows
all_counted live e rows a = ap length (sym (all_live live (length-filter (λ b. b) live ∙ e) rows a)) ∙ length-filter (has_row live) rows
