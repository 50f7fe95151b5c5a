-- Hits that are offered in the order of a page.
use Rattle.std.proofs.Common.{◌≡◌, ℕ, ◌+◌, ◌<◌, ◌≤◌, List, [], ◌∷◌, ◌++◌, length, map, filter, take, drop, get_or, cond, set, IsPermutation, Option, Bool, true, false, refl, sym, ◌∙◌, ap, subst, arith, inl, inr, append-nil, append_assoc, ◌&&◌, not, ltb, None, Some}
use Rattle.std.specs.List.{AllByRecursion, range_with_len, swap}
use Rattle.std.proofs.lemmas.Bool.{true≢false, lt-ltb, cases_order}
use Rattle.std.proofs.lemmas.List.{map-append, map-set, get_or-map, take-append-drop, take_at, drop_at, length-map, take-map, drop-map, get_or-take, length-take-le}
use Rattle.std.proofs.lemmas.List.Sorted.{IsPermutation-map, IsPermutation-sym, IsPermutation-refl, IsPermutation-trans, IsPermutation-swap, IsPermutation-keeps, ranks_by}
use Rattle.cat_model.specs.Page.{Key}
use Rattle.cat_model.specs.Ranks.{AreApart, IsStrictOrder, sorted}
use Rattle.cat_model.specs.RowSets.{has_row, indices}
use Rattle.cat_model.specs.View.{selected}
use Rattle.cat_model.proofs.Insert.{strict_from_weak, which, one_way}
use Rattle.cat_model.proofs.Places.{AllApart, each_pair}
use Rattle.cat_search.specs.Bars.{IsFullBy}
use Rattle.cat_search.specs.BestItems.{BestItems}
use Rattle.std.specs.Cmp.{IsStrictWeakOrder}
use Rattle.std.proofs.lemmas.List.FromFn.{length-range_with_len, get_or-range_with_len}
use Rattle.std.proofs.lemmas.List.Sorted.{All-permutation}
use Rattle.std.specs.List.{All}
use Rattle.std.specs.List.Sorted.{IsPartitionedBy}
use Rattle.cat_search.specs.Candidates.{IsBestAt, TakesIn, standing_of, comes_first, rank_of}
use Rattle.cat_search.specs.Keys.{key_ref_of}
use Rattle.cat_search.specs.Pages.{beyond, behind}
use Rattle.cat_search.specs.Standings.{HitStanding, Rank, standing_before}
use Rattle.cat_search.specs.Walks.{IsOrderedRun, IsWalk, is_passed, standing_at}
use Rattle.cat_search.specs.declared.keys.KeyRef.{KeyRef}
use Rattle.cat_search.specs.declared.keys.KeyRef.TheVariants.{Number, Keyword}
use Rattle.cat_search.specs.declared.standings.Candidate.{Candidate}
use Rattle.cat_search.specs.declared.standings.Rank as declared
use Rattle.cat_search.specs.declared.standings.Rank.TheVariants.{Rising, Falling, Missing}
use Rattle.cat_search.specs.contracts.standings.CandidateOrd.TheImpl.Laws.{total-law}
use Rattle.cat_search.proofs.Arranged.{may_be_arranged, IsPermutation-filter}
use Rattle.cat_search.proofs.Candidates.{comes_first-is}
use Rattle.cat_search.proofs.Defined.{each_pair-filter, each_pair-map}
use Rattle.cat_model.proofs.Lists.{All-weaken}
use Rattle.cat_search.proofs.Gathered.{none, standings_at, standings_at-all}

-- ---- elements with given images, in another order

abbrev Beside : {X Y : Type 0} → (X → Y) → List X → List Y → Type 0
Beside {X} f xs ys = (zs : List X) × (map f zs ≡ ys) × IsPermutation xs zs

map-swap : {X Y : Type 0} (f : X → Y) (zs : List X) (i j : ℕ) → i < length zs → j < length zs → map f (swap zs i j) ≡ swap (map f zs) i j
map-swap f [] i j p q = refl
map-swap f (z ∷ zs) i j p q =
    map-set f (set (z ∷ zs) i (get_or (z ∷ zs) j z)) j (get_or (z ∷ zs) i z)
    ∙ ap (λ us. set us j (f (get_or (z ∷ zs) i z))) (map-set f (z ∷ zs) i (get_or (z ∷ zs) j z))
    ∙ ap (λ y. set (set (map f (z ∷ zs)) i y) j (f (get_or (z ∷ zs) i z))) (sym (get_or-map f (z ∷ zs) j z (f z) q))
    ∙ ap (λ y. set (set (map f (z ∷ zs)) i (get_or (map f (z ∷ zs)) j (f z))) j y) (sym (get_or-map f (z ∷ zs) i z (f z) p))

lifted : {X Y : Type 0} (f : X → Y) (xs : List X) (ys : List Y) → IsPermutation (map f xs) ys → Beside f xs ys
lifted {X} {Y} f xs ys same = IsPermutation-keeps (map f xs) (Beside f xs) (xs, refl, IsPermutation-refl xs) step ys same
  where
    step : (l : List Y) (i j : ℕ) → i < length l → j < length l → Beside f xs l → Beside f xs (swap l i j)
    step l i j p q h =
        let zs = h.0 in
        let long : length l ≡ length zs = ap length (sym h.1) ∙ length-map zs f in
        let p' : i < length zs = omega (arith, long) in
        let q' : j < length zs = omega (arith, long) in
        (swap zs i j, map-swap f zs i j p' q' ∙ ap (λ us. swap us i j) h.1, IsPermutation-trans xs zs (swap zs i j) h.2 (IsPermutation-swap zs (swap zs i j) i j p' q' refl))

-- ---- the order of candidates, and that of standings, is strict

pub candidate_strict : IsStrictOrder comes_first
candidate_strict = strict_from_weak comes_first (ranks_by total-law (λ c. c))

abbrev pub as_ref : Key → KeyRef
as_ref (Key.number z) = Number z
as_ref (Key.keyword t) = Keyword (record { ref_ptr = (0, 0); now = t })

abbrev pub as_rank : Rank → declared.Rank
as_rank (Rank.rising k) = Rising (as_ref k)
as_rank (Rank.falling k) = Falling (record { 0 = as_ref k })
as_rank Rank.missing = Missing

abbrev pub as_candidate : HitStanding → Candidate
as_candidate p = record { rank = as_rank p.rank; number = p.number; id = record { ref_ptr = (0, 0); now = p.id } }

as_ref-is : (k : Key) → key_ref_of (as_ref k) ≡ k
as_ref-is (Key.number z) = refl
as_ref-is (Key.keyword t) = refl

as_rank-is : (r : Rank) → rank_of (as_rank r) ≡ r
as_rank-is (Rank.rising k) = ap Rank.rising (as_ref-is k)
as_rank-is (Rank.falling k) = ap Rank.falling (as_ref-is k)
as_rank-is Rank.missing = refl

pub as_candidate-is : (p : HitStanding) → standing_of (as_candidate p) ≡ p
as_candidate-is p = λ i. record { rank = (as_rank-is p.rank) i; number = p.number; id = p.id }

before_alike : (p q : HitStanding) → standing_before p q ≡ comes_first (as_candidate p) (as_candidate q)
before_alike p q = sym (
    comes_first-is (as_candidate p) (as_candidate q)
    ∙ ap (λ u. standing_before u (standing_of (as_candidate q))) (as_candidate-is p) ∙ ap (λ u. standing_before p u) (as_candidate-is q)
    )

pub standing_strict : IsStrictOrder standing_before
standing_strict = record {
  irreflexive = λ p. before_alike p p ∙ candidate_strict.irreflexive (as_candidate p);
  transitive = λ p q r e f. before_alike p r ∙ candidate_strict.transitive (as_candidate p) (as_candidate q) (as_candidate r) (sym (before_alike p q) ∙ e) (sym (before_alike q r) ∙ f);
}

candidate_weak : IsStrictWeakOrder comes_first
candidate_weak = ranks_by total-law (λ c. c)

-- a page that leaves out what doesn't come before the one leaves out what doesn't come before a later one
pub later_full : (kept : BestItems Candidate) (last candidate : Candidate) → IsFullBy kept (standing_of last) → comes_first candidate last ≡ false → IsFullBy kept (standing_of candidate)
later_full kept last candidate full e p late =
    let c = as_candidate p in
    let is : standing_of c ≡ p = as_candidate-is p in
    let not_first : comes_first c candidate ≡ false = comes_first-is c candidate ∙ ap (λ u. standing_before u (standing_of candidate)) is ∙ late in
    full p (sym (comes_first-is c last ∙ ap (λ u. standing_before u (standing_of last)) is) ∙ candidate_weak.chain c candidate last not_first e)

-- ---- what was offered in one order was so in another

apart_one : (c d : Candidate) → AreApart standing_before (standing_of c) (standing_of d) → AreApart comes_first c d
apart_one c d (inl e) = inl (comes_first-is c d ∙ e)
apart_one c d (inr e) = inr (comes_first-is d c ∙ e)

apart_beside : (c : Candidate) (cs : List Candidate) → AllByRecursion (AreApart standing_before (standing_of c)) (map standing_of cs) → AllByRecursion (AreApart comes_first c) cs
apart_beside c [] a = tt
apart_beside c (d ∷ ds) a = (apart_one c d a.0, apart_beside c ds a.1)

apart_all : (cs : List Candidate) → AllApart standing_before (map standing_of cs) → AllApart comes_first cs
apart_all [] a = tt
apart_all (c ∷ cs) a = (apart_beside c cs a.0, apart_all cs a.1)

pub best_arranged : (kept : BestItems Candidate) (ss ps qs : List HitStanding) → AllApart standing_before ps → IsPermutation ps qs → IsBestAt kept (ss ++ ps) → IsBestAt kept (ss ++ qs)
best_arranged kept ss ps qs apart same h =
    let offered = h.0 in
    let n = length ss in
    let front = take n offered in
    let back = drop n offered in
    let fronts : map standing_of front ≡ ss = sym (take-map standing_of n offered) ∙ ap (take n) h.1 ∙ take_at ss ps n refl in
    let backs : map standing_of back ≡ ps = sym (drop-map standing_of n offered) ∙ ap (drop n) h.1 ∙ drop_at ss ps n refl in
    let other = lifted standing_of back qs (subst (λ l. IsPermutation l qs) (sym backs) same) in
    let back_apart : AllApart comes_first back = apart_all back (subst (AllApart standing_before) (sym backs) apart) in
    let sorts : sorted comes_first offered ≡ sorted comes_first (front ++ other.0) =
    ap (sorted comes_first) (sym (take-append-drop n offered)) ∙ may_be_arranged comes_first candidate_strict front back other.0 back_apart other.2 in (
      front ++ other.0,
      map-append standing_of front other.0 ∙ ap (λ l. l ++ map standing_of other.0) fronts ∙ ap (λ l. ss ++ l) other.1,
      record { first = h.2.first ∙ ap (take kept.limit) sorts; ready = h.2.ready; front = h.2.front },
    )

-- ---- a walk

module _ (ranks : List HitStanding) (walk : List ℕ) (hits : List Bool) (long : length hits ≡ length ranks) (is : IsWalk ranks walk) (mark : Option HitStanding) where
  abbrev walked : List ℕ
  walked = filter (has_row hits) walk

  pub same_rows : IsPermutation walked (indices hits)
  same_rows =
      IsPermutation-filter (has_row hits) walk (range_with_len 0 (length hits))
      (subst (λ n. IsPermutation walk (range_with_len 0 n)) (sym long) (IsPermutation-sym (range_with_len 0 (length ranks)) walk is.rows))

  same_standings : IsPermutation (standings_at mark ranks walked) (behind mark (selected hits ranks))
  same_standings =
      subst (IsPermutation (standings_at mark ranks walked)) (standings_at-all mark ranks hits (indices hits) long refl)
      (IsPermutation-filter (beyond mark) (map (λ i. get_or ranks i none) walked) (map (λ i. get_or ranks i none) (indices hits))
      (IsPermutation-map (λ i. get_or ranks i none) walked (indices hits) same_rows))

  apart_standings : AllApart standing_before (standings_at mark ranks walked)
  apart_standings =
      each_pair-filter (AreApart standing_before) (beyond mark) (map (λ i. get_or ranks i none) walked)
      (each_pair-map (λ i. get_or ranks i none) (AreApart standing_before) walked
      (each_pair-filter (λ a b. AreApart standing_before (get_or ranks a none) (get_or ranks b none)) (has_row hits) walk
      (each_pair (λ a b. AreApart standing_before (get_or ranks a none) (get_or ranks b none)) walk (λ i j d p q. inl (is.rising i j d p q)))))

  -- all of the walk was offered
  pub walked_all : (kept : BestItems Candidate) (ss : List HitStanding) → IsBestAt kept (ss ++ standings_at mark ranks walked) → IsBestAt kept (ss ++ behind mark (selected hits ranks))
  walked_all kept ss h = best_arranged kept ss (standings_at mark ranks walked) (behind mark (selected hits ranks)) apart_standings same_standings h

-- what stands behind one that a full page leaves out is left out
pub rest_left_out : (mark : Option HitStanding) (ranks : List HitStanding) (kept : BestItems Candidate) (p : HitStanding) → IsFullBy kept p → (rows : List ℕ) → AllByRecursion (λ r. standing_before (get_or ranks r none) p ≡ false) rows
    → TakesIn kept kept (standings_at mark ranks rows)
rest_left_out mark ranks kept p full [] a = λ ss h. subst (IsBestAt kept) (sym (append-nil ss)) h
rest_left_out mark ranks kept p full (r ∷ rows) a = λ ss h.
    let s = get_or ranks r none in
    let rest = rest_left_out mark ranks kept p full rows a.1 in
    elim (which (beyond mark s)) [
      | inl e ↦ subst (λ b. IsBestAt kept (ss ++ cond b (s ∷ standings_at mark ranks rows) (standings_at mark ranks rows))) (sym e)
          (subst (IsBestAt kept) (append_assoc ss (s ∷ []) (standings_at mark ranks rows)) (rest (ss ++ s ∷ []) (full s a.0 ss h)))
      | inr e ↦ subst (λ b. IsBestAt kept (ss ++ cond b (s ∷ standings_at mark ranks rows) (standings_at mark ranks rows))) (sym e) (rest ss h)
    ]

-- each row of a walk is one of the segment
pub walk_within : (ranks : List HitStanding) (walk : List ℕ) → IsWalk ranks walk → All (λ r. r < length ranks) walk
walk_within ranks walk is = All-permutation (λ r. r < length ranks) (range_with_len 0 (length ranks)) walk is.rows range_within
  where
    range_within : All (λ r. r < length ranks) (range_with_len 0 (length ranks))
    range_within k d h =
        let long = length-range_with_len 0 (length ranks) in
        let within : k < length ranks = omega (arith, h, long) in
        let at = get_or-range_with_len 0 (length ranks) k d within in
        omega (arith, within, at)

-- a walk stands in the order of the page
pub walk_runs : (ranks : List HitStanding) (walk : List ℕ) → IsWalk ranks walk → IsOrderedRun ranks walk
walk_runs ranks walk is = record { within = walk_within ranks walk is; rising = is.rising }

-- neither a row nor one that it comes before comes before it
pub none_before : (ranks : List HitStanding) (row : ℕ) (rest : List ℕ) → AllByRecursion (λ r. standing_before (standing_at ranks row) (standing_at ranks r) ≡ true) rest
    → AllByRecursion (λ r. standing_before (standing_at ranks r) (standing_at ranks row) ≡ false) (row ∷ rest)
none_before ranks row rest follow = (
  standing_strict.irreflexive (standing_at ranks row),
  All-weaken (λ r. standing_before (standing_at ranks row) (standing_at ranks r) ≡ true) (λ r. standing_before (standing_at ranks r) (standing_at ranks row) ≡ false)
      (λ r e. one_way standing_before standing_strict (standing_at ranks row) (standing_at ranks r) e) rest follow,
)

-- ---- a walk that begins behind a mark

pub passed_from : (mark : Option HitStanding) (ranks : List HitStanding) (row : ℕ) → is_passed mark ranks row ≡ true → beyond mark (standing_at ranks row) ≡ false
passed_from mark ranks row e = by (ltb row (length ranks)) (beyond mark (standing_at ranks row)) e
  where
    by : (a b : Bool) → (a && not b) ≡ true → b ≡ false
    by true false e = refl
    by true true e = absurd (true≢false (sym e))
    by false b e = absurd (true≢false (sym e))

passed_to : (mark : Option HitStanding) (ranks : List HitStanding) (row : ℕ) → row < length ranks → beyond mark (standing_at ranks row) ≡ false → is_passed mark ranks row ≡ true
passed_to mark ranks row h e = ap (λ a. a && not (beyond mark (standing_at ranks row))) (lt-ltb row (length ranks) h) ∙ ap not e

-- the mark doesn't come before what comes before one that it doesn't come before
pub stays_passed : (mark : Option HitStanding) (p q : HitStanding) → standing_before p q ≡ true → beyond mark q ≡ false → beyond mark p ≡ false
stays_passed None p q e f = absurd (true≢false f)
stays_passed (Some m) p q e f = elim (which (standing_before m p)) [
  | inl t ↦ absurd (true≢false (sym (standing_strict.transitive m p q t e) ∙ f))
  | inr g ↦ g
]

module _ (mark : Option HitStanding) (ranks : List HitStanding) where
  abbrev pub Passed : ℕ → Type 0
  Passed row = beyond mark (standing_at ranks row) ≡ false

  -- the rows that the mark doesn't come before stand at the head
  pub parted_passed : (rows : List ℕ) → IsOrderedRun ranks rows → IsPartitionedBy (is_passed mark ranks) rows
  parted_passed rows is i j d p q e = elim (cases_order i j) [
    | inl same ↦ ap (λ k. is_passed mark ranks (get_or rows k d)) same ∙ e
    | inr other ↦ elim other [
      | inl under ↦
          let a = get_or rows i d in
          let b = get_or rows j d in
          passed_to mark ranks a (is.within i d (omega (arith, under, q))) (stays_passed mark (standing_at ranks a) (standing_at ranks b) (is.rising i j d under q) (passed_from mark ranks b e))
      | inr over ↦ absurd (omega (arith, p, over))
    ]
  ]

  -- from where the rows are parted
  pub passed_before : (rows : List ℕ) (n : ℕ) → n ≤ length rows → ((k d : ℕ) → k < n → is_passed mark ranks (get_or rows k d) ≡ true) → All Passed (take n rows)
  passed_before rows n h each k d q =
      let short = length-take-le n rows h in
      let under : k < n = omega (arith, q, short) in
      subst Passed (sym (get_or-take n rows k d under)) (passed_from mark ranks (get_or rows k d) (each k d under))

  -- none of the rows that the mark doesn't come before is offered
  pub none_offered : (rows : List ℕ) → AllByRecursion Passed rows → standings_at mark ranks rows ≡ []
  none_offered [] a = refl
  none_offered (r ∷ rows) a = ap (λ b. cond b (get_or ranks r none ∷ standings_at mark ranks rows) (standings_at mark ranks rows)) a.0 ∙ none_offered rows a.1
